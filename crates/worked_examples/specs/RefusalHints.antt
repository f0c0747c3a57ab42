-- What is advised of refusals, worked out.
use Rattle.std.specs.Prelude.{◌≡◌, false, refl, codes}
use Rattle.refusal_hints.specs.Distance.{distance, is_near}
use Rattle.refusal_hints.specs.Fields.{kind_advice}
use Rattle.refusal_hints.specs.Hints.{spelling_advice}
use Rattle.refusal_hints.specs.Names.{near_names}
use Rattle.refusal_hints.specs.Tables.{averages, comments, decimals, natural_joins, points, statement_words, texts}
use Rattle.refusal_hints.specs.Words.{word_before}

-- the word before a parenthesis
average : spelling_advice (codes "select avg(a) from r") 10 ≡ averages
unfolding texts
average = refl

-- two bytes, of which the second is refused
comment : spelling_advice (codes "select 1 /* one */") 10 ≡ comments
unfolding texts
comment = refl

point : spelling_advice (codes "select 12.50") 9 ≡ points
unfolding texts
point = refl

column-kind : spelling_advice (codes "create table r (a decimal(10, 2))") 18 ≡ decimals
unfolding texts
column-kind = refl

-- a word of the statement, and not of the one before it
natural : spelling_advice (codes "select 1; select * from r natural join s;") 40 ≡ natural_joins
unfolding texts statement_words
natural = refl

before : word_before (codes "select cast ( a") 14 ≡ codes "cast"
before = refl

-- two letters that are swapped are two letters apart
swapped : distance (codes "nmae") (codes "name") ≡ 2
unfolding distance
swapped = refl

short-word : is_near (codes "no") (codes "by") ≡ false
unfolding distance
short-word = refl

-- names that the script makes are meant, in the order of their first appearance
table-names : near_names (codes "table ab view ac ad") 17 ≡ codes "names that are spelt nearly so: ab, ac"
unfolding distance
table-names = refl

date-field : kind_advice (codes "2024-01-31") ≡ codes "there are no dates: keep them in a TEXT column, best as 2024-01-31"
date-field = refl

thousands-field : kind_advice (codes "1,234") ≡ codes "an integer has no marks between thousands: leave them out"
thousands-field = refl
