-- What the words of a command line ask for. `clap`'s definition of a simple command decides: which words it takes, and what
-- it finds in them.
use Rattle.std.specs.Prelude.{◌==◌, ℕ, Bool, true, false, cond, List, [], ◌∷◌, Option, Some, None, codes}
use Rattle.std.specs.Str.Parse.{digits_value, without_leading_plus}
use Rattle.clap.specs.Faults.{fault_of}
use Rattle.clap.specs.Kinds.{Kinds}
use Rattle.clap.specs.Simple.{App, matches_of, new_app, new_rule, on_top, with_rule}
use Rattle.clap.specs.ValueTests.{is_unsigned_in}
use Rattle.clap.specs.Walk.{Row, Rule, first_of}
use Rattle.clap.specs.declared.builder.value_parser.ValueParser.TheVariants.{Unsigned}
use Rattle.perm_engine.specs.declared.meaning.words.wanted.Wanted.{Wanted}
use Rattle.perm_engine.specs.declared.meaning.words.wanted.Wanted.TheVariants.{Script, Generated, Misworded}

-- SCRIPT, a word in its place
abbrev pub script_rule : Rule
script_rule = new_rule (codes "script")

-- --generate, with a number from 1 to 100,000
abbrev pub generate_rule : Rule
generate_rule = record (new_rule (codes "generate")) { long = Some (codes "generate"); parser = Some (Unsigned 1 100000) }

-- the command; the program's name isn't among its words
abbrev pub command : App
command =
    with_rule (with_rule (on_top (λ s. record s { no_binary_name = true }) (new_app (codes "perm"))) script_rule) generate_rule

-- the number that the text names, from 1 to 100,000
abbrev pub numbered : List ℕ → Wanted
numbered text =
    cond (is_unsigned_in 1 100000 text) (Generated (digits_value 10 (without_leading_plus text))) Misworded

-- the text of SCRIPT and that of --generate: exactly one of them is there
abbrev pub one_of_both : Option (List ℕ) → Option (List ℕ) → Wanted
one_of_both (Some name) None = Script name
one_of_both None (Some text) = numbered text
one_of_both (Some name) (Some text) = Misworded
one_of_both None None = Misworded

-- what was found in words with which these things are wrong
abbrev pub asked_by : Kinds → List Row → Wanted
asked_by [] rows = one_of_both (first_of (codes "script") rows) (first_of (codes "generate") rows)
asked_by (wrong ∷ others) rows = Misworded

unfoldable pub request_of : List (List ℕ) → Wanted
request_of words = asked_by (fault_of command words) (matches_of command words)

-- the word begins with `-` (45)
abbrev pub is_dashed : List ℕ → Bool
is_dashed [] = false
is_dashed (first ∷ others) = first == 45
