-- The plan of a generated script, and its text.
use Rattle.std.proofs.Common.{◌≡◌, ◌∙◌, ℕ, zero, suc, ◌+◌, ◌%◌, ◌<◌, ◌^◌, Bool, List, [], ◌∷◌, ◌++◌, refl, sym, ap, ap₂, arith, append_assoc}
use Rattle.std.specs.Prelude.{codes, if◌then◌else◌}
use Rattle.std.specs.Fmt.{decimal, digits}
use Rattle.std.specs.List.{flat_map, range_with_len}
use Rattle.std.specs.Str.Parse.{AllDigits}
use Rattle.std.proofs.lemmas.Bool.{ne_eqb}
use Rattle.std.proofs.lemmas.Fmt.{decimal_is_IsNumeral}
use Rattle.std.proofs.lemmas.Str.Parse.{digit_from_value}
use Rattle.sql_lexer.specs.Bytes.{doubled}
use Rattle.sql_tree.specs.grammar.Rules.{◌then◌, many, optional, symbol, word}
use Rattle.sql_tree.specs.grammar.Sorts.{word_sort}
use Rattle.sql_tree.specs.grammar.Symbols as n
use Rattle.sql_tree.specs.declared.grammar.sort.Sort.TheVariants as s
use Rattle.tree_texts.specs.plans.Plans.{Plan, a_word, as_symbol, both, one_last, one_more, present, text_of}
use Rattle.perm_engine.specs.meaning.generation.Generated.{big_row, big_rows, generated, queries, small_rows, tables}
use Rattle.perm_engine.proofs.meaning.generation.Parts.{IsPlain, column, column_of, count_all, created, equal, from, from_joined, group_by, inserted, integers, is_in, less, more_rows, number, one_item, queried, query_as, row, select, select_where, sum_of, table, text_value, texts, traced, traced_groups, traced_where, two_items}
use Rattle.tree_texts.specs.plans.Levels.{expression}
use Rattle.perm_engine.proofs.meaning.generation.Rows.{line}

-- ---- the names

pub big : IsPlain (codes "big")
unfolding word_sort
big = refl

pub small : IsPlain (codes "small")
unfolding word_sort
small = refl

pub k : IsPlain (codes "k")
unfolding word_sort
k = refl

pub g : IsPlain (codes "g")
unfolding word_sort
g = refl

pub t : IsPlain (codes "t")
unfolding word_sort
t = refl

pub x : IsPlain (codes "x")
unfolding word_sort
x = refl

pub name : IsPlain (codes "name")
unfolding word_sort
name = refl

-- ---- the rows

abbrev pub big_at : ℕ → Plan (symbol n.Row)
big_at place =
    row (both (expression (number (place + 1))) (one_more (both (a_word refl) (expression (number ((place + 1) % 10))))
    (one_last (both (a_word refl) (expression (text_value (codes "t" ++ decimal ((place + 1) % 100))))))))

abbrev pub small_at : ℕ → Plan (symbol n.Row)
small_at digit = row (both (expression (number digit)) (one_last (both (a_word refl) (expression (text_value (codes "n" ++ decimal digit))))))

-- ---- the statements

abbrev pub first_table : Plan (symbol n.StatementOf)
first_table =
    created (codes "big") big (both (integers (codes "k") k) (one_more (both (a_word refl) (integers (codes "g") g)) (one_last (both (a_word refl) (texts (codes "t") t)))))

abbrev pub second_table : Plan (symbol n.StatementOf)
second_table = created (codes "small") small (both (integers (codes "g") g) (one_last (both (a_word refl) (texts (codes "name") name))))

abbrev pub first_rows : ℕ → Plan (symbol n.StatementOf)
first_rows others = inserted (codes "big") big (both (big_at 0) (more_rows big_at 1 others))

abbrev pub second_rows : Plan (symbol n.StatementOf)
second_rows = inserted (codes "small") small (both (small_at 0) (more_rows small_at 1 9))

abbrev pub sums : Plan (symbol n.StatementOf)
sums = queried (select (two_items count_all (sum_of (column (codes "k") k))) (from (table (codes "big") big)))

abbrev pub counted : Plan (symbol n.CoreOf) → Plan (symbol n.StatementOf)
counted p = queried (select (one_item count_all) (from (query_as p (codes "x") x)))

abbrev pub by_group : Plan (symbol n.CoreOf)
by_group =
    traced_groups (two_items (column (codes "g") g) count_all) (from (table (codes "big") big)) (group_by (codes "g") g)

abbrev pub by_join : Plan (symbol n.CoreOf)
by_join =
    traced (one_item (column_of (codes "big") (codes "k") big k)) (from_joined (table (codes "big") big) (table (codes "small") small)
    (equal (column_of (codes "big") (codes "g") big g) (column_of (codes "small") (codes "g") small g)))

abbrev pub below_three : Plan (symbol n.CoreOf)
below_three =
    select_where (one_item (column_of (codes "small") (codes "g") small g)) (from (table (codes "small") small))
    (less (column_of (codes "small") (codes "g") small g) (number 3))

abbrev pub by_sublink : Plan (symbol n.CoreOf)
by_sublink = traced_where (one_item (column (codes "k") k)) (from (table (codes "big") big)) (is_in (column (codes "g") g) below_three)

-- a statement behind a semicolon
abbrev Next : Type 0
Next = Plan (word s.Semicolon then optional (symbol n.StatementOf))

abbrev next : Plan (symbol n.StatementOf) → Next
next p = both (a_word refl) (present p)

-- the statements behind the rows of big
abbrev pub others : Plan (many (word s.Semicolon then optional (symbol n.StatementOf)))
others =
    one_more (next second_rows) (one_more (next sums) (one_more (next (counted by_group)) (one_more (next (counted by_join))
    (one_last (next (counted by_sublink))))))

-- the script with one row and so many others
abbrev pub script : ℕ → Plan (symbol n.ScriptOf)
script more = as_symbol (both (present first_table) (one_more (next second_table) (one_more (next (first_rows more)) others)))

-- ---- the text of a row

two : (d a b : List ℕ) → ((d ++ 32 ∷ []) ++ a) ++ b ≡ d ++ (32 ∷ (a ++ b))
two d a b = append_assoc (d ++ 32 ∷ []) a b ∙ append_assoc d (32 ∷ []) (a ++ b)

three : (d b : List ℕ) → ((d ++ 39 ∷ []) ++ 32 ∷ []) ++ b ≡ d ++ (39 ∷ 32 ∷ b)
three d b = append_assoc (d ++ 39 ∷ []) (32 ∷ []) b ∙ append_assoc d (39 ∷ []) (32 ∷ b)

abbrev closing : List ℕ
closing = 41 ∷ 32 ∷ []

row_laid : (a b c : List ℕ) → codes "( " ++ a ++ codes " , " ++ b ++ codes " , 't" ++ c ++ codes "' ) " ≡
    codes "( " ++ (((a ++ 32 ∷ []) ++ (44 ∷ 32 ∷ ((b ++ 32 ∷ []) ++ (44 ∷ 32 ∷ 39 ∷ 116 ∷ ((c ++ 39 ∷ []) ++ 32 ∷ []))))) ++ closing)
row_laid a b c =
    ap (λ rest. 40 ∷ 32 ∷ rest)
    (append_assoc (((a ++ codes " , ") ++ b) ++ codes " , 't") c (codes "' ) ")
    ∙ append_assoc ((a ++ codes " , ") ++ b) (codes " , 't") (c ++ codes "' ) ")
    ∙ append_assoc (a ++ codes " , ") b (codes " , 't" ++ (c ++ codes "' ) "))
    ∙ append_assoc a (codes " , ") (b ++ (codes " , 't" ++ (c ++ codes "' ) ")))
    ∙ sym (two a (44 ∷ 32 ∷ ((b ++ 32 ∷ []) ++ (44 ∷ 32 ∷ 39 ∷ 116 ∷ ((c ++ 39 ∷ []) ++ 32 ∷ [])))) closing
    ∙ ap (λ rest. a ++ (32 ∷ 44 ∷ 32 ∷ rest)) (two b (44 ∷ 32 ∷ 39 ∷ 116 ∷ ((c ++ 39 ∷ []) ++ 32 ∷ [])) closing
    ∙ ap (λ rest. b ++ (32 ∷ 44 ∷ 32 ∷ 39 ∷ 116 ∷ rest)) (three c closing))))

-- digits have no quotes
undoubled : (ds : List ℕ) → AllDigits 10 ds → doubled 39 ds ≡ ds
undoubled [] h = refl
undoubled (d ∷ ds) h =
    ap₂ (λ (quote : Bool) (rest : List ℕ). (if quote then 39 ∷ 39 ∷ [] else d ∷ []) ++ rest) (ne_eqb d 39 (λ e. omega (arith, digit_from_value d h.0))) (undoubled ds h.1)

row_text : (place : ℕ) → place + 1 < 2 ^ 63 → text_of (big_at place) ≡ big_row (place + 1)
row_text place fits =
    let last = decimal ((place + 1) % 100) in
    let plain = undoubled last (decimal_is_IsNumeral ((place + 1) % 100) (omega arith)).0.1 in
    ap (λ text. codes "( " ++ (((decimal (place + 1) ++ 32 ∷ []) ++ (44 ∷ 32 ∷ ((decimal ((place + 1) % 10) ++ 32 ∷ [])
    ++ (44 ∷ 32 ∷ 39 ∷ 116 ∷ ((text ++ 39 ∷ []) ++ 32 ∷ []))))) ++ closing)) plain
    ∙ sym (row_laid (decimal (place + 1)) (decimal ((place + 1) % 10)) last)

more_text : (place count : ℕ) → suc place + count < 2 ^ 63 → text_of (more_rows big_at (suc place) count) ≡ flat_map line (range_with_len (suc place) count)
more_text place zero fits = refl
more_text place (suc count) fits =
    let onward : suc (suc place) ≡ suc place + 1 = omega arith in
    ap₂ (λ here behind. (codes ", " ++ here) ++ behind) (row_text (suc place) (omega (arith, fits)))
    (more_text (suc place) count (omega (arith, fits)) ∙ ap (λ from_here. flat_map line (range_with_len from_here count)) onward)

rows_text : (count : ℕ) → count + 1 < 2 ^ 63 → text_of (big_at 0) ++ text_of (more_rows big_at 1 count) ≡ big_rows (suc count)
rows_text count fits = ap₂ (λ here behind. here ++ behind) (row_text 0 (omega (arith, fits))) (more_text 0 count (omega (arith, fits)))

-- ---- the text of the script

others_text : text_of others ≡ codes "; insert into small values " ++ small_rows ++ codes "; " ++ queries
unfolding digits
others_text = refl

abbrev opening : List ℕ
opening = tables ++ codes "insert into big values "

laid_out : (more : ℕ) → text_of (script more) ≡ opening ++ ((text_of (big_at 0) ++ text_of (more_rows big_at 1 more)) ++ text_of others)
laid_out more = refl

generated_is : (rows : ℕ) → generated rows ≡ opening ++ (big_rows rows ++ (codes "; insert into small values " ++ small_rows ++ codes "; " ++ queries))
unfolding generated
generated_is rows =
    append_assoc (opening ++ big_rows rows ++ codes "; insert into small values " ++ small_rows) (codes "; ") queries
    ∙ append_assoc (opening ++ big_rows rows ++ codes "; insert into small values ") small_rows (codes "; " ++ queries)
    ∙ append_assoc (opening ++ big_rows rows) (codes "; insert into small values ") (small_rows ++ (codes "; " ++ queries))
    ∙ append_assoc opening (big_rows rows) (codes "; insert into small values " ++ (small_rows ++ (codes "; " ++ queries)))

pub script_text : (more : ℕ) → more + 1 < 2 ^ 63 → text_of (script more) ≡ generated (suc more)
script_text more fits =
    laid_out more ∙ ap₂ (λ rows behind. opening ++ (rows ++ behind)) (rows_text more fits) others_text ∙ sym (generated_is (suc more))
