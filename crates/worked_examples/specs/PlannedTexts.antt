-- Worked examples of plans: a SELECT with a join, one with a lateral join, a UNION of queries in parentheses, and an EXISTS, each with its text.
use Rattle.std.specs.Prelude.{◌≡◌, ℕ, List, codes, refl}
use Rattle.std.specs.Fmt.{digits}
use Rattle.sql_tree.specs.grammar.Grammar.{derived as derived_rule}
use Rattle.sql_tree.specs.grammar.Rules.{◌then◌, symbol}
use Rattle.sql_tree.specs.grammar.Symbols as n
use Rattle.sql_tree.specs.declared.grammar.sort.Sort.TheVariants as s
use Rattle.tree_texts.specs.plans.Blanks.{Blank, left_out, none, both_blank, blank_symbol}
use Rattle.tree_texts.specs.plans.Levels.{a_name, a_number, a_column, literal, reference, operand, tested, expression, query, inner, core, enclosed, in_parentheses}
use Rattle.tree_texts.specs.plans.Plans.{Plan, here, a_word, a_choice, both, before, behind, first, second, front_first, front_second, present, one_last, at_start, as_symbol, text_of}

-- ---- parts

abbrev column : List ℕ → Plan (symbol n.Primary)
column name = reference (a_column name)

-- a SELECT list of one item
abbrev item : Plan (symbol n.Primary) → Plan (symbol n.Items)
item p = as_symbol (before (as_symbol (second (front_second (as_symbol (before (expression p) (blank_symbol left_out)))))) none)

abbrev number : ℕ → Plan (symbol n.Items)
number value = item (literal (a_number value))

-- no GROUP BY and no HAVING
abbrev ungrouped : Blank (symbol n.Groups then symbol n.Having)
ungrouped = both_blank (blank_symbol left_out) (blank_symbol left_out)

-- SELECT of one number
abbrev one : ℕ → Plan (symbol n.CoreOf)
one value =
    as_symbol (at_start (both (a_word refl) (behind left_out (behind left_out (before (number value)
    (both_blank (blank_symbol left_out) (both_blank (blank_symbol left_out) ungrouped)))))))

abbrev table : List ℕ → Plan (symbol n.Source)
table name = as_symbol (before (at_start (as_symbol (first (before (a_name name) (blank_symbol left_out))))) (blank_symbol left_out))

-- ---- a join

abbrev equal : List ℕ → List ℕ → Plan (symbol n.Expr)
equal left right =
    tested (as_symbol (both (operand (column left)) (present (as_symbol (both (a_choice {sort = s.Equal} refl here) (second (operand (column right))))))))

abbrev join : Plan (symbol n.Join)
join =
    as_symbol (first (both (as_symbol (first (behind left_out (a_word refl))))
    (both (table (codes "u")) (both (a_word refl) (equal (codes "a") (codes "b"))))))

abbrev joined : Plan (symbol n.Sources)
joined = as_symbol (present (both (a_word refl) (before (as_symbol (both (table (codes "t")) (one_last join))) none)))

abbrev pub select_join : Plan (symbol n.Query)
select_join =
    query (core (as_symbol (at_start (both (a_word refl) (behind left_out (behind left_out (both (item (column (codes "a")))
    (before joined (both_blank (blank_symbol left_out) ungrouped)))))))))

example-join_text : text_of select_join ≡ codes "select \"a\" from \"t\" join \"u\" on \"a\" = \"b\" "
example-join_text = refl

-- ---- a lateral join

abbrev derived : Plan derived_rule
derived = both (a_word refl) (both (query (core (one 1))) (both (a_word refl) (behind left_out (a_name (codes "x")))))

abbrev lateral_join : Plan (symbol n.Join)
lateral_join =
    as_symbol (second (first (as_symbol (both (a_word refl) (behind left_out (both (a_word refl)
    (front_first (both (both (a_word refl) (at_start derived)) (both (a_word refl) (a_word refl))))))))))

abbrev pub select_lateral : Plan (symbol n.Query)
select_lateral =
    query (core (as_symbol (at_start (both (a_word refl) (behind left_out (behind left_out (both (item (column (codes "a")))
    (before (as_symbol (present (both (a_word refl) (before (as_symbol (both (table (codes "t")) (one_last lateral_join))) none))))
    (both_blank (blank_symbol left_out) ungrouped)))))))))

example-lateral_text : text_of select_lateral ≡ codes "select \"a\" from \"t\" left join lateral ( select 1 ) \"x\" on true "
unfolding digits
example-lateral_text = refl

-- ---- a UNION of queries in parentheses

abbrev pub union : Plan (symbol n.Query)
union =
    as_symbol (at_start (both (enclosed (query (core (one 1)))) (as_symbol (behind none (before
    (one_last (as_symbol (both (a_choice {sort = s.Union} refl here)
    (behind left_out (at_start (as_symbol (before (enclosed (query (core (one 2)))) none)))))))
    (both_blank (blank_symbol left_out) (blank_symbol left_out)))))))

example-union_text : text_of union ≡ codes "( select 1 ) union ( select 2 ) "
unfolding digits
example-union_text = refl

-- ---- EXISTS

abbrev exists : Plan (symbol n.CoreOf) → Plan (symbol n.Primary)
exists p = as_symbol (at_start (second (second (second (first (as_symbol (both (a_word refl) (in_parentheses (inner p)))))))))

abbrev pub select_exists : Plan (symbol n.Query)
select_exists =
    query (core (as_symbol (at_start (both (a_word refl) (behind left_out (behind left_out (both (number 1) (behind (blank_symbol left_out)
    (before (as_symbol (present (both (a_word refl) (expression (exists (one 2)))))) ungrouped)))))))))

example-exists_text : text_of select_exists ≡ codes "select 1 where exists ( select 2 ) "
unfolding digits
example-exists_text = refl
