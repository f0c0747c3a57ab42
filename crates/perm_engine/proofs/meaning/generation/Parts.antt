-- Plans of the parts of a script: names, expressions, clauses and statements.
use Rattle.std.proofs.Common.{◌≡◌, ℕ, zero, suc, List, [], refl, sym, subst}
use Rattle.sql_lexer.specs.declared.token.TokenKind.TheVariants.{Word, Text}
use Rattle.sql_tree.specs.grammar.Grammar.{plain_names, list_of}
use Rattle.sql_tree.specs.grammar.Rules.{◌then◌, many, symbol, word}
use Rattle.sql_tree.specs.grammar.Sorts.{names, word_sort}
use Rattle.sql_tree.specs.grammar.Symbols as n
use Rattle.sql_tree.specs.declared.grammar.sort.Sort.TheVariants as s
use Rattle.tree_texts.specs.plans.Blanks.{Blank, left_out, none, both_blank, blank_symbol}
use Rattle.tree_texts.specs.plans.Levels.{core, expression, inner, operand, query, reference, tested, to_compared, to_product, to_sign, to_sum}
use Rattle.tree_texts.specs.plans.Levels as levels
use Rattle.tree_texts.specs.plans.Plans.{OneOf, Plan, here, there, a_word, a_choice, a_token, both, before, behind, first, second, front_second, present, no_more, one_more, one_last, at_start, as_symbol}
use Rattle.tree_texts.specs.plans.Written.{token_of}

-- ---- names and columns

-- the word is no word of the grammar
abbrev pub IsPlain : List ℕ → Type 0
IsPlain text = word_sort text ≡ s.Plain

abbrev pub name : (text : List ℕ) → IsPlain text → Plan (symbol n.NameOf)
name text is = as_symbol (a_token (token_of Word text) (subst (OneOf names) (sym is) here))

abbrev pub column : (text : List ℕ) → IsPlain text → Plan (symbol n.Primary)
column text is = reference (as_symbol (before (a_token (token_of Word text) (subst (OneOf plain_names) (sym is) here)) (blank_symbol left_out)))

abbrev pub column_of : (table text : List ℕ) → IsPlain table → IsPlain text → Plan (symbol n.Primary)
column_of table text is_table is =
    reference (as_symbol (both (a_token (token_of Word table) (subst (OneOf plain_names) (sym is_table) here))
    (as_symbol (present (both (a_word refl) (name text is))))))

-- ---- literals, and calls

abbrev pub number : ℕ → Plan (symbol n.Primary)
number value = levels.literal (levels.a_number value)

abbrev pub text_value : List ℕ → Plan (symbol n.Primary)
text_value text = levels.literal (as_symbol (a_token (token_of Text text) (there here)))

abbrev pub count_all : Plan (symbol n.Primary)
count_all =
    as_symbol (at_start (second (second (second (second (second (first (as_symbol (both (a_choice {sort = s.Count} refl here)
    (first (both (a_word refl) (both (as_symbol (first (a_choice {sort = s.Star} refl here))) (a_word refl)))))))))))))

abbrev pub sum_of : Plan (symbol n.Primary) → Plan (symbol n.Primary)
sum_of p =
    as_symbol (at_start (second (second (second (second (second (second (first (as_symbol (both (a_choice {sort = s.Sum} refl here)
    (first (both (a_word refl) (both (expression p) (a_word refl))))))))))))))

-- ---- conditions

abbrev pub equal : Plan (symbol n.Primary) → Plan (symbol n.Primary) → Plan (symbol n.Expr)
equal left right =
    tested (as_symbol (both (operand left) (present (as_symbol (both (a_choice {sort = s.Equal} refl here) (second (operand right)))))))

abbrev pub less : Plan (symbol n.Primary) → Plan (symbol n.Primary) → Plan (symbol n.Expr)
less left right =
    tested (as_symbol (both (operand left) (present (as_symbol (both (a_choice {sort = s.Less} refl (there (there here))) (second (operand right)))))))

abbrev pub is_in : Plan (symbol n.Primary) → Plan (symbol n.CoreOf) → Plan (symbol n.Expr)
is_in left found =
    tested (to_compared (as_symbol (both (to_sum (to_product (to_sign left))) (present (behind left_out (as_symbol (second (second
    (both (a_word refl) (as_symbol (both (a_word refl) (both (first (inner found)) (a_word refl)))))))))))))

-- ---- the clauses of a SELECT

abbrev pub item : Plan (symbol n.Primary) → Plan (symbol n.Item)
item p = as_symbol (second (front_second (as_symbol (before (expression p) (blank_symbol left_out)))))

abbrev pub one_item : Plan (symbol n.Primary) → Plan (symbol n.Items)
one_item p = as_symbol (before (item p) none)

abbrev pub two_items : Plan (symbol n.Primary) → Plan (symbol n.Primary) → Plan (symbol n.Items)
two_items p q = as_symbol (both (item p) (one_last (both (a_word refl) (item q))))

abbrev pub table : (text : List ℕ) → IsPlain text → Plan (symbol n.Source)
table text is = as_symbol (before (at_start (as_symbol (first (before (name text is) (blank_symbol left_out))))) (blank_symbol left_out))

-- a query in parentheses, with a name
abbrev pub query_as : Plan (symbol n.CoreOf) → (text : List ℕ) → IsPlain text → Plan (symbol n.Source)
query_as p text is =
    as_symbol (before (at_start (as_symbol (second (both (a_word refl) (both (query (core p)) (both (a_word refl) (behind left_out (name text is))))))))
    (blank_symbol left_out))

abbrev pub from : Plan (symbol n.Source) → Plan (symbol n.Sources)
from p = as_symbol (present (both (a_word refl) (before (as_symbol (before p none)) none)))

abbrev pub from_joined : Plan (symbol n.Source) → Plan (symbol n.Source) → Plan (symbol n.Expr) → Plan (symbol n.Sources)
from_joined p q on =
    as_symbol (present (both (a_word refl) (before (as_symbol (both p (one_last
    (as_symbol (first (both (as_symbol (first (behind left_out (a_word refl)))) (both q (both (a_word refl) on)))))))) none)))

abbrev pub where_is : Plan (symbol n.Expr) → Plan (symbol n.Condition)
where_is p = as_symbol (present (both (a_word refl) p))

abbrev pub group_by : (text : List ℕ) → IsPlain text → Plan (symbol n.Groups)
group_by text is = as_symbol (present (both (a_word refl) (both (a_word refl) (before (as_symbol (before (name text is) (blank_symbol left_out))) none))))

-- no GROUP BY and no HAVING
abbrev pub ungrouped : Blank (symbol n.Groups then symbol n.Having)
ungrouped = both_blank (blank_symbol left_out) (blank_symbol left_out)

-- ---- SELECT, and SELECT PROVENANCE

abbrev pub select : Plan (symbol n.Items) → Plan (symbol n.Sources) → Plan (symbol n.CoreOf)
select items sources =
    as_symbol (at_start (both (a_word refl) (behind left_out (behind left_out (both items (before sources
    (both_blank (blank_symbol left_out) ungrouped)))))))

abbrev pub select_where : Plan (symbol n.Items) → Plan (symbol n.Sources) → Plan (symbol n.Expr) → Plan (symbol n.CoreOf)
select_where items sources condition =
    as_symbol (at_start (both (a_word refl) (behind left_out (behind left_out (both items (both sources (before (where_is condition) ungrouped)))))))

abbrev pub traced : Plan (symbol n.Items) → Plan (symbol n.Sources) → Plan (symbol n.CoreOf)
traced items sources =
    as_symbol (at_start (both (a_word refl) (both (present (at_start (a_word refl))) (behind left_out (both items (before sources
    (both_blank (blank_symbol left_out) ungrouped)))))))

abbrev pub traced_where : Plan (symbol n.Items) → Plan (symbol n.Sources) → Plan (symbol n.Expr) → Plan (symbol n.CoreOf)
traced_where items sources condition =
    as_symbol (at_start (both (a_word refl) (both (present (at_start (a_word refl))) (behind left_out (both items (both sources
    (before (where_is condition) ungrouped)))))))

abbrev pub traced_groups : Plan (symbol n.Items) → Plan (symbol n.Sources) → Plan (symbol n.Groups) → Plan (symbol n.CoreOf)
traced_groups items sources groups =
    as_symbol (at_start (both (a_word refl) (both (present (at_start (a_word refl))) (behind left_out (both items (both sources
    (behind (blank_symbol left_out) (before groups (blank_symbol left_out)))))))))

-- ---- statements

abbrev pub queried : Plan (symbol n.CoreOf) → Plan (symbol n.StatementOf)
queried p = as_symbol (at_start (second (second (second (second (second (second (second (second (query (core p)))))))))))

abbrev pub integers : (text : List ℕ) → IsPlain text → Plan (symbol n.Column)
integers text is = as_symbol (both (name text is) (as_symbol (a_choice {sort = s.Integer} refl here)))

abbrev pub texts : (text : List ℕ) → IsPlain text → Plan (symbol n.Column)
texts text is = as_symbol (both (name text is) (as_symbol (a_choice {sort = s.Text} refl (there (there (there here))))))

abbrev pub created : (text : List ℕ) → IsPlain text → Plan (list_of (symbol n.Column)) → Plan (symbol n.StatementOf)
created text is columns =
    as_symbol (at_start (first (as_symbol (both (a_word refl) (first (as_symbol (both (a_word refl) (both (name text is)
    (first (as_symbol (both (a_word refl) (both columns (a_word refl)))))))))))))

abbrev pub inserted : (text : List ℕ) → IsPlain text → Plan (list_of (symbol n.Row)) → Plan (symbol n.StatementOf)
inserted text is rows =
    as_symbol (at_start (second (second (first (as_symbol (both (a_word refl) (both (a_word refl) (both (name text is) (both (a_word refl) rows)))))))))

abbrev pub row : Plan (list_of (symbol n.Expr)) → Plan (symbol n.Row)
row values = as_symbol (at_start (both (a_word refl) (both (as_symbol values) (a_word refl))))

-- so many rows from a place on, each behind a comma
abbrev pub more_rows : (ℕ → Plan (symbol n.Row)) → ℕ → ℕ → Plan (many (word s.Comma then symbol n.Row))
more_rows row_at place zero = no_more
more_rows row_at place (suc count) = one_more (both (a_word refl) (row_at place)) (more_rows row_at (suc place) count)
