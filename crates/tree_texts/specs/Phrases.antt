-- Plans of what forms are made of: words that a form chooses, names, and the levels of the grammar.
use Rattle.std.specs.Prelude.{ℕ, Bool, true, false, List, [], ◌∷◌, Option, Some, None, refl}
use Rattle.null_logic.specs.declared.compare.Compare.{Compare}
use Rattle.null_logic.specs.declared.compare.Compare.TheVariants as compare
use Rattle.null_logic.specs.declared.truth.Truth.{Truth}
use Rattle.null_logic.specs.declared.truth.Truth.TheVariants as truths
use Rattle.perm_values.specs.declared.kind.Kind.{Kind}
use Rattle.perm_values.specs.declared.kind.Kind.TheVariants as kinds
use Rattle.sql_lexer.specs.declared.token.TokenKind.TheVariants.{Quoted, Text}
use Rattle.sql_tree.specs.grammar.Grammar.{SqlRule, lateral}
use Rattle.sql_tree.specs.grammar.Rules.{word, token, ◌then◌, ◌or◌, optional, many, symbol}
use Rattle.sql_tree.specs.grammar.Symbols as n
use Rattle.sql_tree.specs.declared.grammar.sort.Sort.TheVariants as s
use Rattle.tree_texts.specs.plans.Blanks.{blank_symbol, left_out, none}
use Rattle.tree_texts.specs.plans.Levels.{a_name, number_token, to_sign, to_product, to_sum, to_ranged, to_compared, to_test, to_negated, to_both, to_expr, operand, tested, expression, core}
use Rattle.tree_texts.specs.plans.Plans.{Plan, here, there, a_word, a_choice, a_token, both, before, behind, first, second, front_first, front_second, absent, present, no_more, one_more, at_start, as_symbol}
use Rattle.tree_texts.specs.plans.Written.{token_of}
use Rattle.tree_texts.specs.Forms as f
use Rattle.tree_texts.specs.Forms.{ColumnForm, Additive, Multiplicative, Folded, Joined, United, KeyForm}

-- ---- words that a form chooses

abbrev pub maybe_not : Bool → Plan (optional (word s.Not))
maybe_not true = present (a_word refl)
maybe_not false = absent

abbrev pub maybe_all : Bool → Plan (optional (word s.All))
maybe_all true = present (a_word refl)
maybe_all false = absent

abbrev pub maybe_distinct : Bool → Plan (optional (word s.Distinct))
maybe_distinct true = present (a_word refl)
maybe_distinct false = absent

abbrev pub direction : Bool → Plan (optional (token (s.Asc ∷ s.Desc ∷ [])))
direction true = present (a_choice {sort = s.Desc} refl (there here))
direction false = absent

abbrev pub comparison : Compare → Plan (token (s.Equal ∷ s.NotEqual ∷ s.Less ∷ s.LessEqual ∷ s.Greater ∷ s.GreaterEqual ∷ []))
comparison compare.Equal = a_choice {sort = s.Equal} refl here
comparison compare.NotEqual = a_choice {sort = s.NotEqual} refl (there here)
comparison compare.Less = a_choice {sort = s.Less} refl (there (there here))
comparison compare.LessEqual = a_choice {sort = s.LessEqual} refl (there (there (there here)))
comparison compare.Greater = a_choice {sort = s.Greater} refl (there (there (there (there here))))
comparison compare.GreaterEqual = a_choice {sort = s.GreaterEqual} refl (there (there (there (there (there here)))))

abbrev pub truth_word : Truth → Plan (token (s.True ∷ s.False ∷ s.Unknown ∷ []))
truth_word truths.True = a_choice {sort = s.True} refl here
truth_word truths.False = a_choice {sort = s.False} refl (there here)
truth_word truths.Unknown = a_choice {sort = s.Unknown} refl (there (there here))

abbrev pub additive : Additive → Plan (token (s.Plus ∷ s.Minus ∷ []))
additive f.plus = a_choice {sort = s.Plus} refl here
additive f.minus = a_choice {sort = s.Minus} refl (there here)

abbrev pub multiplicative : Multiplicative → Plan (token (s.Star ∷ s.Slash ∷ s.Percent ∷ []))
multiplicative f.times = a_choice {sort = s.Star} refl here
multiplicative f.divided = a_choice {sort = s.Slash} refl (there here)
multiplicative f.modulo = a_choice {sort = s.Percent} refl (there (there here))

abbrev pub folding : Folded → Plan (token (s.Sum ∷ s.Min ∷ s.Max ∷ []))
folding f.sum = a_choice {sort = s.Sum} refl here
folding f.least = a_choice {sort = s.Min} refl (there here)
folding f.greatest = a_choice {sort = s.Max} refl (there (there here))

abbrev pub uniting : United → Plan (token (s.Union ∷ s.Except ∷ []))
uniting f.union = a_choice {sort = s.Union} refl here
uniting f.except = a_choice {sort = s.Except} refl (there here)

abbrev pub kind_word : Kind → Plan (symbol n.CastKind)
kind_word kinds.Integer = as_symbol (a_choice {sort = s.BigInt} refl (there (there (there here))))
kind_word kinds.Text = as_symbol (a_choice {sort = s.Text} refl (there (there (there (there here)))))
kind_word kinds.Boolean = as_symbol (a_choice {sort = s.Boolean} refl here)

-- ---- names and literals

abbrev pub behind_dot : List ℕ → Plan (symbol n.Qualified)
behind_dot name = as_symbol (present (both (a_word refl) (a_name name)))

abbrev pub reference_to : ColumnForm → Plan (symbol n.Reference)
reference_to (f.bare name) = as_symbol (before (a_token (token_of Quoted name) (there here)) (blank_symbol left_out))
reference_to (f.in_item item name) = as_symbol (both (a_token (token_of Quoted item) (there here)) (behind_dot name))

abbrev pub group_column : ColumnForm → Plan (symbol n.ColumnOf)
group_column (f.bare name) = as_symbol (before (a_name name) (blank_symbol left_out))
group_column (f.in_item item name) = as_symbol (both (a_name item) (behind_dot name))

abbrev pub text_literal : List ℕ → Plan (symbol n.Literal)
text_literal spelled = as_symbol (a_token (token_of Text spelled) (there here))

abbrev pub truth_literal : Bool → Plan (symbol n.Literal)
truth_literal true = as_symbol (a_choice {sort = s.True} refl (there (there here)))
truth_literal false = as_symbol (a_choice {sort = s.False} refl (there (there (there here))))

abbrev pub typed_null : Kind → Plan (symbol n.Cast)
typed_null kind = as_symbol (both (a_word refl) (both (a_word refl) (both (both (a_word refl) (both (a_word refl) (kind_word kind))) (a_word refl))))

-- AS and a name
abbrev pub alias : List ℕ → Plan (symbol n.Alias)
alias name = as_symbol (present (first (both (a_word refl) (a_name name))))

-- ---- keys

abbrev pub key : KeyForm → Plan (symbol n.Key)
key k = as_symbol (both (second (a_token (number_token k.position) here)) (direction k.descending))

abbrev pub next_key : KeyForm → Plan (word s.Comma then symbol n.Key)
next_key k = both (a_word refl) (key k)

abbrev pub more_keys : List KeyForm → Plan (many (word s.Comma then symbol n.Key))
more_keys [] = no_more
more_keys (k ∷ keys) = one_more (next_key k) (more_keys keys)

abbrev pub ordered : List KeyForm → Plan (symbol n.Order)
ordered [] = as_symbol absent
ordered (k ∷ keys) = as_symbol (present (both (a_word refl) (both (a_word refl) (both (key k) (more_keys keys)))))

abbrev pub limited : Option ℕ → Plan (symbol n.Limit)
limited None = as_symbol absent
limited (Some number) = as_symbol (present (both (a_word refl) (a_token (number_token number) here)))

abbrev pub next_group : ColumnForm → Plan (word s.Comma then symbol n.ColumnOf)
next_group c = both (a_word refl) (group_column c)

abbrev pub more_groups : List ColumnForm → Plan (many (word s.Comma then symbol n.ColumnOf))
more_groups [] = no_more
more_groups (c ∷ columns) = one_more (next_group c) (more_groups columns)

abbrev pub grouped : List ColumnForm → Plan (symbol n.Groups)
grouped [] = as_symbol absent
grouped (c ∷ columns) = as_symbol (present (both (a_word refl) (both (a_word refl) (both (group_column c) (more_groups columns)))))

-- ---- levels

abbrev pub enclosing : {r : SqlRule} → Plan r → Plan (word s.Opening then (r then word s.Closing))
enclosing p = both (a_word refl) (both p (a_word refl))

abbrev pub to_factor : Plan (symbol n.Primary) → Plan (symbol n.Product)
to_factor p = to_product (to_sign p)

abbrev pub to_term : Plan (symbol n.Primary) → Plan (symbol n.Sum)
to_term p = to_sum (to_factor p)

abbrev pub to_part : Plan (symbol n.Primary) → Plan (symbol n.Negated)
to_part p = to_negated (to_test (to_compared (operand p)))

abbrev pub sum_step : Additive → Plan (symbol n.Primary) → Plan (symbol n.SumStep)
sum_step op p = as_symbol (both (additive op) (to_factor p))

abbrev pub product_step : Multiplicative → Plan (symbol n.Primary) → Plan (symbol n.ProductStep)
product_step op p = as_symbol (both (multiplicative op) (to_sign p))

abbrev pub behind_and : Plan (symbol n.Primary) → Plan (word s.And then symbol n.Negated)
behind_and p = both (a_word refl) (to_part p)

abbrev pub behind_or : Plan (symbol n.Primary) → Plan (word s.Or then symbol n.Both)
behind_or p = both (a_word refl) (to_both (to_part p))

abbrev pub behind_comma : Plan (symbol n.Primary) → Plan (word s.Comma then symbol n.Expr)
behind_comma p = both (a_word refl) (expression p)

abbrev pub from_ranged : Plan (symbol n.Ranged) → Plan (symbol n.Expr)
from_ranged p = tested (to_compared p)

abbrev pub from_sum : Plan (symbol n.Sum) → Plan (symbol n.Expr)
from_sum p = from_ranged (to_ranged p)

abbrev pub from_negated : Plan (symbol n.Negated) → Plan (symbol n.Expr)
from_negated p = to_expr (to_both p)

abbrev pub from_test : Plan (symbol n.Test) → Plan (symbol n.Expr)
from_test p = from_negated (to_negated p)

abbrev pub cast_alone : Plan (symbol n.Cast) → Plan (symbol n.Primary)
cast_alone p = as_symbol (at_start (second (first p)))

abbrev pub case_alone : Plan (symbol n.Case) → Plan (symbol n.Primary)
case_alone p = as_symbol (at_start (second (second (first p))))

abbrev pub exists_alone : Plan (symbol n.Exists) → Plan (symbol n.Primary)
exists_alone p = as_symbol (at_start (second (second (second (first p)))))

abbrev pub parentheses_alone : Plan (symbol n.Parentheses) → Plan (symbol n.Primary)
parentheses_alone p = as_symbol (at_start (second (second (second (second (first p))))))

abbrev pub count_alone : Plan (symbol n.Counted) → Plan (symbol n.Primary)
count_alone p =
    as_symbol (at_start (second (second (second (second (second (first
    (as_symbol (both (a_choice {sort = s.Count} refl here) (first (enclosing p)))))))))))

abbrev pub aggregate_alone : Plan (symbol n.Aggregate) → Plan (symbol n.Primary)
aggregate_alone p = as_symbol (at_start (second (second (second (second (second (second (first p))))))))

abbrev pub coalesce_alone : Plan (symbol n.Coalesce) → Plan (symbol n.Primary)
coalesce_alone p = as_symbol (at_start (second (second (second (second (second (second (second (first p)))))))))

abbrev pub null_if_alone : Plan (symbol n.NullIf) → Plan (symbol n.Primary)
null_if_alone p = as_symbol (at_start (second (second (second (second (second (second (second (second (first p))))))))))

-- a comparison, LIKE, BETWEEN, IN or IS behind an operand
abbrev pub behind_operand : Plan (symbol n.Primary) → Plan (symbol n.Comparison) → Plan (symbol n.Expr)
behind_operand p comparing = tested (as_symbol (both (operand p) (present comparing)))

abbrev pub ranging : Plan (symbol n.Primary) → Bool → Plan (symbol n.Range) → Plan (symbol n.Expr)
ranging p not_first range = from_ranged (as_symbol (both (to_term p) (present (both (maybe_not not_first) range))))

abbrev pub testing : Plan (symbol n.Primary) → Plan (symbol n.IsTest) → Plan (symbol n.Expr)
testing p test = from_test (as_symbol (both (to_compared (operand p)) (present test)))

-- ---- joins and set operations

-- a source behind JOIN and its words, and ON with its condition
abbrev pub joined_on : Plan (symbol n.JoinKind) → Plan (symbol n.Source) → Plan (symbol n.Expr) → Plan (symbol n.Join)
joined_on kind p on = as_symbol (first (both kind (both p (both (a_word refl) on))))

abbrev pub joining : Joined → Plan (symbol n.Source) → Plan (symbol n.Expr) → Plan (symbol n.Join)
joining f.inner p on = joined_on (as_symbol (first (behind left_out (a_word refl)))) p on
joining f.left p on =
    as_symbol (second (first (as_symbol (both (a_word refl) (behind left_out (both (a_word refl) (front_second (both p (both (a_word refl) on)))))))))
joining f.right p on = joined_on (as_symbol (second (both (a_choice {sort = s.Right} refl here) (behind left_out (a_word refl))))) p on
joining f.full p on = joined_on (as_symbol (second (both (a_choice {sort = s.Full} refl (there here)) (behind left_out (a_word refl))))) p on

-- LATERAL, a query in parentheses, and its name
abbrev pub lateral_query : Plan (symbol n.Query) → List ℕ → Plan lateral
lateral_query p name =
    both (a_word refl) (at_start (both (a_word refl) (both p (both (a_word refl) (both (present (a_word refl)) (a_name name))))))

abbrev pub joining_lateral : Bool → Plan (symbol n.Query) → List ℕ → Plan (symbol n.Join)
joining_lateral false p name = as_symbol (second (second (as_symbol (both (a_word refl) (both (a_word refl) (front_first (lateral_query p name)))))))
joining_lateral true p name =
    as_symbol (second (first (as_symbol (both (a_word refl) (behind left_out (both (a_word refl)
    (front_first (both (lateral_query p name) (both (a_word refl) (a_word refl))))))))))

abbrev pub union_step : United → Bool → Plan (symbol n.CoreOf) → Plan (symbol n.UnionStep)
union_step kind every p = as_symbol (both (uniting kind) (both (maybe_all every) (at_start (as_symbol (before (core p) none)))))

abbrev pub intersect_step : Bool → Plan (symbol n.CoreOf) → Plan (symbol n.IntersectStep)
intersect_step every p = as_symbol (both (a_word refl) (both (maybe_all every) (at_start (core p))))

abbrev pub resting : Plan (many (symbol n.IntersectStep)) → Plan (many (symbol n.UnionStep)) → List KeyForm → Option ℕ → Plan (symbol n.QueryRest)
resting intersects unions keys number = as_symbol (both intersects (both unions (both (ordered keys) (limited number))))

abbrev pub whole_query : Plan (symbol n.CoreOf) → Plan (symbol n.QueryRest) → Plan (symbol n.Query)
whole_query p rest = as_symbol (at_start (both (core p) rest))

abbrev pub inner_query : Plan (symbol n.CoreOf) → Plan (symbol n.QueryRest) → Plan (symbol n.Inner)
inner_query p rest = as_symbol (at_start (both p rest))
