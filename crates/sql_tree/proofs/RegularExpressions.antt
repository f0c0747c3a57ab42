-- What the rules of expressions build of regular parts is regular.
use Rattle.std.proofs.Common.{◌≡◌, inl, inr, ℕ, zero, suc, ℤ, Bool, true, false, List, [], ◌∷◌, length, Some, None, refl, arith}
use Rattle.std.specs.Prelude.{if◌then◌else◌, ◌==◌, ◌≤◌, is_some}
use Rattle.std.specs.Int.{IsNonNegative}
use Rattle.null_logic.specs.declared.arith.Arith.TheVariants as a
use Rattle.null_logic.specs.declared.operator.Operator.{Operator}
use Rattle.null_logic.specs.declared.operator.Operator.TheVariants.{And, Or}
use Rattle.sql_tree.specs.grammar.Building as b
use Rattle.sql_tree.specs.grammar.Building.{Word}
use Rattle.sql_tree.specs.grammar.Sorts.{same_sort, sort_of}
use Rattle.sql_tree.specs.grammar.Symbols as n
use Rattle.sql_tree.specs.declared.grammar.sort.Sort.{Sort}
use Rattle.sql_tree.specs.declared.grammar.sort.Sort.TheVariants as s
use Rattle.sql_tree.proofs.Holding.{none-each, cons-each, none-there, some-there}
use Rattle.sql_tree.proofs.RegularTrees.{Builds, items-each}
use Rattle.sql_tree.proofs.Made as made
use Rattle.sql_tree.specs.Regular.{Each, IsConnective, has_argument, level_of, RegularExpr, RegularBody, RegularStep, RegularArm, regular_expr, regular_step, regular_arm}
use Rattle.sql_tree.specs.declared.expression.AggWord.TheVariants.{CountRows, Count, CountDistinct, Sum, Min, Max}
use Rattle.sql_tree.specs.declared.expression.ExprBody.TheVariants as e
use Rattle.sql_tree.specs.declared.expression.ExprStep.{ExprStep}
use Rattle.sql_tree.specs.declared.expression.ExprTree.{ExprTree}

-- ---- connectives

logic-regular : (op : Operator) → IsConnective op → (part : ExprTree) (more : List (Word × ExprTree))
    → RegularExpr part → Each (λ m. Unit {0} × RegularExpr m.1) more → RegularExpr (b.logic op (part, more))
logic-regular op connective part [] p each = p
logic-regular op connective part (m ∷ more) p each =
    regular_expr (made.logic-regular op (b.items (part, m ∷ more)) connective tt (items-each RegularExpr part (m ∷ more) p each))

pub expr-builds : Builds n.Expr
expr-builds (part, more) (p, each) = logic-regular Or (inr refl) part more p each

pub exprs-builds : Builds n.Exprs
exprs-builds (part, more) (p, each) = (tt, items-each RegularExpr part more p each)

pub both-builds : Builds n.Both
both-builds (part, more) (p, each) = logic-regular And (inl refl) part more p each

positive : (count : ℕ) → (count == 0) ≡ false → 1 ≤ count
positive zero e = absurd cc
positive (suc count) e = omega arith

negated-regular : (at count : ℕ) (part : ExprTree) (none : Bool) → (count == 0) ≡ none → RegularExpr part
    → RegularExpr (if none then part else b.node at (e.Nots count part))
negated-regular at count part true e p = p
negated-regular at count part false e p = regular_expr (made.nots-regular count part (positive count e) p)

pub negated-builds : Builds n.Negated
negated-builds (at, (words, part)) (w, p) = negated-regular at (length words) part (length words == 0) refl p

-- ---- predicates

pub test-builds : Builds n.Test
test-builds (part, None) (p, t) = p
test-builds (part, Some behind) (p, behind-regular) = behind-regular part p

pub is_test-builds : Builds n.IsTest
is_test-builds (is_word, (negated, inl null)) h = λ part p. regular_expr (made.is_null-regular (is_some negated) part p)
is_test-builds (is_word, (negated, inr (inl t))) h = λ part p. regular_expr (made.is_truth-regular (is_some negated) (b.truth_of t) part p)
is_test-builds (is_word, (negated, inr (inr (distinct, (from, second))))) h = λ part p. regular_expr (made.is_distinct-regular (is_some negated) part second p h.1.1.1.1)

pub compared-builds : Builds n.Compared
compared-builds (part, None) (p, t) = p
compared-builds (part, Some behind) (p, behind-regular) = behind-regular part p

pub comparison-builds : Builds n.Comparison
comparison-builds (op, inl (quantifier, query)) h = λ part p. regular_expr (made.quantified-regular (b.is quantifier s.All) (b.comparison_of op) part query p h.1.1)
comparison-builds (op, inr second) h = λ part p. regular_expr (made.compared-regular (b.comparison_of op) part second p h.1)

pub ranged-builds : Builds n.Ranged
ranged-builds (part, None) (p, t) = p
ranged-builds (part, Some (negated, range)) (p, (t, range-regular)) = range-regular (is_some negated) part p

pub range-builds : Builds n.Range
range-builds (inl (like, pattern)) h = λ negated part p. regular_expr (made.like-regular negated part pattern p h.1)
range-builds (inr (inl (between, (low, (and, high))))) h = λ negated part p. regular_expr (made.between-regular negated part low high p h.1.0 h.1.1.1)
range-builds (inr (inr (in_word, members))) h = h.1

pub members-builds : Builds n.Members
members-builds (opening, (inl query, closing)) h = λ negated part p. regular_expr (made.in_query-regular negated part query p h.1.0)
members-builds (opening, (inr list, closing)) h = λ negated part p. regular_expr (made.in_list-regular negated part list p h.1.0.0 h.1.0.1)

-- ---- sums

chain-regular : (level : ℕ) (first : ExprTree) (steps : List ExprStep) → RegularExpr first → Each (RegularStep level) steps
    → RegularExpr (b.chain (first, steps))
chain-regular level first [] p each = p
chain-regular level first (step ∷ steps) p each = regular_expr (made.chain-regular level first (step ∷ steps) p tt each)

pub sum-builds : Builds n.Sum
sum-builds (first, steps) (p, each) = chain-regular 7 first steps p each

pub product-builds : Builds n.Product
product-builds (first, steps) (p, each) = chain-regular 8 first steps p each

-- a sign of this sort has the level
abbrev HasLevel : ℕ → Sort → Type 0
HasLevel level sort =
    level_of (if same_sort sort s.Plus then a.Add
    else (if same_sort sort s.Minus then a.Subtract
    else (if same_sort sort s.Star then a.Multiply
    else (if same_sort sort s.Slash then a.Divide else a.Remainder)))) ≡ Some level

sums-level : Each (HasLevel 7) (s.Plus ∷ s.Minus ∷ [])
unfolding same_sort
sums-level = cons-each (HasLevel 7) s.Plus (s.Minus ∷ []) refl (cons-each (HasLevel 7) s.Minus [] refl (none-each (HasLevel 7)))

products-level : Each (HasLevel 8) (s.Star ∷ s.Slash ∷ s.Percent ∷ [])
unfolding same_sort
products-level =
    cons-each (HasLevel 8) s.Star (s.Slash ∷ s.Percent ∷ []) refl
    (cons-each (HasLevel 8) s.Slash (s.Percent ∷ []) refl (cons-each (HasLevel 8) s.Percent [] refl (none-each (HasLevel 8))))

pub sum_step-builds : Builds n.SumStep
sum_step-builds (op, part) ((among, number), p) = regular_step (sums-level (sort_of op) among) p

pub product_step-builds : Builds n.ProductStep
product_step-builds (op, part) ((among, number), p) = regular_step (products-level (sort_of op) among) p

signed-regular : (at count : ℕ) (part : ExprTree) (none : Bool) → (count == 0) ≡ none → RegularExpr part
    → RegularExpr (if none then part else b.node at (e.Signs count part))
signed-regular at count part true e p = p
signed-regular at count part false e p = regular_expr (made.signs-regular count part (positive count e) p)

pub sign-builds : Builds n.Sign
sign-builds (at, (minuses, part)) (w, p) = signed-regular at (length minuses) part (length minuses == 0) refl p

-- ---- primaries

pub primary-builds : Builds n.Primary
primary-builds (at, inl x) h = regular_expr h
primary-builds (at, inr (inl x)) h = regular_expr h
primary-builds (at, inr (inr (inl x))) h = regular_expr h
primary-builds (at, inr (inr (inr (inl x)))) h = regular_expr h
primary-builds (at, inr (inr (inr (inr (inl x))))) h = regular_expr h
primary-builds (at, inr (inr (inr (inr (inr (inl x)))))) h = regular_expr h
primary-builds (at, inr (inr (inr (inr (inr (inr (inl x))))))) h = regular_expr h
primary-builds (at, inr (inr (inr (inr (inr (inr (inr (inl x)))))))) h = regular_expr h
primary-builds (at, inr (inr (inr (inr (inr (inr (inr (inr (inl x))))))))) h = regular_expr h
primary-builds (at, inr (inr (inr (inr (inr (inr (inr (inr (inr x))))))))) h = regular_expr h

literal-regular : (digits text affirmed denied : Bool) (number : ℤ) (spelled : List ℕ) → IsNonNegative number
    → RegularBody (if digits then e.Integer number else (if text then e.Text spelled else (if affirmed then e.Truth true else (if denied then e.Truth false else e.Null))))
literal-regular true text affirmed denied number spelled p = made.integer-regular number p
literal-regular false true affirmed denied number spelled p = made.text-regular spelled
literal-regular false false true denied number spelled p = made.truth-regular true
literal-regular false false false true number spelled p = made.truth-regular false
literal-regular false false false false number spelled p = made.null-regular

pub literal-builds : Builds n.Literal
literal-builds t (among, number) = literal-regular (b.is t s.Digits) (b.is t s.Literal) (b.is t s.True) (b.is t s.False) t.number t.spelled number.0

pub cast-builds : Builds n.Cast
cast-builds v h = made.null_of-regular v.1.1.0.1.1

pub case-builds : Builds n.Case
case-builds (case_word, (arm, (arms, (otherwise, end)))) h = made.case-regular (arm ∷ arms) otherwise tt (cons-each RegularArm arm arms h.1.0 h.1.1.0) h.1.1.1.0

pub arm-builds : Builds n.Arm
arm-builds (when, (condition, (then_word, value))) h = regular_arm h.1.0 h.1.1.1

pub otherwise-builds : Builds n.Otherwise
otherwise-builds None h = none-there RegularExpr
otherwise-builds (Some (else_word, part)) h = some-there RegularExpr part h.1

pub exists-builds : Builds n.Exists
exists-builds v h = made.exists-regular v.1 h.1

pub parentheses-builds : Builds n.Parentheses
parentheses-builds (opening, (inl query, closing)) h = made.scalar-regular query h.1.0
parentheses-builds (opening, (inr part, closing)) h = made.paren-regular part h.1.0

-- ---- functions

pub count-builds : Builds n.Count
count-builds (t, inl (opening, (arguments, closing))) h = h.1.1.0
count-builds (t, inr name) h = made.column-regular (b.reference (b.name_of t) name)

pub counted-builds : Builds n.Counted
counted-builds (inl star) h = made.aggregate-regular CountRows None refl (none-there RegularExpr)
counted-builds (inr (None, part)) h = made.aggregate-regular Count (Some part) refl (some-there RegularExpr part h.1)
counted-builds (inr (Some distinct, part)) h = made.aggregate-regular CountDistinct (Some part) refl (some-there RegularExpr part h.1)

aggregate-argument : (sum least : Bool) → true ≡ has_argument (if sum then Sum else (if least then Min else Max))
aggregate-argument true least = refl
aggregate-argument false true = refl
aggregate-argument false false = refl

pub aggregate-builds : Builds n.Aggregate
aggregate-builds (t, inl (opening, (part, closing))) h =
    made.aggregate-regular (b.aggregate_of t) (Some part) (aggregate-argument (b.is t s.Sum) (b.is t s.Min)) (some-there RegularExpr part h.1.1.0)
aggregate-builds (t, inr name) h = made.column-regular (b.reference (b.name_of t) name)

pub coalesce-builds : Builds n.Coalesce
coalesce-builds (t, inl (opening, (list, closing))) h = made.coalesce-regular list h.1.1.0.0 h.1.1.0.1
coalesce-builds (t, inr name) h = made.column-regular (b.reference (b.name_of t) name)

pub null_if-builds : Builds n.NullIf
null_if-builds (t, inl (opening, ((part, (comma, second)), closing))) h = made.null_if-regular part second h.1.1.0.0 h.1.1.0.1.1
null_if-builds (t, inr name) h = made.column-regular (b.reference (b.name_of t) name)

pub reference-builds : Builds n.Reference
reference-builds (t, name) h = made.column-regular (b.reference (b.name_of t) name)
