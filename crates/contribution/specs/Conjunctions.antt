-- Tests of columns, and all tests at once.
use Rattle.std.specs.Prelude.{ℕ, true, List, [], ◌∷◌, Option, Some, None}
use Rattle.null_logic.specs.declared.operator.Operator.TheVariants.{And}
use Rattle.perm_values.specs.declared.kind.Kind.TheVariants as kind
use Rattle.perm_values.specs.declared.value.Value.TheVariants.{Boolean}
use Rattle.bag_algebra.specs.declared.expr.Expr.{Expr}
use Rattle.bag_algebra.specs.declared.expr.Expr.TheVariants.{Col, Lit, Op, Same}

abbrev pub always : Expr
always = Lit (Boolean true) kind.Boolean

-- a condition that may be left out; without one all rows are kept
abbrev pub condition_or_true : Option Expr → Expr
condition_or_true None = always
condition_or_true (Some condition) = condition

-- a column of a row, the node's own one at level 0 and else that outer one, is the same as a column of the node's own row
abbrev pub same_test : (level theirs own : ℕ) → Expr
same_test level theirs own = Same (Col level theirs) (Col 0 own)

-- place by place
abbrev pub same_tests : ℕ → List ℕ → List ℕ → List Expr
same_tests level [] own = []
same_tests level (place ∷ theirs) [] = []
same_tests level (place ∷ theirs) (mine ∷ own) = same_test level place mine ∷ same_tests level theirs own

-- TRUE for none, the test itself for one
abbrev pub all_hold : List Expr → Expr
all_hold [] = always
all_hold (test ∷ []) = test
all_hold (test ∷ other ∷ tests) = Op And (test ∷ other ∷ tests)
