-- What is kept of queries with filters, worked out by the rule: of a filter below another the input that reads nothing, of two
-- whose inputs read the same the upper one's, and the rows of a query that no key answers.
use Rattle.std.proofs.Common.{◌≡◌, ℕ, zero, suc, ◌<◌, ◌≤◌, Some, None, refl, arith}
use Rattle.bag_algebra.specs.built.Patterns.{DistinctOf}
use Rattle.null_logic.specs.declared.compare.Compare.TheVariants.{Greater}
use Rattle.bag_algebra.specs.declared.expr.Expr.{Expr}
use Rattle.bag_algebra.specs.declared.query.Query.{Query}
use Rattle.row_nodes.specs.Keeping.{IsKept, keyed_at}
use Rattle.row_nodes.specs.declared.keeping.Keeping.TheVariants.{Rows, Input}
use Rattle.worked_examples.specs.Keys.{equation, filter, nested}
use Rattle.worked_examples.specs.Queries.{col, compared, number, s}

above : (d m : ℕ) → d < 3 → keyed_at nested d ≡ Some m → 0 < m
above zero m low e = let f : None ≡ Some m = e in absurd (cc f)
above (suc zero) m low e = let f : Some 1 ≡ Some m = e in let g : 1 ≡ m = cc f in omega arith
above (suc (suc zero)) m low e = let f : None ≡ Some m = e in absurd (cc f)
above (suc (suc (suc d))) m low e = absurd (omega arith)

lower-filter : IsKept nested (Input 0 3)
lower-filter = record { filter_is = refl; fewer = omega arith; least = λ d m low e. omega arith; topmost = above }

-- s.c > 1
abbrev own : Expr
own = compared Greater (col 0 0) (number 1)

-- two filters over s that read no outer row
abbrev equals : Query
equals = filter (filter s own) own

upper-of-equals : IsKept (filter equals equation) (Input 0 0)
upper-of-equals = record { filter_is = refl; fewer = omega arith; least = λ d m low e. omega arith; topmost = λ d m low e. absurd (omega arith) }

no-lower-of-equals : IsKept (filter equals equation) (Input 0 1) → ⊥
no-lower-of-equals k = let f : 0 < 0 = k.topmost 0 0 (omega arith) refl in omega arith

whole-rows : IsKept (DistinctOf (filter s equation)) (Rows 1)
whole-rows = record { reach_is = refl; least = λ d m low e. none d m e }
  where
    none : (d m : ℕ) → keyed_at (DistinctOf (filter s equation)) d ≡ Some m → 1 ≤ m
    none d m e = let f : None ≡ Some m = e in absurd (cc f)
