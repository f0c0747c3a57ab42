-- The conjuncts of a filter with sublinks: those that need no sublink may be tested below it.
use Rattle.std.specs.Prelude.{◌≡◌, ◌-◌, ◌^◌, Bool, true, not, List, ◌++◌, filter}
use Rattle.bag_algebra.specs.declared.expr.Expr.{Expr}
use Rattle.simpler_laws.specs.Conjuncts.{conjuncts}
use Rattle.simpler_laws.specs.Reads.{reads_only}
use Rattle.simpler_laws.specs.declared.filters.Parts.{Parts}

-- the test needs no sublink
abbrev pub is_free : Expr → Bool
is_free test = reads_only true 0 (2 ^ 64 - 1) test

abbrev pub is_bound : Expr → Bool
is_bound test = not (is_free test)

-- below the filter the conjuncts that need no sublink, and then the tests; above it the others
pub record IsParted (condition : Expr) (tests : List Expr) (parts : Parts) : Type 0 where
  pub below : parts.below ≡ filter is_free (conjuncts condition) ++ tests
  pub above : parts.above ≡ filter is_bound (conjuncts condition)
