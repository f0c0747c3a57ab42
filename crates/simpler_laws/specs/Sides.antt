-- Tests of the pairs of a join that one side alone decides. Pairs are left rows with right rows behind them.
use Rattle.std.specs.Prelude.{◌≡◌, ℕ, zero, suc, ◌+◌, ◌-◌, ◌^◌, nat_lt, Bool, false, not, ◌&&◌, List, [], ◌∷◌, ◌++◌, filter}
use Rattle.std.specs.List.{range_with_len}
use Rattle.bag_algebra.specs.declared.expr.Expr.{Expr}
use Rattle.contribution.specs.MovedColumns.{PartsMoved}
use Rattle.simpler_laws.specs.Reads.{reads_only}
use Rattle.simpler_laws.specs.declared.pairs.Sides.{Sides}

-- left rows, of this width, decide: no outer row is read
abbrev pub is_left : ℕ → Expr → Bool
is_left left test = reads_only false 0 left test

-- right rows, of the second width, decide
abbrev pub is_right : ℕ → ℕ → Expr → Bool
is_right left right test = nat_lt 0 right && reads_only false left (left + right) test

-- right rows decide, and not already left ones
abbrev pub is_right_alone : ℕ → ℕ → Expr → Bool
is_right_alone left right test = not (is_left left test) && is_right left right test

-- neither side alone decides
abbrev pub is_of_both : ℕ → ℕ → Expr → Bool
is_of_both left right test = not (is_left left test) && not (is_right left right test)

abbrev pub zeros : ℕ → List ℕ
zeros zero = []
zeros (suc n) = 0 ∷ zeros n

-- where the columns of pairs stand in right rows; for those of left rows any place serves
abbrev pub right_places : ℕ → ℕ → List ℕ
right_places left right = zeros left ++ range_with_len 0 right

-- it reads no outer row
abbrev pub is_own : Expr → Bool
is_own test = reads_only false 0 (2 ^ 64 - 1) test

abbrev pub is_around : Expr → Bool
is_around test = not (is_own test)

-- The tests by the side that decides, those of right rows with their columns where they stand there. Of those that neither side
-- decides alone, the ones that read outer rows stand apart: what is found without them serves under all outer rows.
pub record IsSplit (left right : ℕ) (tests : List Expr) (sides : Sides) : Type 0 where
  pub of_left : sides.left ≡ filter (is_left left) tests
  pub of_right : PartsMoved (right_places left right) (filter (is_right_alone left right) tests) sides.right
  pub of_both : sides.both ≡ filter is_own (filter (is_of_both left right) tests)
  pub of_outer : sides.around ≡ filter is_around (filter (is_of_both left right) tests)
