-- Parts of an operator one after another, as code takes them, and operators of code.
use Rattle.std.proofs.Common.{◌≡◌, ℕ, ◌+◌, ◌<◌, ◌≤◌, List, [], ◌∷◌, length, drop, get_or, Option, Some, None, refl, ap, ◌∙◌}
use Rattle.std.proofs.lemmas.List.{drop_all}
use Rattle.null_logic.specs.declared.truth.Truth.{Truth}
use Rattle.bag_algebra.proofs.Rest.{from_here}
use Rattle.bag_algebra.specs.built.Openings.{Op-is, row_of_parts}
use Rattle.bag_algebra.specs.declared.expr.Expr.{Expr}
use Rattle.bag_algebra.specs.declared.expr.Expr.TheBlock.{shape-the_row-Expr-0, hidden-the_row-Expr-0}
use Rattle.bag_algebra.specs.declared.expr.Expr.TheVariants.{Op}
use Rattle.null_logic.specs.declared.operator.Operator.{Operator}
use Rattle.null_logic.specs.declared.operator.Operator.TheVariants as op
use Rattle.rewrite_move.specs.ForcedTruths.{all_forced, first_of, forced, of_first, of_others, parts_forced}

pub forced-row_of_parts : (first others : Option Truth) (parts : List Expr) (at : ℕ) → parts_forced first others (row_of_parts parts) at ≡ all_forced first others parts at
unfolding shape-the_row-Expr-0 hidden-the_row-Expr-0 package.denote.Hole.Carrier.hidden
forced-row_of_parts first others [] at = refl
forced-row_of_parts first others (part ∷ parts) at = ap (first_of (forced first part at)) (forced-row_of_parts others others parts at)

pub forced-Op : (known : Option Truth) (operator : Operator) (parts : List Expr) (at : ℕ) →
    forced known (Op operator parts) at ≡ all_forced (of_first operator known) (of_others operator known) parts at
forced-Op known operator parts at =
    ap (λ e. forced known e at) (Op-is operator parts) ∙ forced-row_of_parts (of_first operator known) (of_others operator known) parts at

module _ (known others : Option Truth) (parts : List Expr) (part : Expr) (index at : ℕ) (whole : Option Truth) (within : index < length parts) (here : part ≡ get_or parts index part)
    (so_far : whole ≡ all_forced known others (drop index parts) at) where
  opening : whole ≡ first_of (forced known part at) (all_forced others others (drop (index + 1) parts) at)
  opening = so_far ∙ from_here (λ rest. all_forced known others rest at) parts index part within here

  pub part-found : (truth : Truth) → forced known part at ≡ Some truth → whole ≡ Some truth
  part-found truth e = opening ∙ ap (λ found. first_of found (all_forced others others (drop (index + 1) parts) at)) e

  pub part-passed : forced known part at ≡ None → whole ≡ all_forced others others (drop (index + 1) parts) at
  part-passed e = opening ∙ ap (λ found. first_of found (all_forced others others (drop (index + 1) parts) at)) e

pub parts-passed : (known others : Option Truth) (parts : List Expr) (index at : ℕ) (whole : Option Truth) → length parts ≤ index →
    whole ≡ all_forced known others (drop index parts) at → whole ≡ None
parts-passed known others parts index at whole far so_far = so_far ∙ ap (λ rest. all_forced known others rest at) (drop_all index parts far)

-- ---- of other operators nothing is told

pub other-first : (operator : Operator) (known : Option Truth) → (operator ≡ op.And → ⊥) → (operator ≡ op.Or → ⊥) → (operator ≡ op.Not → ⊥) → of_first operator known ≡ None
other-first op.And known a o n = absurd (a refl)
other-first op.Or known a o n = absurd (o refl)
other-first op.Not known a o n = absurd (n refl)
other-first op.Negate known a o n = refl
other-first (op.Compare c) known a o n = refl
other-first (op.Arith c) known a o n = refl
other-first op.Like known a o n = refl
other-first op.Between known a o n = refl
other-first op.InList known a o n = refl
other-first op.Coalesce known a o n = refl
other-first op.NullIf known a o n = refl

pub other-parts : (operator : Operator) (known : Option Truth) → (operator ≡ op.And → ⊥) → (operator ≡ op.Or → ⊥) → of_others operator known ≡ None
other-parts op.And known a o = absurd (a refl)
other-parts op.Or known a o = absurd (o refl)
other-parts op.Not known a o = refl
other-parts op.Negate known a o = refl
other-parts (op.Compare c) known a o = refl
other-parts (op.Arith c) known a o = refl
other-parts op.Like known a o = refl
other-parts op.Between known a o = refl
other-parts op.InList known a o = refl
other-parts op.Coalesce known a o = refl
other-parts op.NullIf known a o = refl
