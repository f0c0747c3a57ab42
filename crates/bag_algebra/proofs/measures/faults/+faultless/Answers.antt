use Rattle.std.proofs.Common.{◌≡◌, true, false, refl, not, sym, ap, ◌∙◌}
use Rattle.null_logic.specs.declared.arith.Arith.{Arith}
use Rattle.null_logic.specs.declared.operator.Operator.{Operator}
use Rattle.null_logic.specs.declared.operator.Operator.TheVariants as op
use Rattle.bag_algebra.specs.built.FaultFree.{all_parts_faultless, all_arms_faultless, faultless-Op, faultless-Chain, faultless-Case, faultless-IsNull, faultless-IsTruth, faultless-Same}
use Rattle.bag_algebra.specs.FaultFree.{may_fault, faultless}
use Rattle.bag_algebra.proofs.Truths.{second-decides, first-decides}
use Rattle.bag_algebra.proofs.measures.faults.+faultless.Goals as goal
use Rattle.bag_algebra.proofs.measures.faults.+faultless.Goals.{faultless-in_default, faultless-in-Negate, faultless-in-Negate-2}

pub faultless-returns-in-Chain : goal.faultless-returns-in-Chain
faultless-returns-in-Chain t c =
    sym (ap faultless c.in-Chain.is ∙ faultless-Chain c.in-Chain.first c.in-Chain.steps)

pub faultless-returns-then-arms_faultless : goal.faultless-returns-then-arms_faultless
faultless-returns-then-arms_faultless t c =
    second-decides _ _ _ _ (ap faultless c.in-Case.is ∙ faultless-Case c.in-Case.arms c.in-Case.otherwise) (c.arms_faultless.ensures ∙ ap all_arms_faultless c.as_slice-in-Case.ensures) _ c.if-arms_faultless.true (c.faultless.ensures ∙ ap faultless c.get.ensures)

pub faultless-returns-else-arms_faultless : goal.faultless-returns-else-arms_faultless
faultless-returns-else-arms_faultless t c =
    first-decides _ _ _ _ (ap faultless c.in-Case.is ∙ faultless-Case c.in-Case.arms c.in-Case.otherwise) (c.arms_faultless.ensures ∙ ap all_arms_faultless c.as_slice-in-Case.ensures) c.if-arms_faultless.false

pub faultless-returns-in-IsNull : goal.faultless-returns-in-IsNull
faultless-returns-in-IsNull t c =
    (c.faultless-in-IsNull.ensures ∙ ap faultless c.get-in-IsNull.ensures) ∙ sym (ap faultless c.in-IsNull.is ∙ faultless-IsNull c.in-IsNull.part)

pub faultless-returns-in-IsTruth : goal.faultless-returns-in-IsTruth
faultless-returns-in-IsTruth t c =
    (c.faultless-in-IsTruth.ensures ∙ ap faultless c.get-in-IsTruth.ensures) ∙ sym (ap faultless c.in-IsTruth.is ∙ faultless-IsTruth c.in-IsTruth.truth c.in-IsTruth.part)

pub faultless-returns-then-faultless : goal.faultless-returns-then-faultless
faultless-returns-then-faultless t c =
    second-decides _ _ _ _ (ap faultless c.in-Same.is ∙ faultless-Same c.in-Same.first c.in-Same.second) (c.faultless-in-Same.ensures ∙ ap faultless c.get-in-Same.ensures) _ c.if-faultless.true (c.faultless-then-faultless.ensures ∙ ap faultless c.get-then-faultless.ensures)

pub faultless-returns-else-faultless : goal.faultless-returns-else-faultless
faultless-returns-else-faultless t c =
    first-decides _ _ _ _ (ap faultless c.in-Same.is ∙ faultless-Same c.in-Same.first c.in-Same.second) (c.faultless-in-Same.ensures ∙ ap faultless c.get-in-Same.ensures) c.if-faultless.false

calm : (operator : Operator) → (operator ≡ op.Negate → ⊥) → ((c : Arith) → operator ≡ op.Arith c → ⊥) → may_fault operator ≡ false
calm op.And negate arith = refl
calm op.Or negate arith = refl
calm op.Not negate arith = refl
calm op.Negate negate arith = absurd (negate refl)
calm (op.Compare c) negate arith = refl
calm (op.Arith c) negate arith = absurd (arith c refl)
calm op.Like negate arith = refl
calm op.Between negate arith = refl
calm op.InList negate arith = refl
calm op.Coalesce negate arith = refl
calm op.NullIf negate arith = refl

pub faultless-returns-then-not-matches : goal.faultless-returns-then-not-matches
faultless-returns-then-not-matches t c =
    elim c.match-matches.branch [
      | faultless-in_default w ↦
          second-decides _ _ _ true (ap faultless c.in-Op.is ∙ faultless-Op c.in-Op.op c.in-Op.parts) (sym (ap not (calm c.in-Op.op w.in_default.not-Negate w.in_default.not-Arith))) _ refl
          (c.parts_faultless.ensures ∙ ap all_parts_faultless c.as_slice.ensures)
      | faultless-in-Negate w ↦ absurd (cc (w.matches-is, c.if-not-matches.true))
      | faultless-in-Negate-2 w ↦ absurd (cc (w.matches-is, c.if-not-matches.true))
    ]
