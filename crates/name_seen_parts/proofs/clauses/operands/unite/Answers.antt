use Rattle.std.specs.Prelude.{ℕ, length, min}
use Rattle.std.proofs.Common.{refl, sym, ap, ◌∙◌, arith}
use Rattle.name_seen_parts.proofs.Uniting.{united-at, united-end}
use Rattle.name_seen_parts.proofs.clauses.operands.unite.Goals as goal

pub loop-at-init : goal.loop-at-init
loop-at-init c = refl

pub loop-at-preserved : goal.loop-at-preserved
loop-at-preserved c =
    c.loop-at.invariant
    ∙ united-at c.loop-at.left c.args.right.now c.loop-at.at c.index-left-at.result c.index-right-at.result c.index-left-at-in-loop-at.result c.united_kind.result
    (omega (arith, c.loop-at-test.true, c.min-at-end.ensures, c.loop-at.auto.left)) (omega (arith, c.loop-at-test.true, c.min-at-end.ensures))
    c.index-left-at.is c.index-right-at.is c.index-left-at-in-loop-at.is c.united_kind.ensures

pub returns : goal.returns
returns c =
    sym (c.loop-at.invariant
    ∙ united-end c.loop-at.left c.args.right.now c.loop-at.at c.min-at-end.result
    (c.min-at-end.ensures ∙ ap (λ (n : ℕ). min n (length c.args.right.now)) (sym c.loop-at.auto.left)) c.loop-at-test.false)
