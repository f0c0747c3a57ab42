use Rattle.std.proofs.Common.{[], subst, sym, take}
use Rattle.refusal_tokens.specs.Standing.{AreThose, none}
use Rattle.refusal_tokens.specs.Tables.{texts_of}
use Rattle.refusal_tokens.proofs.Choosing.{next_of}
use Rattle.refusal_tokens.proofs.standing.those_of.Goals as goal

pub loop-text-init : goal.loop-text-init
loop-text-init c = subst (λ l. AreThose c.args.front.now [] (texts_of l)) (sym c.new-those.ensures) none

pub loop-text-preserved : goal.loop-text-preserved
loop-text-preserved c =
    next_of c.args.front.now c.args.texts.now _ c.loop-text.text-index _ c.loop-text-test.true
    (c.in_ok-add_standing.ensures (texts_of (take c.loop-text.text-index c.args.texts.now)) c.loop-text.invariant)
