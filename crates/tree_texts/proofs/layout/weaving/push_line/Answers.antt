use Rattle.std.proofs.Common.{[], refl}
use Rattle.tree_texts.proofs.layout.WovenTokens.{longer}
use Rattle.tree_texts.proofs.layout.weaving.push_line.Goals as goal

pub loop-step-init : goal.loop-step-init
loop-step-init c = (10, [], refl, refl, c.in_ok-add.ensures.ok)

pub loop-step-preserved : goal.loop-step-preserved
loop-step-preserved c = longer c.args.laid.now c.loop-step.laid _ c.loop-step.invariant c.in_ok-add-2.ensures.ok
