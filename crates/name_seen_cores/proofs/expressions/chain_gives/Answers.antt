use Rattle.std.proofs.Common.{◌∙◌}
use Rattle.name_seen_cores.proofs.Forms.{gives-none, gives-some}
use Rattle.name_seen_cores.proofs.expressions.chain_gives.Goals as goal

pub returns-in-None : goal.returns-in-None
returns-in-None c = λ contents. gives-none contents c.args.steps.now c.in-None.ensures.value

pub returns-in-Some : goal.returns-in-Some
returns-in-Some c = λ contents. c.gives_of.ensures ∙ gives-some contents c.args.steps.now c.in-Some.step.now c.in-Some.ensures.value
