use Rattle.std.proofs.Common.{◌∙◌}
use Rattle.name_seen_cores.proofs.Forms.{needs-none, needs-some}
use Rattle.name_seen_cores.proofs.expressions.first_need.Goals as goal

pub returns-in-None : goal.returns-in-None
returns-in-None c = λ contents. needs-none contents c.args.steps.now c.in-None.ensures.value

pub returns-in-Some : goal.returns-in-Some
returns-in-Some c = λ contents. c.need_of.ensures ∙ needs-some contents c.args.steps.now c.in-Some.step.now c.in-Some.ensures.value
