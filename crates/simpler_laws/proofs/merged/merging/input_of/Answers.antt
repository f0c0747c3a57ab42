use Rattle.std.proofs.Common.{sym, ◌∙◌}
use Rattle.simpler_laws.proofs.MergedProjects.{same_input}
use Rattle.simpler_laws.proofs.merged.merging.input_of.Goals as goal

pub returns-in-Ok : goal.returns-in-Ok
returns-in-Ok c input items subs e =
    let parts = c.in-Ok.field-0 in
    same_input parts.input input parts.items items parts.subs subs (sym c.in-Ok.ensures.parts ∙ e)

pub returns : goal.returns
returns c input items subs e = absurd (c.in-Err.ensures.other input items subs e)
