use Rattle.std.proofs.Common.{sym, ◌∙◌}
use Rattle.simplifier.proofs.projections.Inputs.{filter-input}
use Rattle.simplifier.proofs.forced.filtered.Goals as goal

pub returns-in-Ok : goal.returns-in-Ok
returns-in-Ok c input condition subs e =
    let parts = c.in-Ok.field-0 in
    filter-input parts.input input parts.condition condition parts.subs subs (sym c.in-Ok.ensures.parts ∙ e)

pub returns : goal.returns
returns c input condition subs e = absurd (c.in-Err.ensures.other input condition subs e)
