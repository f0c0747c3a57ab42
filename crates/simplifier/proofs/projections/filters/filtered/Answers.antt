use Rattle.std.proofs.Common.{sym, ◌∙◌}
use Rattle.simplifier.proofs.projections.Inputs.{filter-input, filter-sublinks}
use Rattle.simplifier.proofs.projections.filters.filtered.Goals as goal

pub returns-in-Ok : goal.returns-in-Ok
returns-in-Ok c input condition subs e =
    let parts = c.in-Ok.field-0 in
    let same = sym c.in-Ok.ensures.parts ∙ e in
    λ i. (
      filter-input parts.input input parts.condition condition parts.subs subs same i,
      filter-sublinks parts.input input parts.condition condition parts.subs subs same i,
    )

pub returns : goal.returns
returns c input condition subs e = absurd (c.in-Err.ensures.other input condition subs e)
