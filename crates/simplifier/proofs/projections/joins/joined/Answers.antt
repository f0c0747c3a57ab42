use Rattle.std.proofs.Common.{[], sym, ◌∙◌}
use Rattle.simplifier.proofs.projections.Inputs.{join-left, join-right}
use Rattle.simplifier.proofs.projections.joins.joined.Goals as goal

pub returns-in-Ok : goal.returns-in-Ok
returns-in-Ok c kind left right condition e =
    let parts = c.in-Ok.field-0 in
    let same = sym c.in-Ok.ensures.parts ∙ e in
    λ i. (
      join-left parts.kind kind parts.left left parts.right right parts.condition condition parts.subs [] same i,
      join-right parts.kind kind parts.left left parts.right right parts.condition condition parts.subs [] same i,
    )

pub returns : goal.returns
returns c kind left right condition e = absurd (c.in-Err.ensures.other kind left right condition [] e)
