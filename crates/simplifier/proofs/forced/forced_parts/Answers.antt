use Rattle.std.proofs.Common.{refl}
use Rattle.bag_algebra.specs.Rewriting.{Stands}
use Rattle.bag_algebra.specs.declared.query.Query.TheVariants.{Join}
use Rattle.contribution.proofs.NodeQueries.{of_made}
use Rattle.simplifier.proofs.ForcedJoins.{forced-join}
use Rattle.simplifier.proofs.forced.forced_parts.Goals as goal

pub returns-then-forced : goal.returns-then-forced
returns-then-forced c q s =
    let parts = c.args.parts in
    of_made (λ p. Stands q p) c.join.result _ c.join.ensures
    (forced-join q (Join parts.kind parts.left parts.right parts.condition parts.subs) parts.left parts.right c.filtered-rows.result _ parts.kind parts.condition parts.subs refl s
    (c.in-Ok.ensures c.if-forced.true) c.filtered-rows.ensures refl)
