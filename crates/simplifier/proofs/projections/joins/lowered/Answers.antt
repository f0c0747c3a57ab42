use Rattle.std.proofs.Common.{[], ap, ◌∙◌}
use Rattle.bag_algebra.specs.ColumnItems.{column_items}
use Rattle.bag_algebra.specs.Kinds.{kinds_of}
use Rattle.bag_algebra.specs.Rewriting.{Stands}
use Rattle.bag_algebra.specs.built.Patterns.{ProjectOf}
use Rattle.bag_algebra.specs.declared.query.Query.{end_of-Sublink}
use Rattle.contribution.proofs.NodeQueries.{of_made}
use Rattle.simplifier.proofs.projections.Picks.{picks-side}
use Rattle.simplifier.proofs.projections.RaisedJoins.{raised-join}
use Rattle.simplifier.specs.projections.Plans.{pair_places}
use Rattle.simplifier.proofs.projections.joins.lowered.Goals as goal

pub returns : goal.returns
returns c q s =
    let plan = c.requires in
    let sides = c.joined-left.ensures c.args.plan.kind plan.left plan.right plan.condition plan.is in
    let lefts = picks-side plan.left plan.lefts c.args.plan.left c.under-left.result plan.of_left plan.left_input
    (λ e. c.under-left.ensures.itself e ∙ (λ i. (sides i).0))
    (λ e under items is. c.under-left.ensures.below e under items ((λ i. (sides i).0) ∙ is)) in
    let rights = picks-side plan.right plan.rights c.args.plan.right c.under-right.result plan.of_right plan.right_input
    (λ e. c.under-right.ensures.itself e ∙ (λ i. (sides i).1))
    (λ e under items is. c.under-right.ensures.below e under items ((λ i. (sides i).1) ∙ is)) in
    of_made (λ p. Stands q p) c.regroup.result _ c.regroup.ensures.made
    (raised-join q c.args.query plan.left plan.right c.under-left.result c.under-right.result c.in_ok-pairs.pairs _ plan.lefts.places plan.rights.places c.args.plan.order
    c.args.plan.kind plan.condition c.args.plan.condition plan.is s lefts.0 rights.0
    (plan.order ∙ ap (λ width. pair_places plan.lefts.places width plan.rights.places) lefts.1) plan.moved c.in_ok-pairs.ensures.made
    (ap (λ order. ProjectOf c.in_ok-pairs.pairs (column_items (kinds_of c.in_ok-pairs.pairs) order) [] end_of-Sublink) c.as_slice.ensures))
