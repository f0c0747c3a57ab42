use Rattle.std.proofs.Common.{[], refl, ap, ◌∙◌, subst}
use Rattle.bag_algebra.specs.Rewriting.{Stands}
use Rattle.bag_algebra.specs.built.Patterns.{ProjectOf}
use Rattle.bag_algebra.specs.ColumnItems.{column_items}
use Rattle.bag_algebra.specs.Kinds.{kinds_of}
use Rattle.bag_algebra.specs.declared.query.Query.{end_of-Sublink}
use Rattle.bag_algebra.specs.declared.query.Query.TheVariants.{Filter, Project}
use Rattle.contribution.proofs.NodeQueries.{of_made}
use Rattle.simplifier.proofs.projections.Picks.{picks-columns}
use Rattle.simplifier.proofs.projections.RaisedFilters.{raised-filter}
use Rattle.simplifier.specs.projections.Carried.{AllCarried}
use Rattle.simplifier.proofs.projections.filters.lowered.Goals as goal

pub returns : goal.returns
returns c q s =
    let plan = c.requires in
    let order = c.args.plan.order in
    let parts = c.filtered-input.ensures (Project plan.under plan.items []) plan.condition plan.subs plan.is in
    let rows = c.under.ensures.below refl plan.under plan.items (ap (λ r. r.0) parts) in
    let inside = subst (λ places. AllCarried places plan.subs c.in-Ok.subs) c.as_slice.ensures
    (subst (λ subs. AllCarried c.as_slice.result.now subs c.in-Ok.subs) (ap (λ r. r.1) parts) c.in-Ok.ensures) in
    of_made (λ p. Stands q p) c.regroup.result _ c.regroup.ensures.made
    (raised-filter q c.args.query (Project plan.under plan.items []) plan.under c.in_ok-kept.kept _ order plan.condition c.args.plan.condition plan.first plan.subs c.in-Ok.subs
    plan.is s (picks-columns plan.under plan.items order plan.columns) plan.moved plan.leads plan.reach inside
    (c.in_ok-kept.ensures ∙ ap (λ under. Filter under c.args.plan.condition c.in-Ok.subs) rows)
    (ap (λ places. ProjectOf c.in_ok-kept.kept (column_items (kinds_of c.in_ok-kept.kept) places) [] end_of-Sublink) c.as_slice-2.ensures))
