-- A projection to all columns of a query, in their order, is the query.
use Rattle.std.proofs.Common.{◌≡◌, true, List, [], sym, ap, ◌∙◌, subst}
use Rattle.std.specs.List.{range_with_len}
use Rattle.bag_algebra.specs.Kinds.{width_of}
use Rattle.bag_algebra.specs.Rewriting.{is_plain, Stands}
use Rattle.bag_algebra.specs.declared.expr.Item.{Item}
use Rattle.bag_algebra.specs.declared.query.Query.{Query}
use Rattle.bag_algebra.specs.declared.query.Query.TheVariants.{Project}
use Rattle.rewrite_core.proofs.Itself.{stands-onward}
use Rattle.simpler_laws.proofs.TestedQueries.{stands-equal}
use Rattle.simpler_laws.specs.Lowered.{AreColumns}
use Rattle.simplifier.proofs.projections.Picks.{picks-columns, picks-itself}
use Rattle.simplifier.specs.projections.Sides.{IsIdentityProjection}

stands-under : (under : Query) (items : List Item) → AreColumns items (range_with_len 0 (width_of under)) → is_plain (Project under items []) ≡ true →
    Stands (Project under items []) under
stands-under under items are plain =
    let picks = picks-columns under items (range_with_len 0 (width_of under)) are in
    let itself = picks-itself under in
    stands-equal (Project under items []) under (picks.plain plain)
    (λ outer f. itself.kinds outer (picks.formed outer f) ∙ sym (picks.kinds outer f))
    picks.formed
    picks.tables
    (λ outer db env f h e. picks.rows outer db env f h e ∙ sym (itself.rows outer db env (picks.formed outer f) (picks.tables _ h) e))

-- what stands below such a projection stands for what the projection stands for
pub whole-dropped : (q query : Query) (whole : IsIdentityProjection query) → Stands q query → Stands q whole.under
whole-dropped q query whole s =
    stands-onward q query whole.under s (subst (λ n. Stands n whole.under) (sym whole.is)
    (stands-under whole.under whole.items whole.columns (ap is_plain (sym whole.is) ∙ s.plain)))
