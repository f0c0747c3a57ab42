use Rattle.std.proofs.Common.{IfSome, refl, subst}
use Rattle.simpler_laws.specs.Lowered.{AreColumns}
use Rattle.simplifier.proofs.projections.sides.columns_below.Goals as goal

pub returns : goal.returns
returns c = (
  refl,
  record {
    under = c.args.query.now;
    items = c.args.items.now;
    is = refl;
    columns = subst (λ items. AreColumns items c.in-Some.places) c.as_slice.ensures
        (subst (λ o. IfSome o (λ places. AreColumns c.as_slice.result.now places)) c.in-Some.is c.in_ok-places.ensures);
    width = c.in_ok-width.ensures.columns;
  },
)
