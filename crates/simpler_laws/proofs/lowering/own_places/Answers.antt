use Rattle.std.proofs.Common.{◌≡◌, ◌∷◌, ◌++◌, [], sym, subst, take}
use Rattle.perm_values.proofs.Lists.{taken}
use Rattle.simpler_laws.proofs.ColumnItems.{columns-more}
use Rattle.simpler_laws.specs.Lowered.{AreColumns}
use Rattle.simpler_laws.proofs.lowering.own_places.Goals as goal

pub loop-item-preserved : goal.loop-item-preserved
loop-item-preserved c =
    subst (λ items. AreColumns items c.push.new.self) (sym (taken c.args.items.now c.loop-item.item-index c.item-item.result c.loop-item-test.true c.item-item.is))
    (subst (AreColumns (take c.loop-item.item-index c.args.items.now ++ c.item-item.result ∷ [])) (sym c.in_ok-push.ensures.ok)
    (columns-more (take c.loop-item.item-index c.args.items.now) c.loop-item.places c.item-item.result _ c.loop-item.invariant c.in-Some.ensures))
