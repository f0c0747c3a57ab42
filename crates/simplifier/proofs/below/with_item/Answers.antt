use Rattle.std.proofs.Common.{sym, ◌∙◌, refl, subst, ◌∷◌, []}
use Rattle.std.proofs.lemmas.Bool.{and_from}
use Rattle.bag_algebra.specs.FaultFree.{faultless}
use Rattle.query_laws.proofs.BuiltSpines.{projected-is}
use Rattle.query_laws.specs.spines.PlacedColumns.{IsPlaced}
use Rattle.simplifier.proofs.below.with_item.Goals as goal

pub returns : goal.returns
returns c width input s =
    projected-is width input c.args.spine c.in_ok-made.made (c.args.item.now ∷ []) (record { expr = c.in-Ok.expr; kind = c.args.item.now.kind } ∷ []) c.in_ok-made.ensures
    (record { kind = refl; expr = subst (λ own. IsPlaced own c.args.item.now.expr c.in-Ok.expr) c.as_slice.ensures c.in-Ok.ensures }, tt)
    (and_from (faultless c.args.item.now.expr) _ (sym c.faultless.ensures ∙ c.if-not-faultless.false) refl) s
