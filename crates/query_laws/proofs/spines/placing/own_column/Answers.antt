use Rattle.std.proofs.Common.{get_or, subst}
use Rattle.bag_algebra.specs.declared.expr.Expr.TheVariants.{Col}
use Rattle.bag_algebra.specs.declared.expr.Item.{Item}
use Rattle.contribution.proofs.NodeQueries.{of_made}
use Rattle.query_laws.proofs.PlacedVariants.{placed-none, placed-own}
use Rattle.query_laws.specs.spines.PlacedColumns.{IsPlaced}
use Rattle.query_laws.proofs.spines.placing.own_column.Goals as goal

pub returns-then-place-items : goal.returns-then-place-items
returns-then-place-items c =
    of_made (λ made. IsPlaced c.args.items.now (Col 0 c.args.place) made) c.copy.result
    (get_or c.args.items.now c.args.place c.index-items-place.result).expr c.copy.ensures
    (subst (λ (item : Item). IsPlaced c.args.items.now (Col 0 c.args.place) item.expr) c.index-items-place.is
    (placed-own c.args.items.now c.args.place c.index-items-place.result c.if-place-items.true c.index-items-place.is))

pub returns : goal.returns
returns c = placed-none c.args.items.now c.args.place c.if-place-items.false
