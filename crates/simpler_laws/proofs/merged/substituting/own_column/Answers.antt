use Rattle.std.proofs.Common.{get_or, subst}
use Rattle.bag_algebra.specs.declared.expr.Expr.TheVariants.{Col}
use Rattle.bag_algebra.specs.declared.expr.Item.{Item}
use Rattle.contribution.proofs.NodeQueries.{of_made}
use Rattle.simpler_laws.proofs.SubstitutedVariants.{substituted-column, substituted-none}
use Rattle.simpler_laws.specs.merged.Substituted.{IsSubstituted}
use Rattle.simpler_laws.proofs.merged.substituting.own_column.Goals as goal

pub returns-then-place-lower : goal.returns-then-place-lower
returns-then-place-lower c =
    of_made (λ made. IsSubstituted c.args.lower.now (Col 0 c.args.place) made) c.copy.result
    (get_or c.args.lower.now c.args.place c.index-lower-place.result).expr c.copy.ensures
    (subst (λ (item : Item). IsSubstituted c.args.lower.now (Col 0 c.args.place) item.expr) c.index-lower-place.is
    (substituted-column c.args.lower.now c.args.place c.index-lower-place.result c.if-place-lower.true c.index-lower-place.is))

pub returns : goal.returns
returns c = substituted-none c.args.lower.now c.args.place c.if-place-lower.false
