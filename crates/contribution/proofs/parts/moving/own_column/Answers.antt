use Rattle.contribution.proofs.MovedVariants.{moved-none}
use Rattle.contribution.proofs.parts.moving.own_column.Goals as goal

pub returns : goal.returns
returns c = moved-none c.args.order.now c.args.place c.if-place-order.false
