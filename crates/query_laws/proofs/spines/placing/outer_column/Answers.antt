use Rattle.query_laws.proofs.PlacedVariants.{placed-outer}
use Rattle.query_laws.proofs.spines.placing.outer_column.Goals as goal

pub returns : goal.returns
returns c items = placed-outer items c.args.level c.args.place c.requires
