use Rattle.std.proofs.Common.{ap}
use Rattle.bag_algebra.specs.Bags.{once}
use Rattle.bag_algebra.specs.Outcome.{mapped}
use Rattle.row_values.proofs.Outcomes.{along, passed, mapped_part}
use Rattle.row_nodes.proofs.Given.{given_fault, given_good}
use Rattle.row_nodes.proofs.results.nodes.distinct_rows.Goals as goal

pub returns-in_err-rows : goal.returns-in_err-rows
returns-in_err-rows c = λ o h. passed _ _ c.from_residual.result c.from_residual.ensures.1 (mapped_part _ o _ (given_fault o c.args.rows _ c.in_err-rows.was h))

pub returns : goal.returns
returns c = λ o h. along _ _ c.made.result (ap (mapped once) (given_good o c.args.rows _ c.in_ok-rows.was h)) (c.made.ensures _ c.distinct.ensures)
