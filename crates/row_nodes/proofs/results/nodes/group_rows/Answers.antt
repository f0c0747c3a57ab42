use Rattle.std.proofs.Common.{ap}
use Rattle.bag_algebra.specs.Meaning.{arguments_on, functions_of}
use Rattle.bag_algebra.specs.Means.{grouped}
use Rattle.bag_algebra.specs.Outcome.{and_then}
use Rattle.row_values.proofs.Outcomes.{along, passed, and_then_first}
use Rattle.row_nodes.proofs.Given.{given_fault, given_good}
use Rattle.row_nodes.proofs.results.nodes.group_rows.Goals as goal

pub returns-in_err-rows : goal.returns-in_err-rows
returns-in_err-rows c = λ o h. passed _ _ c.from_residual.result c.from_residual.ensures.1 (and_then_first o _ _ (given_fault o c.args.rows _ c.in_err-rows.was h))

pub returns : goal.returns
returns c = λ o h. along _ _ c.in_groups.result (ap (λ x. and_then x (grouped c.args.groups.now (functions_of c.args.aggregates.now) (arguments_on c.args.aggregates.now c.args.env.now))) (given_good o c.args.rows _ c.in_ok-rows.was h)) (c.in_groups.ensures)
