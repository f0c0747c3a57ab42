use Rattle.std.proofs.Common.{ap}
use Rattle.bag_algebra.specs.Bags.{except_of}
use Rattle.bag_algebra.specs.Outcome.{Good, both}
use Rattle.row_values.proofs.Outcomes.{along, passed, both_second}
use Rattle.row_nodes.proofs.Given.{given_fault, given_good}
use Rattle.row_nodes.proofs.results.nodes.except_rows.Goals as goal

pub returns-in_err-right : goal.returns-in_err-right
returns-in_err-right c = λ o h. passed _ _ c.from_residual.result c.from_residual.ensures.1 (both_second (except_of c.args.all) (Good c.args.left) o _ (given_fault o c.args.right _ c.in_err-right.was h))

pub returns : goal.returns
returns c = λ o h. along _ _ c.made.result (ap (both (except_of c.args.all) (Good c.args.left)) (given_good o c.args.right _ c.in_ok-right.was h)) (c.made.ensures _ c.excepted.ensures)
