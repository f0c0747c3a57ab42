use Rattle.std.proofs.Common.{ap, ◌∙◌}
use Rattle.bag_algebra.specs.Outcome.{Good}
use Rattle.row_nodes.proofs.Given.{given_fault, given_good}
use Rattle.row_nodes.proofs.Screening.{left_passed, whole_left}
use Rattle.row_nodes.proofs.results.nodes.whole_rows.Goals as goal

pub returns-in_err-rows : goal.returns-in_err-rows
returns-in_err-rows c = λ o h. left_passed _ _ c.from_residual.result c.from_residual.ensures.1 (given_fault o c.args.rows _ c.in_err-rows.was h)

pub returns : goal.returns
returns c = λ o h. given_good o c.args.rows _ c.in_ok-rows.was h ∙ ap Good (whole_left _ _ c.whole.ensures)
