use Rattle.std.proofs.Common.{ap, take}
use Rattle.perm_values.specs.Rows.{printed_cmp}
use Rattle.bag_algebra.specs.Bags.{sorted}
use Rattle.bag_algebra.specs.Outcome.{mapped}
use Rattle.row_values.proofs.Outcomes.{along, passed, mapped_part}
use Rattle.row_nodes.proofs.Given.{given_fault, given_good}
use Rattle.row_nodes.proofs.results.nodes.limit_rows.Goals as goal

pub returns-in_err-rows : goal.returns-in_err-rows
returns-in_err-rows c = λ o h. passed _ _ c.from_residual.result c.from_residual.ensures.1 (mapped_part _ o _ (given_fault o c.args.rows _ c.in_err-rows.was h))

pub returns : goal.returns
returns c = λ o h. along _ _ c.made.result (ap (mapped (λ bag. take c.args.count (sorted (printed_cmp c.args.keys.now) bag))) (given_good o c.args.rows _ c.in_ok-rows.was h)) (c.made.ensures _ c.limited.ensures)
