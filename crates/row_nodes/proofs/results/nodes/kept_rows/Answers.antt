use Rattle.std.proofs.Common.{IfOk, ap, sym, ◌∙◌, subst}
use Rattle.bag_algebra.specs.Outcome.{Good}
use Rattle.row_values.specs.declared.error.ExecError.TheVariants.{NoMemory}
use Rattle.row_values.proofs.Outcomes.{passed}
use Rattle.row_nodes.specs.results.Screened.{HasFlags}
use Rattle.row_nodes.proofs.Given.{left_fault, left_good}
use Rattle.row_nodes.proofs.results.nodes.kept_rows.Goals as goal

pub returns-in_err-left : goal.returns-in_err-left
returns-in_err-left c = λ o h. passed _ _ c.from_residual.result c.from_residual.ensures.1 (left_fault o c.args.left _ c.in_err-left.was h)

pub into_input-requires : goal.into_input-requires
into_input-requires c = subst (λ r. IfOk r HasFlags) c.in_ok-left.was c.requires

pub returns-in_err-into_input : goal.returns-in_err-into_input
returns-in_err-into_input c = λ o h. passed o NoMemory c.from_residual-in_err-into_input.result c.from_residual-in_err-into_input.ensures.1 tt

pub returns : goal.returns
returns c = λ o h. left_good o c.args.left _ c.in_ok-left.was h ∙ ap Good (sym c.in_ok-into_input.ensures)
