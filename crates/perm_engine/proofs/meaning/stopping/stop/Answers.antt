use Rattle.std.proofs.Common.{◌∙◌, ap, refl, sym}
use Rattle.csv_tables.specs.Lines.{error_line}
use Rattle.statement_meaning.specs.declared.refusal.StepRefusal.TheVariants as refusal
use Rattle.perm_engine.specs.meaning.Stops.{At}
use Rattle.perm_engine.proofs.meaning.stopping.stop.Goals as goal

pub returns-in-Break-clause-ends : goal.returns-in-Break-clause-ends
returns-in-Break-clause-ends g c = λ contents statement. rw c.in-Break.is (c.end.ensures.ends (At contents statement (refusal.Break c.in-Break.found))
    (ap (λ n. error_line n c.in-Break.found.at) (sym c.code.ensures) ∙ sym c.error_line.ensures) refl)

pub returns-in-Run-clause-ends : goal.returns-in-Run-clause-ends
returns-in-Run-clause-ends g c = λ contents statement. rw c.in-Run.is (c.end-in-Run.ensures.ends (At contents statement (refusal.Run c.in-Run.fault c.in-Run.at)) (ap (λ n. error_line n c.in-Run.at) (sym c.fault_code.ensures) ∙ sym c.error_line-in-Run.ensures) refl)

pub returns-in-Missing-clause-ends : goal.returns-in-Missing-clause-ends
returns-in-Missing-clause-ends g c = λ contents statement. rw c.in-Missing.is (c.end-in-Missing.ensures.ends (At contents statement (refusal.Missing c.in-Missing.at)) (sym c.error_line-in-Missing.ensures) refl)

pub returns-in-TooLarge-clause-ends : goal.returns-in-TooLarge-clause-ends
returns-in-TooLarge-clause-ends g c = λ contents statement. rw c.in-TooLarge.is (c.end-in-TooLarge.ensures.ends (At contents statement (refusal.TooLarge c.in-TooLarge.at)) (sym c.error_line-in-TooLarge.ensures) refl)

pub returns-in-Unfit-clause-ends : goal.returns-in-Unfit-clause-ends
returns-in-Unfit-clause-ends g c = λ contents statement. rw c.in-Unfit.is (c.end-in-Unfit.ensures.ends (At contents statement (refusal.Unfit c.in-Unfit.rule)) (sym c.data_line.ensures) refl)

pub returns-in-ReadFault-clause-ends : goal.returns-in-ReadFault-clause-ends
returns-in-ReadFault-clause-ends g c = λ contents statement. rw c.in-ReadFault.is (c.finish.ensures.ends (At contents statement refusal.ReadFault) (refl) refl)
