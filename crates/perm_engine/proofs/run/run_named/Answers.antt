use Rattle.std.proofs.Common.{◌∙◌, List, ℕ, Err, refl, ap, inl, inr, subst, arith}
use Rattle.perm_io.specs.Answers.{is_fault}
use Rattle.perm_io.specs.Counts.{CountsFault, HasRisen}
use Rattle.perm_io.specs.Found.{Missing, TooLong, Failed}
use Rattle.statement_meaning.specs.Answers.{over}
use Rattle.perm_engine.specs.meaning.Ends.{over as output}
use Rattle.perm_engine.specs.meaning.Run.{ended}
use Rattle.perm_engine.specs.meaning.Stops.{NoFile, LongFile, FailedFile}
use Rattle.perm_engine.specs.declared.meaning.status.Status.TheVariants as status
use Rattle.perm_engine.proofs.meaning.Looping.{other_end, failed-unsteady}
use Rattle.perm_engine.proofs.meaning.Begun.{Opens-none}
use Rattle.perm_engine.proofs.meaning.Running.{Runs-found, Runs-read, of_script}
use Rattle.perm_engine.proofs.run.run_named.Goals as goal

pub returns-in-Ok : goal.returns-in-Ok
returns-in-Ok g c =
    let name = c.args.name.now in
    let old = c.args.files.now in
    let read = c.read_all.new.files in
    let files = over (g.F.Files.told old) (g.F.Files.told c.run_script.new.files) in
    let w = output (g.K.Sink.told c.args.out.now) (g.K.Sink.told c.run_script.new.out) in
    let s = c.run_script.result in
    record {
      ends = Runs-read name files c.in-Ok.bytes _ (g.F.Files.told read).held (g.F.Files.told read).faults (g.F.Files.told read).begun w s c.in-Ok.ensures.begun
          (c.in-Ok.ensures.whole, c.in-Ok.ensures.within) c.in-Ok.ensures.held c.in-Ok.ensures.faults c.as_slice.ensures c.run_script.ensures.ends;
      status = c.run_script.ensures.status;
      read_fault = λ e. subst (λ n. HasRisen n files.faults_after) c.in-Ok.ensures.faults (c.run_script.ensures.read_fault e);
      steady = λ h. c.run_script.ensures.steady h ∙ c.in-Ok.ensures.faults;
      held = c.run_script.ensures.held ∙ c.in-Ok.ensures.held;
    }

pub returns-in-Err-Missing : goal.returns-in-Err-Missing
returns-in-Err-Missing g c =
    let name = c.args.name.now in
    let files = over (g.F.Files.told c.args.files.now) (g.F.Files.told c.read_all.new.files) in
    let w = output (g.K.Sink.told c.args.out.now) (g.K.Sink.told c.finish.new.out) in
    let s = c.finish.result in
    let calm = subst (λ e. CountsFault files.faults files.faults_after (is_fault {T = List ℕ} (Err e))) c.in-Err-Missing.field-0-is c.in-Err-Missing.ensures.faults in
    record {
      ends = inl (Runs-found name files Missing (ended NoFile) 0 w files.begun_after s c.in-Err-Missing.ensures.begun (c.in-Err-Missing.ensures.lacking (ap Err c.in-Err-Missing.field-0-is)) refl
          (c.finish.ensures.ends NoFile refl refl) (Opens-none NoFile files.begun_after s) (λ _. (c.in-Err-Missing.ensures.missing.0 (ap Err c.in-Err-Missing.field-0-is), c.in-Err-Missing.ensures.begun)));
      status = of_script s status.BadData tt c.finish.ensures.status;
      read_fault = λ e. absurd (other_end s status.BadData status.ReadFault (λ same. absurd cc) (λ same. absurd cc) c.finish.ensures.status e);
      steady = λ h. calm;
      held = c.in-Err-Missing.ensures.held;
    }

pub returns-in-Err-TooLarge : goal.returns-in-Err-TooLarge
returns-in-Err-TooLarge g c =
    let name = c.args.name.now in
    let files = over (g.F.Files.told c.args.files.now) (g.F.Files.told c.read_all.new.files) in
    let w = output (g.K.Sink.told c.args.out.now) (g.K.Sink.told c.finish-in-Err-TooLarge.new.out) in
    let s = c.finish-in-Err-TooLarge.result in
    let calm = subst (λ e. CountsFault files.faults files.faults_after (is_fault {T = List ℕ} (Err e))) c.in-Err-TooLarge.field-0-is c.in-Err-TooLarge.ensures.faults in
    record {
      ends = inl (Runs-found name files TooLong (ended LongFile) 0 w files.begun_after s c.in-Err-TooLarge.ensures.begun (c.in-Err-TooLarge.ensures.longer (ap Err c.in-Err-TooLarge.field-0-is)) refl
          (c.finish-in-Err-TooLarge.ensures.ends LongFile refl refl) (Opens-none LongFile files.begun_after s) (λ _. (c.in-Err-TooLarge.ensures.too_large.0 (ap Err c.in-Err-TooLarge.field-0-is), c.in-Err-TooLarge.ensures.begun)));
      status = of_script s status.BadData tt c.finish-in-Err-TooLarge.ensures.status;
      read_fault = λ e. absurd (other_end s status.BadData status.ReadFault (λ same. absurd cc) (λ same. absurd cc) c.finish-in-Err-TooLarge.ensures.status e);
      steady = λ h. calm;
      held = c.in-Err-TooLarge.ensures.held;
    }

pub returns-in-Err-Fault : goal.returns-in-Err-Fault
returns-in-Err-Fault g c =
    let name = c.args.name.now in
    let files = over (g.F.Files.told c.args.files.now) (g.F.Files.told c.read_all.new.files) in
    let w = output (g.K.Sink.told c.args.out.now) (g.K.Sink.told c.finish-in-Err-Fault.new.out) in
    let s = c.finish-in-Err-Fault.result in
    let calm = subst (λ e. CountsFault files.faults files.faults_after (is_fault {T = List ℕ} (Err e))) c.in-Err-Fault.field-0-is c.in-Err-Fault.ensures.faults in
    record {
      ends = inl (Runs-found name files Failed (ended FailedFile) 0 w files.begun_after s c.in-Err-Fault.ensures.begun calm refl
          (c.finish-in-Err-Fault.ensures.ends FailedFile refl refl) (Opens-none FailedFile files.begun_after s) (λ _. calm));
      status = of_script s status.ReadFault tt c.finish-in-Err-Fault.ensures.status;
      read_fault = λ e. calm;
      steady = λ h. absurd (failed-unsteady s c.finish-in-Err-Fault.ensures.status h);
      held = c.in-Err-Fault.ensures.held;
    }

pub returns-in-Err-NoMemory : goal.returns-in-Err-NoMemory
returns-in-Err-NoMemory g c =
    let files = over (g.F.Files.told c.args.files.now) (g.F.Files.told c.read_all.new.files) in
    let calm = subst (λ e. CountsFault files.faults files.faults_after (is_fault {T = List ℕ} (Err e))) c.in-Err-NoMemory.field-0-is c.in-Err-NoMemory.ensures.faults in
    record {
      ends = inr (record { said = refl; text = refl; steady = refl }, (1, omega arith, c.in-Err-NoMemory.ensures.begun));
      status = tt;
      read_fault = λ e. absurd cc;
      steady = λ h. calm;
      held = c.in-Err-NoMemory.ensures.held;
    }
