use Rattle.std.proofs.Common.{◌∙◌, refl, inr, subst, arith}
use Rattle.statement_meaning.specs.Answers.{can_be, over}
use Rattle.perm_engine.specs.meaning.Ends.{EndsOne, over as output}
use Rattle.perm_engine.specs.meaning.Run.{RunsScript}
use Rattle.perm_engine.specs.declared.meaning.status.Status.TheVariants as status
use Rattle.perm_engine.proofs.run.run_generated.Goals as goal

pub returns-in-Ok : goal.returns-in-Ok
returns-in-Ok g c =
    let files = over (g.F.Files.told c.args.files.now) (g.F.Files.told c.run_script.new.files) in
    let w = output (g.K.Sink.told c.args.out.now) (g.K.Sink.told c.run_script.new.out) in
    record {
      ends = subst (λ bytes. EndsOne 0 (can_be files) (RunsScript (can_be files) bytes) w files c.run_script.result) (c.as_slice.ensures ∙ c.in-Ok.ensures) c.run_script.ensures.ends;
      status = c.run_script.ensures.status;
      read_fault = c.run_script.ensures.read_fault;
      steady = c.run_script.ensures.steady;
      held = c.run_script.ensures.held;
    }

pub returns-in-Err : goal.returns-in-Err
returns-in-Err g c =
    record {
      ends = inr (record { said = refl; text = refl; steady = refl }, (0, omega arith, refl));
      status = tt;
      read_fault = λ e. absurd cc;
      steady = λ h. refl;
      held = refl;
    }
