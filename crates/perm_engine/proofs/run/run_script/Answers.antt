use Rattle.std.proofs.Common.{refl}
use Rattle.statement_meaning.specs.Answers.{can_be, over}
use Rattle.perm_engine.specs.meaning.Ends.{over as output}
use Rattle.perm_engine.proofs.meaning.Looping.{misspelled-of_script, misspelled-unfailed}
use Rattle.perm_engine.proofs.meaning.Running.{EndsOne-script, EndsOne-refused}
use Rattle.perm_engine.proofs.run.run_script.Goals as goal

pub run_statements-requires : goal.run_statements-requires
run_statements-requires g c =
    let spelled = c.in-Ok.ensures in c.a_spelled_script_is_regular.ensures c.args.bytes.now spelled.tokens c.in-Ok.script spelled.lexes spelled.spells

pub returns-in-Ok : goal.returns-in-Ok
returns-in-Ok g c =
    let files = over (g.F.Files.told c.args.files.now) (g.F.Files.told c.run_statements.new.files) in
    let w = output (g.K.Sink.told c.args.out.now) (g.K.Sink.told c.run_statements.new.out) in record {
      ends = EndsOne-script (can_be files) c.args.bytes.now c.in-Ok.script w files c.run_statements.result c.in-Ok.ensures c.run_statements.ensures.ends;
      status = c.run_statements.ensures.status;
      read_fault = c.run_statements.ensures.read_fault;
      steady = c.run_statements.ensures.steady;
      held = c.run_statements.ensures.held;
    }

pub returns-in-Err : goal.returns-in-Err
returns-in-Err g c =
    let here = c.args.files.now in
    let files = over (g.F.Files.told here) (g.F.Files.told here) in
    let w = output (g.K.Sink.told c.args.out.now) (g.K.Sink.told c.refuse.new.out) in record {
      ends = EndsOne-refused (can_be files) c.args.bytes.now c.in-Err.refusal w files c.refuse.result refl c.in-Err.ensures c.refuse.ensures.ends;
      status = misspelled-of_script c.refuse.result c.refuse.ensures.status;
      read_fault = λ e. absurd (misspelled-unfailed c.refuse.result c.refuse.ensures.status e);
      steady = λ h. refl;
      held = refl;
    }
