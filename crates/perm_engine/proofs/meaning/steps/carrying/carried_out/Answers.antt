use Rattle.statement_meaning.specs.Answers.{can_be, over}
use Rattle.statement_meaning.specs.Asking.{asks}
use Rattle.perm_engine.proofs.meaning.Stepping.{taken-sound}
use Rattle.perm_engine.proofs.meaning.steps.carrying.carried_out.Goals as goal

pub step-requires : goal.step-requires
step-requires g c = c.requires.ready

pub returns-clause-sound : goal.returns-clause-sound
returns-clause-sound g c =
    taken-sound (can_be (over (g.F.Files.told c.args.files.now) (g.F.Files.told c.step.new.files)))
    (asks c.args.catalog.now c.args.at c.args.resolved.now) c.args.catalog.now c.step.new.catalog c.step.result c.requires.before c.requires.sound c.step.ensures.done.turn
