use Rattle.std.specs.Prelude.{Ok}
use Rattle.name_statements.specs.Own.{own_breaks}
use Rattle.name_meaning.specs.Statements.{resolved}
use Rattle.perm_engine.proofs.meaning.Stepping.{made-whole}
use Rattle.perm_engine.proofs.Due.{due-whole}
use Rattle.perm_engine.proofs.session.resolved_statement.Goals as goal

pub returns-in-Ok : goal.returns-in-Ok
returns-in-Ok c =
    let held = c.args.catalog.now in
    let statement = c.args.statement in
    let sound = c.requires.sound in
    let whole = c.in-Ok.ensures.resolves.whole in
    let ready = c.whole_statements_are_ready.ensures held statement sound c.requires.regular whole in
    record {
      resolves = made-whole held statement c.in-Ok.resolved whole c.in-Ok.ensures.resolves.is ready
          (c.statements_keep_catalogs_sound.ensures held sound statement.at (resolved held statement) ready (c.whole_statements_add_soundly.ensures held statement sound c.requires.regular whole));
      due = due-whole (own_breaks held statement.body) c.in-Ok.resolved (Ok c.in-Ok.resolved) c.in-Ok.ensures.due;
    }
