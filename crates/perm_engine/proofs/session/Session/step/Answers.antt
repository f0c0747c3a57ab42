use Rattle.std.proofs.Common.{◌≡◌, ◌∙◌, IsTrue, inl, refl, subst, sym}
use Rattle.std.proofs.lemmas.Result.{err_from_is_err_and}
use Rattle.name_meaning.specs.Statements.{resolved}
use Rattle.statement_meaning.specs.Answers.{over}
use Rattle.perm_engine.proofs.meaning.Stepping.{asked-carried, begins-made, due-carried, due-refused, made-ran, refused-ran, refused-takes, refused-backed, refused-unfailed, refused-unbegun}
use Rattle.name_statements.specs.Own.{own_breaks}
use Rattle.perm_engine.proofs.session.Session.step.Goals as goal

pub resolved_statement-requires : goal.resolved_statement-requires
resolved_statement-requires g c = record { sound = c.self.invariant; regular = c.requires.regular }

pub returns-in_err-resolved : goal.returns-in_err-resolved
returns-in_err-resolved g c =
    let held = c.self.inside.catalog in
    let statement = c.args.statement in
    let f = c.args.files.now in
    let files = over (g.F.Files.told f) (g.F.Files.told f) in
    let refused = c.in_err-resolved.field-0.0 in
    let h = c.in_err-resolved.ensures.resolves in
    let p = err_from_is_err_and c.from_residual.result c.from_residual.ensures.1 in
    rw (p.1, p.2, ← c.self.view_is) (record {
      done = record {
        turn = refused-takes held statement files refused h;
        backed = refused-backed held statement files refused h;
        faults = refused-unfailed held statement files refused h (g.F.Files.told f).faults;
        held = refl;
      };
      sound = c.self.invariant;
      due = due-refused (own_breaks held statement.body) refused c.in_err-resolved.ensures.due;
      begun = refused-unbegun held statement files refused h (g.F.Files.told f).begun;
      unbegun = λ none. refl;
      ran = refused-ran held (resolved held statement) refused c.self.inside.runner;
    })

pub carried_out-told-requires : goal.carried_out-told-requires
carried_out-told-requires g c =
    record { before = c.self.invariant; ready = c.in_ok-resolved.ensures.resolves.ready; sound = c.in_ok-resolved.ensures.resolves.sound }

pub invariant_of-self : goal.invariant_of-self
invariant_of-self g c = c.carried_out-told.ensures.sound

pub returns : goal.returns
returns g c =
    let f = c.args.files.now in
    let after = c.carried_out-told.new.files in
    let files = over (g.F.Files.told f) (g.F.Files.told after) in
    let resolves = c.in_ok-resolved.ensures.resolves in
    let begins = begins-made c.self.inside.catalog c.args.statement c.in_ok-resolved.resolved resolves in
    rw (← c.self.view_is) (record {
      done = asked-carried c.self.inside.catalog c.carried_out-told.new.catalog c.args.statement c.in_ok-resolved.resolved c.carried_out-told.result files
          resolves c.carried_out-told.ensures.done;
      sound = c.carried_out-told.ensures.sound;
      due = due-carried (own_breaks c.self.inside.catalog c.args.statement.body) c.in_ok-resolved.resolved c.carried_out-told.result c.in_ok-resolved.ensures.due;
      begun = λ some. inl (c.carried_out-told.ensures.begun (subst IsTrue (sym begins) some));
      unbegun = λ none. c.carried_out-told.ensures.unbegun (begins ∙ none);
      ran = made-ran c.self.inside.catalog c.args.statement c.in_ok-resolved.resolved c.carried_out-told.result c.self.inside.runner c.carried_out-told.new.runner
          resolves c.carried_out-told.ensures.ran;
    })
