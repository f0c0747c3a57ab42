use Rattle.std.proofs.Common.{◌≡◌, ◌∙◌, ℕ, List, ◌∷◌, length, take, Ok, Err, false, refl, sym, ap, subst, arith}
use Rattle.std.proofs.lemmas.List.{nil_from_length}
use Rattle.std.specs.Io.KnownBytes.{append_known}
use Rattle.std.specs.Vec.Iter.{into_iter_items}
use Rattle.perm_catalog.specs.Changes.{nothing_held}
use Rattle.perm_catalog.specs.Contents.{Contents}
use Rattle.perm_io.specs.Counts.{CountsFault}
use Rattle.sql_tree.specs.Regular.{Each, RegularStatement}
use Rattle.sql_tree.specs.declared.statement.Statement.{Statement}
use Rattle.statement_meaning.specs.Answers.{can_be, file_limit, has_failed, over}
use Rattle.statement_meaning.specs.Asking.{asked}
use Rattle.perm_engine.specs.Sessions.{SessionState}
use Rattle.perm_engine.specs.meaning.Stops.{ToTheEnd}
use Rattle.perm_engine.specs.declared.meaning.status.Status.TheVariants as status
use Rattle.perm_engine.proofs.meaning.Ending.{HasRun, HasRun-nothing, HasRun-more, HasRun-cut, HasRun-stopped, HasRun-done}
use Rattle.perm_engine.proofs.meaning.Firsts.{next-after}
use Rattle.perm_engine.proofs.meaning.Looping.{next-regular, left-regular, text≢memory, stopped-of_script, stopped-read_fault, stopped-steady, other_end}
use Rattle.perm_engine.proofs.meaning.Running.{of_script}
use Rattle.perm_engine.proofs.meaning.Turns.{begun-told, still_risen}
use Rattle.perm_engine.proofs.meaning.Widening.{CanBe-moved, takes-wider, rests-moved}
use Rattle.perm_engine.proofs.run.run_statements.Goals as goal

pub loop-statement-init : goal.loop-statement-init
loop-statement-init g c =
    let items = into_iter_items c.into_iter-left.result in
    let whole : c.args.statements ≡ items = sym (c.into_iter-left.ensures.rest ∙ c.into_vec.ensures) in
    let fresh : nothing_held 1 ≡ c.new-session.result.contents = sym (ap (λ (session : SessionState). session.contents) c.new-session.ensures) in
    let vec = c.into_vec.result in
    let files = c.args.files.now in
    let out = c.args.out.now in record {
      has_run = subst (λ (p : List Statement × Contents). HasRun (g.F.Files.told files).held (g.F.Files.told files).faults c.args.statements (nothing_held 1) p.0 p.1 (g.K.Sink.told out).written (g.K.Sink.told out).written
          (g.K.Sink.told out).faults (g.K.Sink.told out).faults (g.F.Files.told files).begun (g.F.Files.told files).begun) (λ i. (whole i, fresh i))
          (HasRun-nothing (g.F.Files.told files).held (g.F.Files.told files).faults c.args.statements (nothing_held 1) (g.K.Sink.told out).written (g.K.Sink.told out).faults (g.F.Files.told files).begun);
      calm = refl;
      held = refl;
      regular = subst (Each RegularStatement) whole c.requires;
      drawn = omega (arith, ap (λ (session : SessionState). session.contents.next) c.new-session.ensures, ap length whole);
      few = omega (arith, vec.ok.0, vec.ok.1, vec.small, ap length c.into_vec.ensures);
    }

pub step-requires : goal.step-requires
step-requires g c =
    let statement = c.in-Some.statement in
    let left = into_iter_items c.next.new.self in
    let taken : into_iter_items c.loop-statement.left ≡ statement ∷ left = c.in-Some.ensures.items in
    record { regular = next-regular statement left (subst (Each RegularStatement) taken c.loop-statement.invariant.regular) }

pub returns-in-Err-write_all : goal.returns-in-Err-write_all
returns-in-Err-write_all g c =
    let kept = c.loop-statement.invariant in
    let statement = c.in-Some.statement in
    let left = into_iter_items c.next.new.self in
    let taken : into_iter_items c.loop-statement.left ≡ statement ∷ left = c.in-Some.ensures.items in
    let now = c.loop-statement.session.contents in
    let next = c.step.new.self.contents in
    let text = c.in-Ok.text in
    let was = c.loop-statement.files in
    let old = c.loop-statement.out in
    let new = c.write_all.new.out in
    let before = c.args.out.now in
    let files = over (g.F.Files.told c.args.files.now) (g.F.Files.told c.step.new.files) in
    let met = over (g.F.Files.told was) (g.F.Files.told c.step.new.files) in
    let quiet = record files { faults_after = files.faults } in
    let still = c.in-Ok.ensures.done.faults ∙ kept.calm in
    let has_run = subst (λ ss. HasRun files.held files.faults c.args.statements (nothing_held 1) ss now (g.K.Sink.told before).written (g.K.Sink.told old).written
    (g.K.Sink.told before).faults (g.K.Sink.told old).faults files.begun met.begun) taken kept.has_run in
    let turn = takes-wider (can_be met) (can_be quiet)
    (CanBe-moved file_limit met.held files.held met.faults files.faults met.faults_after files.faults kept.held kept.calm still) (asked now statement) now next (Ok text) c.in-Ok.ensures.done.turn in
    let counted = begun-told (asked now statement) met.begun files.begun_after _ c.in-Ok.ensures.begun (λ e. ap (λ f. (g.F.Files.told f).begun) (c.in-Ok.ensures.unbegun e)) (text≢memory text) in
    let count = c.in-Err-write_all.ensures.prefix.0 in record {
      ends = HasRun-cut c.args.statements (nothing_held 1) statement left now (g.K.Sink.told before).written (g.K.Sink.told old).written (g.K.Sink.told before).faults (g.K.Sink.told old).faults met.begun files has_run
          (still_risen files.faults files.faults_after false still) text next (g.K.Sink.told new).written (g.K.Sink.told new).faults count (g.K.Sink.told new).unflushed turn counted
          (omega (arith, c.in-Err-write_all.ensures.prefix.1, ap length c.as_slice.ensures))
          (c.in-Err-write_all.ensures.prefix.2 ∙ ap (λ (bytes : List ℕ). append_known (g.K.Sink.told old).written (take count bytes)) c.as_slice.ensures) c.in-Err-write_all.ensures.faults;
      status = tt;
      read_fault = λ e. absurd cc;
      steady = λ w. absurd w;
      held = c.in-Ok.ensures.done.held ∙ kept.held;
    }

pub returns-in-Err : goal.returns-in-Err
returns-in-Err g c =
    let kept = c.loop-statement.invariant in
    let statement = c.in-Some.statement in
    let left = into_iter_items c.next.new.self in
    let taken : into_iter_items c.loop-statement.left ≡ statement ∷ left = c.in-Some.ensures.items in
    let now = c.loop-statement.session.contents in
    let next = c.step.new.self.contents in
    let refused = c.in-Err.refusal in
    let was = c.loop-statement.files in
    let old = c.loop-statement.out in
    let new = c.stop.new.out in
    let before = c.args.out.now in
    let files = over (g.F.Files.told c.args.files.now) (g.F.Files.told c.step.new.files) in
    let met = over (g.F.Files.told was) (g.F.Files.told c.step.new.files) in
    let counts = subst (λ n. CountsFault n files.faults_after (has_failed {X = List ℕ} (Err refused))) kept.calm c.in-Err.ensures.done.faults in
    let has_run = subst (λ ss. HasRun files.held files.faults c.args.statements (nothing_held 1) ss now (g.K.Sink.told before).written (g.K.Sink.told old).written
    (g.K.Sink.told before).faults (g.K.Sink.told old).faults files.begun met.begun) taken kept.has_run in
    let turn = takes-wider (can_be met) (can_be files)
    (CanBe-moved file_limit met.held files.held met.faults files.faults met.faults_after files.faults_after kept.held kept.calm refl) (asked now statement) now next (Err refused) c.in-Err.ensures.done.turn in record {
      ends = HasRun-stopped c.args.statements (nothing_held 1) statement left now (g.K.Sink.told before).written (g.K.Sink.told old).written (g.K.Sink.told before).faults (g.K.Sink.told old).faults met.begun files has_run
          (still_risen files.faults files.faults_after (has_failed {X = List ℕ} (Err refused)) counts) refused next (g.K.Sink.told new).written (g.K.Sink.told new).faults (g.K.Sink.told new).unflushed c.stop.result
          (omega (arith, kept.drawn, kept.few, ap length taken)) turn c.in-Err.ensures.begun (λ e. ap (λ f. (g.F.Files.told f).begun) (c.in-Err.ensures.unbegun e))
          (rests-moved refused met files refl refl c.in-Err.ensures.done.backed) (c.stop.ensures.ends now statement);
      status = stopped-of_script refused c.stop.result c.stop.ensures.status;
      read_fault = stopped-read_fault refused c.stop.result c.stop.ensures.status files.faults files.faults_after counts;
      steady = stopped-steady refused c.stop.result c.stop.ensures.status files.faults files.faults_after counts;
      held = c.in-Err.ensures.done.held ∙ kept.held;
    }

pub loop-statement-preserved : goal.loop-statement-preserved
loop-statement-preserved g c =
    let kept = c.loop-statement.invariant in
    let statement = c.in-Some.statement in
    let left = into_iter_items c.next.new.self in
    let taken : into_iter_items c.loop-statement.left ≡ statement ∷ left = c.in-Some.ensures.items in
    let now = c.loop-statement.session.contents in
    let next = c.step.new.self.contents in
    let text = c.in-Ok.text in
    let was = c.loop-statement.files in
    let old = c.loop-statement.out in
    let new = c.write_all.new.out in
    let before = c.args.out.now in
    let files = over (g.F.Files.told c.args.files.now) (g.F.Files.told c.step.new.files) in
    let met = over (g.F.Files.told was) (g.F.Files.told c.step.new.files) in
    let quiet = record files { faults_after = files.faults } in
    let still = c.in-Ok.ensures.done.faults ∙ kept.calm in
    let has_run = subst (λ ss. HasRun files.held files.faults c.args.statements (nothing_held 1) ss now (g.K.Sink.told before).written (g.K.Sink.told old).written
    (g.K.Sink.told before).faults (g.K.Sink.told old).faults files.begun met.begun) taken kept.has_run in
    let turn = takes-wider (can_be met) (can_be quiet)
    (CanBe-moved file_limit met.held files.held met.faults files.faults met.faults_after files.faults kept.held kept.calm still) (asked now statement) now next (Ok text) c.in-Ok.ensures.done.turn in
    let counted = begun-told (asked now statement) met.begun files.begun_after _ c.in-Ok.ensures.begun (λ e. ap (λ f. (g.F.Files.told f).begun) (c.in-Ok.ensures.unbegun e)) (text≢memory text) in record {
      has_run = HasRun-more files.held files.faults c.args.statements (nothing_held 1) statement left now (g.K.Sink.told before).written (g.K.Sink.told old).written (g.K.Sink.told before).faults (g.K.Sink.told old).faults
          files.begun met.begun has_run text next (g.K.Sink.told new).written (g.K.Sink.told new).faults files.begun_after turn counted
          (c.in-Ok-write_all.ensures.whole ∙ ap (append_known (g.K.Sink.told old).written) c.as_slice.ensures) c.in-Ok-write_all.ensures.faults;
      calm = still;
      held = c.in-Ok.ensures.done.held ∙ kept.held;
      regular = left-regular statement left (subst (Each RegularStatement) taken kept.regular);
      drawn = omega (arith, next-after (can_be quiet) now next statement text turn, kept.drawn, ap length taken);
      few = kept.few;
    }

pub returns : goal.returns
returns g c =
    let kept = c.loop-statement.invariant in
    let iterator = c.loop-statement.left in
    let before = c.args.out.now in
    let old = c.loop-statement.out in
    let new = c.finish.new.out in
    let files = over (g.F.Files.told c.args.files.now) (g.F.Files.told c.loop-statement.files) in
    let none = nil_from_length (into_iter_items iterator) (omega (arith, iterator.rest.ok.0, c.in_default.ensures.cases)) in record {
      ends = HasRun-done c.args.statements (nothing_held 1) (into_iter_items iterator) c.loop-statement.session.contents (g.K.Sink.told before).written (g.K.Sink.told old).written (g.K.Sink.told before).faults (g.K.Sink.told old).faults
          files.begun_after files kept.has_run (still_risen files.faults files.faults_after false kept.calm) (g.K.Sink.told new).written (g.K.Sink.told new).faults (g.K.Sink.told new).unflushed c.finish.result none refl
          (c.finish.ensures.ends ToTheEnd refl refl);
      status = of_script c.finish.result status.Done tt c.finish.ensures.status;
      read_fault = λ e. absurd (other_end c.finish.result status.Done status.ReadFault (λ same. absurd cc) (λ same. absurd cc) c.finish.ensures.status e);
      steady = λ w. kept.calm;
      held = kept.held;
    }
