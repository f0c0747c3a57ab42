use Rattle.std.proofs.Common.{◌≡◌, ◌∙◌, ◌⊎◌, List, ℕ, refl, sym, inl, inr}
use Rattle.perm_engine.specs.meaning.words.Requests.{request_of}
use Rattle.perm_engine.specs.declared.meaning.words.wanted.Wanted.TheVariants.{Script, Generated, Misworded}
use Rattle.perm_io.specs.Counts.{HasRisen}
use Rattle.statement_meaning.specs.Answers.{can_be, over}
use Rattle.perm_engine.specs.meaning.Ends.{EndsOne, RunsOver, over as output}
use Rattle.perm_engine.specs.meaning.Run.{ended, script_files}
use Rattle.perm_engine.specs.meaning.Stops.{Misused}
use Rattle.perm_engine.specs.declared.meaning.status.Status.{Status}
use Rattle.perm_engine.specs.declared.meaning.status.Status.TheVariants as status
use Rattle.perm_engine.proofs.meaning.Headlines.{ends-told}
use Rattle.perm_engine.proofs.meaning.Completing.{completes, steadied, whole-flushed, write_fault}
use Rattle.perm_engine.proofs.meaning.Looping.{other_end, used-of_script}
use Rattle.perm_engine.proofs.meaning.Begun.{Opens-none}
use Rattle.perm_engine.proofs.meaning.Running.{EndsOne-silent, EndsOne-wanted, Runs-misused}
use Rattle.perm_engine.proofs.run.perm.Goals as goal

abbrev Used : Status → Type 0
Used s = (s ≡ status.Usage) ⊎ ((s ≡ status.WriteFault) ⊎ (s ≡ status.NoMemory))

named≢misworded : (name : List ℕ) (words : List (List ℕ)) → Script name ≡ request_of words → request_of words ≡ Misworded → ⊥
named≢misworded name words is none = other (is ∙ none) where
  other : Script name ≡ Misworded → ⊥
  other e = cc

generated≢misworded : (rows : ℕ) (words : List (List ℕ)) → Generated rows ≡ request_of words → request_of words ≡ Misworded → ⊥
generated≢misworded rows words is none = other (is ∙ none) where
  other : Generated rows ≡ Misworded → ⊥
  other e = cc

misused : (s : Status) → (s ≡ status.Usage) ⊎ (s ≡ status.WriteFault) → Used s
misused s (inl used) = inl used
misused s (inr cut) = inr (inl cut)

pub returns-in-Ok-Script : goal.returns-in-Ok-Script
returns-in-Ok-Script g c =
    let words = c.args.words.now in
    let name = c.in-Ok-Script.name in
    let files = over (g.F.Files.told c.args.files.now) (g.F.Files.told c.run_named.new.files) in
    let w = output (g.K.Sink.told c.args.out.now) (g.K.Sink.told c.run_named.new.out) in
    let s = c.run_named.result in
    let fault = HasRisen files.faults files.faults_after in
    let most = script_files (request_of words) in
    let wanted : Script name ≡ request_of words = sym c.in-Ok-Script.field-0-is ∙ c.in-Ok-Script.ensures in
    let some : EndsOne most (can_be files) (RunsOver words files) w files s =
    EndsOne-wanted words (Script name) (can_be files) w files s wanted c.run_named.ensures.ends in
    record {
      run = ends-told most words w files s (c.every_run_is_told_by_the_headline.ensures.over words files) (c.run_named.ensures.read_fault) some;
      complete = completes words files.held fault w files (can_be files) s some;
      usage = λ e. absurd (used-of_script s e c.run_named.ensures.status);
      misused = λ none. absurd (named≢misworded name words wanted none);
      read_fault = c.run_named.ensures.read_fault;
      write_fault = write_fault most (can_be files) (RunsOver words files) w files s some;
      steady = λ h. (c.run_named.ensures.steady h, steadied most (can_be files) (RunsOver words files) w files s some h);
      flushed = whole-flushed most (can_be files) (RunsOver words files) w files s some;
      begun = λ none. absurd (named≢misworded name words wanted none);
      held = c.run_named.ensures.held;
    }

pub returns-in-Ok-Generated : goal.returns-in-Ok-Generated
returns-in-Ok-Generated g c =
    let words = c.args.words.now in
    let rows = c.in-Ok-Generated.rows in
    let files = over (g.F.Files.told c.args.files.now) (g.F.Files.told c.run_generated.new.files) in
    let w = output (g.K.Sink.told c.args.out.now) (g.K.Sink.told c.run_generated.new.out) in
    let s = c.run_generated.result in
    let fault = HasRisen files.faults files.faults_after in
    let most = script_files (request_of words) in
    let wanted : Generated rows ≡ request_of words = sym c.in-Ok-Generated.field-0-is ∙ c.in-Ok-Generated.ensures in
    let some : EndsOne most (can_be files) (RunsOver words files) w files s =
    EndsOne-wanted words (Generated rows) (can_be files) w files s wanted c.run_generated.ensures.ends in
    record {
      run = ends-told most words w files s (c.every_run_is_told_by_the_headline.ensures.over words files) (c.run_generated.ensures.read_fault) some;
      complete = completes words files.held fault w files (can_be files) s some;
      usage = λ e. absurd (used-of_script s e c.run_generated.ensures.status);
      misused = λ none. absurd (generated≢misworded rows words wanted none);
      read_fault = c.run_generated.ensures.read_fault;
      write_fault = write_fault most (can_be files) (RunsOver words files) w files s some;
      steady = λ h. (c.run_generated.ensures.steady h, steadied most (can_be files) (RunsOver words files) w files s some h);
      flushed = whole-flushed most (can_be files) (RunsOver words files) w files s some;
      begun = λ none. absurd (generated≢misworded rows words wanted none);
      held = c.run_generated.ensures.held;
    }

pub returns-in-Ok-Misworded : goal.returns-in-Ok-Misworded
returns-in-Ok-Misworded g c =
    let words = c.args.words.now in
    let files = over (g.F.Files.told c.args.files.now) (g.F.Files.told c.args.files.now) in
    let w = output (g.K.Sink.told c.args.out.now) (g.K.Sink.told c.finish.new.out) in
    let s = c.finish.result in
    let fault = HasRisen files.faults files.faults_after in
    let most = script_files (request_of words) in
    let none : Misworded ≡ request_of words = sym c.in-Ok-Misworded.field-0-is ∙ c.in-Ok-Misworded.ensures in
    let some : EndsOne most (can_be files) (RunsOver words files) w files s =
    inl (record {
      ran = ended Misused;
      is = Runs-misused words files.held fault none;
      texts = 0;
      ends = c.finish.ensures.ends Misused refl refl;
      opens = Opens-none Misused files.begun s;
      backed = λ _. tt;
    }) in
    record {
      run = ends-told most words w files s (c.every_run_is_told_by_the_headline.ensures.over words files) (λ e. absurd (other_end s status.Usage status.ReadFault (λ same. absurd cc) (λ same. absurd cc) c.finish.ensures.status e)) some;
      complete = completes words files.held fault w files (can_be files) s some;
      usage = λ e. sym none;
      misused = λ m. misused s c.finish.ensures.status;
      read_fault = λ e. absurd (other_end s status.Usage status.ReadFault (λ same. absurd cc) (λ same. absurd cc) c.finish.ensures.status e);
      write_fault = write_fault most (can_be files) (RunsOver words files) w files s some;
      steady = λ h. (refl, steadied most (can_be files) (RunsOver words files) w files s some h);
      flushed = whole-flushed most (can_be files) (RunsOver words files) w files s some;
      begun = λ m. refl;
      held = refl;
    }

pub returns-in-Err : goal.returns-in-Err
returns-in-Err g c =
    let words = c.args.words.now in
    let files = over (g.F.Files.told c.args.files.now) (g.F.Files.told c.args.files.now) in
    let w = output (g.K.Sink.told c.args.out.now) (g.K.Sink.told c.args.out.now) in
    let fault = HasRisen files.faults files.faults_after in
    let most = script_files (request_of words) in
    let some : EndsOne most (can_be files) (RunsOver words files) w files status.NoMemory =
    EndsOne-silent most (can_be files) (RunsOver words files) w files status.NoMemory (record { said = refl; text = refl; steady = refl }) refl in
    record {
      run = ends-told most words w files status.NoMemory (c.every_run_is_told_by_the_headline.ensures.over words files) (λ e. absurd cc) some;
      complete = completes words files.held fault w files (can_be files) status.NoMemory some;
      usage = λ e. absurd cc;
      misused = λ m. inr (inr refl);
      read_fault = λ e. absurd cc;
      write_fault = write_fault most (can_be files) (RunsOver words files) w files status.NoMemory some;
      steady = λ h. (refl, refl);
      flushed = λ h. absurd h;
      begun = λ m. refl;
      held = refl;
    }
