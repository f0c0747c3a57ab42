-- Which run a command line and its script's file stand for.
use Rattle.std.proofs.Common.{◌≡◌, ◌∙◌, ◌⊎◌, ℕ, List, Option, Err, refl, sym, ap, inl, inr, subst, arith}
use Rattle.perm_engine.specs.meaning.words.Requests.{request_of}
use Rattle.perm_engine.specs.declared.meaning.words.wanted.Wanted.{Wanted}
use Rattle.perm_engine.specs.declared.meaning.words.wanted.Wanted.TheVariants.{Misworded}
use Rattle.perm_io.specs.Counts.{HasRisen, next_count}
use Rattle.perm_io.specs.Found.{Found, Read, CanBe}
use Rattle.perm_io.specs.declared.named_file.NamedFile.{NamedFile}
use Rattle.perm_catalog.specs.Changes.{nothing_held}
use Rattle.sql_tree.specs.declared.statement.Script.{Script}
use Rattle.name_seen_parts.specs.declared.refusal.Refusal.{Refusal}
use Rattle.name_seen_parts.specs.declared.refusal.Refusal.TheVariants.{Break, NoMemory}
use Rattle.statement_meaning.specs.Answers.{Files, can_be, file_limit}
use Rattle.perm_engine.specs.meaning.Ends.{Written, Ends, EndsOne, EndsSome, EndsRefused, IsSilent, Opens, RunsOver, opened}
use Rattle.perm_engine.specs.meaning.Run.{Ran, Runs, RunsFrom, RunsNamed, RunsScript, RunsFile, RunsWanted, ended, script_files, IsOfScript, IsWhole, after_files}
use Rattle.perm_engine.specs.meaning.Scripts.{IsReading, IsScriptOf}
use Rattle.perm_engine.specs.meaning.Stops.{Misused, NoScript, Backs, script_limit}
use Rattle.perm_engine.specs.declared.meaning.status.Status.{Status}
use Rattle.perm_engine.specs.declared.meaning.status.Status.TheVariants as status
use Rattle.perm_engine.proofs.meaning.Begun.{Opens-file, Opens-none}
use Rattle.perm_engine.proofs.meaning.Ending.{Ends-files}
use Rattle.perm_engine.proofs.meaning.Widening.{CanBe-moved, script-wider, backs-wider, script-of_script}

-- a status that stands for a script, or a failed output
pub of_script : (s t : Status) → IsOfScript t → (s ≡ t) ⊎ (s ≡ status.WriteFault) → IsOfScript s
of_script s t h (inl same) = subst IsOfScript (sym same) h
of_script s t h (inr cut) = subst IsOfScript (sym cut) tt

-- what the words ask for decides the runs
pub EndsOne-wanted : (words : List (List ℕ)) (wanted : Wanted) (Can : List ℕ → Found → Type 0) (w : Written) (files : Files) (s : Status) → wanted ≡ request_of words →
    EndsOne (script_files wanted) Can (RunsWanted wanted files.held (HasRisen files.faults files.faults_after)) w files s →
    EndsOne (script_files (request_of words)) Can (RunsOver words files) w files s
EndsOne-wanted words wanted Can w files s is e =
    subst (λ asked. EndsOne (script_files asked) Can (RunsWanted asked files.held (HasRisen files.faults files.faults_after)) w files s) is e

-- words that ask for nothing stand for the line of usage
pub Runs-misused : (words : List (List ℕ)) (held : Option (List NamedFile)) (fault : Type 0) → Misworded ≡ request_of words → Runs words held fault (ended Misused)
Runs-misused words held fault is = subst (λ asked. RunsWanted asked held fault (ended Misused)) is refl

-- memory was wanting before any file was begun
pub EndsOne-silent : (most : ℕ) (Can : List ℕ → Found → Type 0) (IsRun : Ran → Type 0) (w : Written) (files : Files) (s : Status) → IsSilent w s → files.begun_after ≡ files.begun →
    EndsOne most Can IsRun w files s
EndsOne-silent most Can IsRun w files s silent none = inr (silent, (0, omega arith, none))

-- what the script's file was found to be decides the run
pub Runs-found : (name : List ℕ) (files : Files) (found : Found) (ran : Ran) (texts : ℕ) (w : Written) (mid : ℕ) (s : Status) →
    mid ≡ next_count files.begun → CanBe script_limit files.held (HasRisen files.faults files.faults_after) name found → RunsFile (can_be files) found ran →
    Ends ran texts w s → Opens ran texts mid files.begun_after s → (IsWhole s → Backs (can_be files) ran.stop files) →
    EndsSome (can_be files) (RunsNamed files.held (HasRisen files.faults files.faults_after) name) w files s
Runs-found name files found ran texts w mid s begun can runs e o backed = record {
  ran = after_files 1 ran;
  is = (found, ran, can, runs, refl);
  texts = texts;
  ends = Ends-files 1 ran texts w s e;
  opens = Opens-file ran texts files.begun files.begun_after s (subst (λ n. Opens ran texts n files.begun_after s) begun o);
  backed = backed;
}

-- the script was read, over files that didn't fail until then
pub Runs-read : (name : List ℕ) (files : Files) (bytes bytes' : List ℕ) (held : Option (List NamedFile)) (faults mid : ℕ) (w : Written) (s : Status) →
    mid ≡ next_count files.begun → CanBe script_limit files.held (HasRisen files.faults files.faults_after) name (Read bytes) →
    held ≡ files.held → faults ≡ files.faults → bytes' ≡ bytes →
    EndsOne 0 (can_be (record files { held = held; faults = faults; begun = mid })) (RunsScript (can_be (record files { held = held; faults = faults; begun = mid })) bytes') w
    (record files { held = held; faults = faults; begun = mid }) s →
    EndsOne 1 (can_be files) (RunsNamed files.held (HasRisen files.faults files.faults_after) name) w files s
Runs-read name files bytes bytes' held faults mid w s begun can same_held same_faults same (inl e) =
    let f : Files = record files { held = held; faults = faults; begun = mid } in
    let widen = CanBe-moved file_limit held files.held faults files.faults files.faults_after files.faults_after same_held same_faults refl in
    let runs = script-wider (can_be f) (can_be files) widen bytes' e.ran e.is in
    inl (
    Runs-found name files (Read bytes) e.ran e.texts w mid s begun can (subst (λ b. RunsScript (can_be files) b e.ran) same runs) e.ends e.opens
    (λ i. backs-wider (can_be f) (can_be files) widen e.ran.stop f files (script-of_script (can_be f) bytes' e.ran e.is) refl refl (e.backed i))
    )
Runs-read name files bytes bytes' held faults mid w s begun can same_held same_faults same (inr (silent, (count, none, counted))) =
    let nothing : count ≡ 0 = omega (arith, none) in
    inr (silent, (1, omega arith, counted ∙ ap (λ n. opened n mid) nothing ∙ begun))

-- the runs of the statements are runs of the script
pub EndsOne-script : (Can : List ℕ → Found → Type 0) (bytes : List ℕ) (script : Script) (w : Written) (files : Files) (s : Status) → IsScriptOf bytes script →
    EndsSome Can (RunsFrom Can (nothing_held 1) script.statements) w files s → EndsOne 0 Can (RunsScript Can bytes) w files s
EndsOne-script Can bytes script w files s h e =
    inl (record { ran = e.ran; is = inl (script, h, e.is); texts = e.texts; ends = e.ends; opens = e.opens; backed = e.backed })

-- bytes that are no script, and the line that says so
pub EndsOne-refused : (Can : List ℕ → Found → Type 0) (bytes : List ℕ) (refusal : Refusal) (w : Written) (files : Files) (s : Status) → files.begun_after ≡ files.begun →
    IsReading bytes (Err refusal) → EndsRefused refusal w s → EndsOne 0 Can (RunsScript Can bytes) w files s
EndsOne-refused Can bytes (Break b) w files s none misspelled e =
    inl (record {
      ran = ended (NoScript b);
      is = inr (b, misspelled, refl);
      texts = 0;
      ends = e;
      opens = subst (λ n. Opens (ended (NoScript b)) 0 files.begun n s) (sym none) (Opens-none (NoScript b) files.begun s);
      backed = λ _. tt;
    })
EndsOne-refused Can bytes NoMemory w files s none misspelled e = EndsOne-silent 0 Can (RunsScript Can bytes) w files s e none
