-- A step of a run: by the statement's breaks, and by what carries it out.
use Rattle.std.proofs.Common.{◌≡◌, ◌⊎◌, ◌∙◌, ℕ, true, false, true≢false, List, [], ◌∷◌, Option, Result, Ok, Err, refl, sym, ap, subst, inr, IsTrue}
use Rattle.perm_catalog.specs.Contents.{Contents}
use Rattle.perm_catalog.specs.Sound.{IsSound}
use Rattle.perm_io.specs.Counts.{HasRisen, CountsFault, next_count}
use Rattle.perm_io.specs.Found.{Found}
use Rattle.sql_tree.specs.declared.statement.Statement.{Statement}
use Rattle.statement_steps.proofs.SomeFound.{some_found}
use Rattle.name_seen_parts.specs.Seen.{first_or}
use Rattle.name_meaning.specs.Statements.{breaks, resolved}
use Rattle.name_meaning.specs.declared.answer.Break.{Break}
use Rattle.name_meaning.specs.declared.answer.Resolved.{Resolved}
use Rattle.name_meaning.specs.declared.answer.Resolved.TheVariants as r
use Rattle.statement_steps.specs.declared.ran.Ran.{Ran}
use Rattle.statement_steps.specs.Running.{KeepsRun}
use Rattle.statement_meaning.specs.laws.Sounder.{StandsSound, KeepsSound}
use Rattle.statement_meaning.specs.Answers.{Files, TakesTurn, IsTurn, IsBacked, begins, can_be, has_failed, file_limit}
use Rattle.statement_meaning.specs.Asking.{Asked, Settled, Begins, Explained, asked, asks, unless_broken}
use Rattle.statement_meaning.specs.Ready.{IsReady}
use Rattle.statement_meaning.specs.Turns.{Turn, Refused, Broken}
use Rattle.statement_meaning.specs.declared.refusal.StepRefusal.{StepRefusal}
use Rattle.statement_meaning.specs.declared.refusal.StepRefusal.TheVariants as refusal
use Rattle.statement_meaning.specs.Carrying.{IsCarriedOut}
use Rattle.perm_engine.specs.meaning.Resolving.{IsDue, IsResolvedSoundly, Resolves}
use Rattle.perm_engine.proofs.meaning.Causes.{refuses_with}

-- ---- resolving

same_break : (first b : Break) → first_or (first ∷ []) (tt {0}) ≡ Err b → first ≡ b
same_break first b e = cc

abbrev refuses_resolved : StepRefusal → Result Resolved StepRefusal
refuses_resolved refused = Err refused

abbrev resolves_to : Resolved → Result Resolved StepRefusal
resolves_to made = Ok made

-- what is due of a statement's resolution is due of the statement
made≢broken : (made : Resolved) (b : Break) → resolves_to made ≡ refuses_resolved (refusal.Break b) → ⊥
made≢broken made b e = cc

pub due-carried : {X : Type 0} (breaks : List Break) (made : Resolved) (result : Result X StepRefusal) → IsDue {X = Resolved} breaks (Ok made) → IsDue breaks result
due-carried breaks made result h first e = absurd (made≢broken made first (h first e))

same_refusal : (refused : StepRefusal) (b : Break) → refuses_resolved refused ≡ refuses_resolved (refusal.Break b) → refused ≡ refusal.Break b
same_refusal refused b e = cc

pub due-refused : {X : Type 0} (breaks : List Break) (refused : StepRefusal) → IsDue {X = Resolved} breaks (Err refused) → IsDue {X = X} breaks (Err refused)
due-refused breaks refused h first e = ap Err (same_refusal refused first (h first e))

-- ---- what becomes of it

pub asked-made : (c : Contents) (statement : Statement) (made : Resolved) → IsResolvedSoundly (breaks c statement) c statement made → asked c statement ≡ asks c statement.at made
asked-made c statement made h =
    ap (λ bs. unless_broken bs (asks c statement.at (resolved c statement))) h.whole ∙ ap (asks c statement.at) (sym h.is)

broken-first : (all : List Break) (a : Asked) (b : Break) → first_or all (tt {0}) ≡ Err b → unless_broken all a ≡ Settled (Refused (Broken b))
broken-first [] a b e = absurd cc
broken-first (first ∷ more) a b e = ap (λ d. Settled (Refused (Broken d))) (same_break first b e)

asked-broken : (c : Contents) (statement : Statement) (b : Break) → first_or (breaks c statement) (tt {0}) ≡ Err b → asked c statement ≡ Settled (Refused (Broken b))
asked-broken c statement b e = broken-first (breaks c statement) (asks c statement.at (resolved c statement)) b e

-- ---- a refusal before the statement is carried out

module _ (c : Contents) (statement : Statement) (files : Files) where
  nothing-taken : (a : Asked) → TakesTurn (can_be files) a c c (Err refusal.NoMemory)
  nothing-taken (Settled turn) = (tt, refl)
  nothing-taken (Begins name after) =
      let f = some_found file_limit files.held (HasRisen files.faults files.faults_after) name in (f.0, f.1, (tt, refl))
  nothing-taken (Explained after answer) = (refl, refl)

  pub refused-takes : (refused : StepRefusal) → Resolves c statement (Err refused) → TakesTurn (can_be files) (asked c statement) c c (Err refused)
  refused-takes (refusal.Break b) h = subst (λ a. TakesTurn (can_be files) a c c (Err (refusal.Break b))) (sym (asked-broken c statement b h)) (refl, refl)
  refused-takes (refusal.Run fault at) h = absurd h
  refused-takes (refusal.Missing at) h = absurd h
  refused-takes (refusal.TooLarge at) h = absurd h
  refused-takes (refusal.Unfit rule) h = absurd h
  refused-takes refusal.ReadFault h = absurd h
  refused-takes refusal.NoMemory h = nothing-taken (asked c statement)

  pub refused-backed : (refused : StepRefusal) → Resolves c statement (Err refused) → IsBacked {X = List ℕ} (Err refused) files
  refused-backed (refusal.Break b) h = tt
  refused-backed (refusal.Run fault at) h = absurd h
  refused-backed (refusal.Missing at) h = absurd h
  refused-backed (refusal.TooLarge at) h = absurd h
  refused-backed (refusal.Unfit rule) h = absurd h
  refused-backed refusal.ReadFault h = absurd h
  refused-backed refusal.NoMemory h = tt

  pub refused-unfailed : (refused : StepRefusal) → Resolves c statement (Err refused) → (faults : ℕ) → CountsFault faults faults (has_failed {X = List ℕ} (Err refused))
  refused-unfailed (refusal.Break b) h faults = refl
  refused-unfailed (refusal.Run fault at) h faults = absurd h
  refused-unfailed (refusal.Missing at) h faults = absurd h
  refused-unfailed (refusal.TooLarge at) h faults = absurd h
  refused-unfailed (refusal.Unfit rule) h faults = absurd h
  refused-unfailed refusal.ReadFault h faults = absurd h
  refused-unfailed refusal.NoMemory h faults = refl

  -- a file that wasn't begun was to be begun only where memory was wanting
  pub refused-unbegun : (refused : StepRefusal) → Resolves c statement (Err refused) → (begun : ℕ) → IsTrue (begins (asked c statement)) →
      (begun ≡ next_count begun) ⊎ ((refuses_with refused ≡ refuses_with refusal.NoMemory) × (begun ≡ begun))
  refused-unbegun (refusal.Break b) h begun some = absurd (true≢false (sym some ∙ ap begins (asked-broken c statement b h)))
  refused-unbegun (refusal.Run fault at) h begun some = absurd h
  refused-unbegun (refusal.Missing at) h begun some = absurd h
  refused-unbegun (refusal.TooLarge at) h begun some = absurd h
  refused-unbegun (refusal.Unfit rule) h begun some = absurd h
  refused-unbegun refusal.ReadFault h begun some = absurd h
  refused-unbegun refusal.NoMemory h begun some = inr (refl, refl)

-- ---- the catalog stays sound

turn-sound : (turn : Turn) (old new : Contents) (result : Result (List ℕ) StepRefusal) → IsSound old → StandsSound turn → IsTurn turn old new result → IsSound new
turn-sound turn old new (Ok text) sound keeps h = subst StandsSound h keeps
turn-sound turn old new (Err refused) sound keeps h = subst IsSound (sym h.1) sound

pub taken-sound : (Can : List ℕ → Found → Type 0) (a : Asked) (old new : Contents) (result : Result (List ℕ) StepRefusal) → IsSound old → KeepsSound a → TakesTurn Can a old new result → IsSound new
taken-sound Can (Settled turn) old new result sound keeps h = turn-sound turn old new result sound keeps h
taken-sound Can (Begins name after) old new result sound keeps (found, can, h) = turn-sound (after found) old new result sound (keeps found) h
taken-sound Can (Explained after answer) old new (Ok text) sound keeps h = subst IsSound (sym h.1) keeps
taken-sound Can (Explained after answer) old new (Err refused) sound keeps h = subst IsSound (sym h.1) sound

-- what name analysis makes of a statement that breaks nothing
pub made-whole : (c : Contents) (statement : Statement) (made : Resolved) → breaks c statement ≡ [] → made ≡ resolved c statement → IsReady c (resolved c statement) →
    KeepsSound (asks c statement.at (resolved c statement)) → IsResolvedSoundly (breaks c statement) c statement made
made-whole c statement made whole is ready sound =
    record { whole = whole; is = is; ready = subst (IsReady c) (sym is) ready; sound = subst (λ m. KeepsSound (asks c statement.at m)) (sym is) sound }

-- what was asked for has become of the statement
pub asked-carried : (c new : Contents) (statement : Statement) (made : Resolved) (result : Result (List ℕ) StepRefusal) (files : Files) →
    IsResolvedSoundly (breaks c statement) c statement made → IsCarriedOut (asks c statement.at made) c new result files → IsCarriedOut (asked c statement) c new result files
asked-carried c new statement made result files m h =
    subst (λ a. IsCarriedOut a c new result files) (sym (asked-made c statement made m)) h

-- what was asked for begins a file where the statement does, and there alone
pub begins-made : (c : Contents) (statement : Statement) (made : Resolved) → IsResolvedSoundly (breaks c statement) c statement made
    → begins (asks c statement.at made) ≡ begins (asked c statement)
begins-made c statement made m = ap begins (sym (asked-made c statement made m))

-- ---- the last run

-- a refusal before the statement is carried out leaves it
pub refused-ran : (c : Contents) (made : Resolved) (refused : StepRefusal) (last : Option Ran) → KeepsRun c made (Err refused) last last
refused-ran c (r.CreateTable name columns) refused last = refl
refused-ran c (r.CreateTableAs name columns answer places) refused last = tt
refused-ran c (r.CreateView name entry) refused last = refl
refused-ran c (r.Copy name kinds file null_field header) refused last = refl
refused-ran c (r.Insert name rows) refused last = refl
refused-ran c (r.Delete name condition) refused last = refl
refused-ran c (r.DropTable name) refused last = refl
refused-ran c (r.DropView name) refused last = refl
refused-ran c (r.Select answer) refused last = tt
refused-ran c (r.Explain answer) refused last = refl
refused-ran c (r.ShowFresh name) refused last = refl
refused-ran c (r.Impact name condition answer) refused last = tt

pub made-ran : (c : Contents) (statement : Statement) (made : Resolved) (result : Result (List ℕ) StepRefusal) (before after : Option Ran) →
    IsResolvedSoundly (breaks c statement) c statement made → KeepsRun c made result before after → KeepsRun c (resolved c statement) result before after
made-ran c statement made result before after m h = subst (λ s. KeepsRun c s result before after) m.is h
