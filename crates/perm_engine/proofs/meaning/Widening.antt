-- What can have become of files decides which runs there are: where it can be more, there are more.
use Rattle.std.proofs.Common.{◌≡◌, ◌≤◌, ℕ, List, [], ◌∷◌, length, Option, Result, inl, inr, subst, sym, arith}
use Rattle.perm_catalog.specs.Changes.{nothing_held}
use Rattle.perm_catalog.specs.Contents.{Contents}
use Rattle.perm_io.specs.Counts.{HasRisen}
use Rattle.perm_io.specs.Found.{Found, Read, Missing, TooLong, Failed, CanBe}
use Rattle.perm_io.specs.declared.named_file.NamedFile.{NamedFile}
use Rattle.csv_tables.specs.declared.data_error.DataError.TheVariants as broken_rule
use Rattle.sql_tree.specs.declared.statement.Statement.{Statement}
use Rattle.statement_meaning.specs.Answers.{Files, RestsOn, TakesTurn}
use Rattle.statement_meaning.specs.Asking.{Asked, Settled, Begins, Explained, asked}
use Rattle.statement_meaning.specs.Turns.{Turn, Accepted, Refused}
use Rattle.statement_meaning.specs.declared.refusal.StepRefusal.{StepRefusal}
use Rattle.statement_meaning.specs.declared.refusal.StepRefusal.TheVariants as refusal
use Rattle.perm_engine.specs.meaning.Run.{Ran, GoesOn, Asks, RunsFrom, RunsScript, RunsFile, after_files, after_text, ended, with_more}
use Rattle.perm_engine.specs.meaning.Stops.{Stop, ToTheEnd, Misused, NoFile, LongFile, FailedFile, NoScript, At, Backs, IsRefused}

-- the same files under other names
pub CanBe-moved : (limit : ℕ) (held held' : Option (List NamedFile)) (faults faults' after after' : ℕ) → held ≡ held' → faults ≡ faults' → after ≡ after' → (name : List ℕ) (found : Found) →
    CanBe limit held (HasRisen faults after) name found → CanBe limit held' (HasRisen faults' after') name found
CanBe-moved limit held held' faults faults' after after' e f g name found can =
    subst (λ (p : Option (List NamedFile) × ℕ × ℕ). CanBe limit p.0 (HasRisen p.1 p.2) name found) (λ i. (e i, f i, g i)) can

pub CanBe-wider : (limit : ℕ) (held : Option (List NamedFile)) (narrow wide : Type 0) → (narrow → wide) → (name : List ℕ) (found : Found) → CanBe limit held narrow name found → CanBe limit held wide name found
CanBe-wider limit held narrow wide widen name (Read bytes) can = can
CanBe-wider limit held narrow wide widen name Missing can = can
CanBe-wider limit held narrow wide widen name TooLong can = can
CanBe-wider limit held narrow wide widen name Failed can = widen can

-- a refusal rests on the same cause where the last file is as absent and as much was taken of it
pub rests-moved : (refused : StepRefusal) (f g : Files) → f.absent ≡ g.absent → f.taken ≡ g.taken → RestsOn refused f → RestsOn refused g
rests-moved (refusal.Break b) f g a t h = tt
rests-moved (refusal.Run fault at) f g a t h = tt
rests-moved (refusal.Missing at) f g a t h = rw (← a) h
rests-moved (refusal.TooLarge at) f g a t h = rw (← t) h
rests-moved (refusal.Unfit broken_rule.NoMemory) f g a t h = h
rests-moved (refusal.Unfit (broken_rule.Width row)) f g a t h = tt
rests-moved (refusal.Unfit (broken_rule.NotInteger row field)) f g a t h = tt
rests-moved (refusal.Unfit (broken_rule.NotText row field)) f g a t h = tt
rests-moved refusal.ReadFault f g a t h = tt
rests-moved refusal.NoMemory f g a t h = tt

-- why the run of a script ends
abbrev pub OfScript : Stop → Type 0
OfScript ToTheEnd = Unit {0}
OfScript Misused = ⊥
OfScript NoFile = ⊥
OfScript LongFile = ⊥
OfScript FailedFile = ⊥
OfScript (NoScript b) = Unit {0}
OfScript (At c statement refused) = Unit {0}

module _ (Can Could : List ℕ → Found → Type 0) (widen : (name : List ℕ) (found : Found) → Can name found → Could name found) where
  pub takes-wider : (a : Asked) (old new : Contents) (result : Result (List ℕ) StepRefusal) → TakesTurn Can a old new result → TakesTurn Could a old new result
  takes-wider (Settled turn) old new result h = h
  takes-wider (Begins name after) old new result (found, can, h) = (found, widen name found can, h)
  takes-wider (Explained after answer) old new result h = h

  refused-wider : (a : Asked) (refused : StepRefusal) → IsRefused Can a refused → IsRefused Could a refused
  refused-wider (Settled turn) refused h = h
  refused-wider (Begins name after) refused (found, can, h) = (found, widen name found can, h)
  refused-wider (Explained after answer) refused h = h

  goes-wider : (c : Contents) (statement : Statement) (turn : Turn) (P Q : Contents → Ran → Type 0) → ((after : Contents) (ran : Ran) → P after ran → Q after ran) → (ran : Ran) →
      GoesOn c statement turn P ran → GoesOn c statement turn Q ran
  goes-wider c statement (Refused cause) P Q on ran h = h
  goes-wider c statement (Accepted text after) P Q on ran (rest, next, is) = (rest, on after rest next, is)

  asks-wider : (c : Contents) (statement : Statement) (a : Asked) (P Q : Contents → Ran → Type 0) → ((after : Contents) (ran : Ran) → P after ran → Q after ran) → (ran : Ran) →
      Asks Can c statement a P ran → Asks Could c statement a Q ran
  asks-wider c statement (Settled turn) P Q on ran h = goes-wider c statement turn P Q on ran h
  asks-wider c statement (Begins name after) P Q on ran (found, rest, can, next, is) =
      (found, rest, widen name found can, goes-wider c statement (after found) P Q on rest next, is)
  asks-wider c statement (Explained after answer) P Q on ran (inl (text, rest, explains, next, is)) = inl (text, rest, explains, on after rest next, is)
  asks-wider c statement (Explained after answer) P Q on ran (inr short) = inr short

  runs-wider : (c : Contents) (statements : List Statement) (ran : Ran) → RunsFrom Can c statements ran → RunsFrom Could c statements ran
  runs-wider c [] ran h = h
  runs-wider c (statement ∷ statements) ran h =
      asks-wider c statement (asked c statement) (λ after rest. RunsFrom Can after statements rest) (λ after rest. RunsFrom Could after statements rest)
      (λ after rest next. runs-wider after statements rest next) ran h

  pub script-wider : (bytes : List ℕ) (ran : Ran) → RunsScript Can bytes ran → RunsScript Could bytes ran
  script-wider bytes ran (inl (script, is, runs)) = inl (script, is, runs-wider (nothing_held 1) script.statements ran runs)
  script-wider bytes ran (inr wrong) = inr wrong

  pub file-wider : (found : Found) (ran : Ran) → RunsFile Can found ran → RunsFile Could found ran
  file-wider (Read bytes) ran h = script-wider bytes ran h
  file-wider Missing ran h = h
  file-wider TooLong ran h = h
  file-wider Failed ran h = h

  pub backs-wider : (stop : Stop) (f g : Files) → OfScript stop → f.absent ≡ g.absent → f.taken ≡ g.taken → Backs Can stop f → Backs Could stop g
  backs-wider ToTheEnd f g of a t h = tt
  backs-wider Misused f g of a t h = tt
  backs-wider NoFile f g of a t h = absurd of
  backs-wider LongFile f g of a t h = absurd of
  backs-wider FailedFile f g of a t h = absurd of
  backs-wider (NoScript b) f g of a t h = tt
  backs-wider (At c statement refused) f g of a t h =
      record { turn = refused-wider (asked c statement) refused h.turn; first = h.first; rests = rests-moved refused f g a t h.rests }

-- ---- runs of statements and of scripts, step by step

-- what the end of the statements has, and the refusal of one, and what a text and a file before it leave, a run of statements has
module _ (Holds : Ran → Type 0) (at_end : Holds (ended ToTheEnd)) (at_refusal : (c : Contents) (statement : Statement) (refused : StepRefusal) → Holds (ended (At c statement refused)))
    (behind_text : (text : List ℕ) (rest : Ran) → Holds rest → Holds (after_text text rest)) (behind_file : (rest : Ran) → Holds rest → Holds (after_files 1 rest))
    (Can : List ℕ → Found → Type 0) where
  goes-holds : (c : Contents) (statement : Statement) (turn : Turn) (Next : Contents → Ran → Type 0) → ((after : Contents) (ran : Ran) → Next after ran → Holds ran) → (ran : Ran) →
      GoesOn c statement turn Next ran → Holds ran
  goes-holds c statement (Refused cause) Next on ran (refused, names, told, is) = subst Holds (sym is) (at_refusal c statement refused)
  goes-holds c statement (Accepted text after) Next on ran (rest, next, is) = subst Holds (sym is) (behind_text text rest (on after rest next))

  asks-holds : (c : Contents) (statement : Statement) (a : Asked) (Next : Contents → Ran → Type 0) → ((after : Contents) (ran : Ran) → Next after ran → Holds ran) → (ran : Ran) →
      Asks Can c statement a Next ran → Holds ran
  asks-holds c statement (Settled turn) Next on ran h = goes-holds c statement turn Next on ran h
  asks-holds c statement (Begins name after) Next on ran (found, rest, can, next, is) =
      subst Holds (sym is) (behind_file rest (goes-holds c statement (after found) Next on rest next))
  asks-holds c statement (Explained after answer) Next on ran (inl (text, rest, explains, next, is)) = subst Holds (sym is) (behind_text text rest (on after rest next))
  asks-holds c statement (Explained after answer) Next on ran (inr is) = subst Holds (sym is) (at_refusal c statement refusal.NoMemory)

  pub runs-holds : (c : Contents) (statements : List Statement) (ran : Ran) → RunsFrom Can c statements ran → Holds ran
  runs-holds c [] ran is = subst Holds (sym is) at_end
  runs-holds c (statement ∷ statements) ran h =
      asks-holds c statement (asked c statement) (λ after rest. RunsFrom Can after statements rest) (λ after rest next. runs-holds after statements rest next) ran h

-- why such a run ends
module _ (Holds : Stop → Type 0) (at_end : Holds ToTheEnd) (at_refusal : (c : Contents) (statement : Statement) (refused : StepRefusal) → Holds (At c statement refused)) where
  pub stops-hold : (Can : List ℕ → Found → Type 0) (c : Contents) (statements : List Statement) (ran : Ran) → RunsFrom Can c statements ran → Holds ran.stop
  stops-hold = runs-holds (λ (ran : Ran). Holds ran.stop) at_end at_refusal (λ text rest h. h) (λ rest h. h)

pub script-of_script : (Can : List ℕ → Found → Type 0) (bytes : List ℕ) (ran : Ran) → RunsScript Can bytes ran → OfScript ran.stop
script-of_script Can bytes ran (inl (script, is, runs)) = stops-hold OfScript tt (λ c statement refused. tt) Can (nothing_held 1) script.statements ran runs
script-of_script Can bytes ran (inr (b, misspelled, is)) = subst (λ (r : Ran). OfScript r.stop) (sym is) tt

-- how many files are begun is told at its end at least
abbrev pub IsCounted : Ran → Type 0
IsCounted ran = 1 ≤ length ran.begun

at_least : (count : ℕ) (counts : List ℕ) → 1 ≤ length (count ∷ counts)
at_least count counts = omega arith

counted-end : (stop : Stop) → IsCounted (ended stop)
counted-end stop = at_least 0 []

counted-text : (text : List ℕ) (rest : Ran) → IsCounted rest → IsCounted (after_text text rest)
counted-text text rest h = at_least 0 rest.begun

counted-file : (rest : Ran) → IsCounted rest → IsCounted (after_files 1 rest)
counted-file rest h = counted rest.begun where
  counted : (counts : List ℕ) → 1 ≤ length (with_more 1 counts)
  counted [] = omega arith
  counted (count ∷ counts) = omega arith

pub script-counted : (Can : List ℕ → Found → Type 0) (bytes : List ℕ) (ran : Ran) → RunsScript Can bytes ran → IsCounted ran
script-counted Can bytes ran (inl (script, is, runs)) =
    runs-holds IsCounted (counted-end ToTheEnd) (λ c statement refused. counted-end (At c statement refused)) counted-text counted-file Can (nothing_held 1) script.statements ran runs
script-counted Can bytes ran (inr (b, misspelled, is)) = subst IsCounted (sym is) (counted-end (NoScript b))
