-- A statement that is accepted breaks no rule, and leaves a sound catalog.
use Rattle.std.proofs.Common.{◌≡◌, ◌≤◌, ℕ, zero, suc, List, [], ◌∷◌, length, get_or, Some, Ok, Contains, refl, sym, subst, arith}
use Rattle.std.proofs.lemmas.Option.{get_or_from_slice_get, slice_get-get_or, slice_get_within}
use Rattle.std.specs.List.{slice_get}
use Rattle.perm_catalog.specs.Contents.{Contents}
use Rattle.perm_catalog.specs.Sound.{IsSound}
use Rattle.perm_io.specs.Found.{Found}
use Rattle.sql_tree.specs.Regular.{Each, RegularStatement}
use Rattle.sql_tree.specs.declared.statement.Statement.{Statement}
use Rattle.name_meaning.specs.Statements.{breaks, resolved}
use Rattle.name_meaning.specs.declared.answer.Break.{Break}
use Rattle.name_meaning.specs.declared.answer.Resolved.{Resolved}
use Rattle.statement_meaning.specs.Answers.{TakesTurn}
use Rattle.statement_meaning.specs.Asking.{Asked, asked, asks, unless_broken}
use Rattle.statement_meaning.specs.Ready.{IsReady}
use Rattle.statement_meaning.proofs.Adds.{whole-adds}
use Rattle.statement_meaning.proofs.Ready.{whole-ready}
use Rattle.statement_meaning.specs.laws.Sounder.{AddsSoundly, KeepsSound}
use Rattle.perm_engine.proofs.meaning.Stepping.{taken-sound}
use Rattle.perm_engine.specs.meaning.Run.{Ran}
use Rattle.perm_engine.specs.meaning.headline.Course.{Course}

-- ---- what is accepted breaks nothing

unbroken-taken : (Can : List ℕ → Found → Type 0) (bs : List Break) (a : Asked) (c after : Contents) (text : List ℕ)
    → TakesTurn Can (unless_broken bs a) c after (Ok text) → (bs ≡ []) × TakesTurn Can a c after (Ok text)
unbroken-taken Can [] a c after text h = (refl, h)
unbroken-taken Can (first ∷ more) a c after text h = absurd (cc h)

-- the statement breaks no rule, and what it asks for has become of it
pub record IsDone (Can : List ℕ → Found → Type 0) (c after : Contents) (statement : Statement) (text : List ℕ) : Type 0 where
  pub whole : breaks c statement ≡ []
  pub turn : TakesTurn Can (asks c statement.at (resolved c statement)) c after (Ok text)

pub done-accepted : (Can : List ℕ → Found → Type 0) (c after : Contents) (statement : Statement) (text : List ℕ)
    → TakesTurn Can (asked c statement) c after (Ok text) → IsDone Can c after statement text
done-accepted Can c after statement text h =
    let taken = unbroken-taken Can (breaks c statement) (asks c statement.at (resolved c statement)) c after text h in
    record { whole = taken.0; turn = taken.1 }

-- ---- what it leaves is sound

abbrev pub Keeps : Type 0
Keeps = (c : Contents) → IsSound c → (at : ℕ) (statement : Resolved) → IsReady c statement → AddsSoundly c statement → KeepsSound (asks c at statement)

pub accepted-sound : Keeps → (Can : List ℕ → Found → Type 0) (c after : Contents) (statement : Statement) (text : List ℕ)
    → IsSound c → RegularStatement statement → TakesTurn Can (asked c statement) c after (Ok text) → IsSound after
accepted-sound keeps Can c after statement text sound regular h =
    let done = done-accepted Can c after statement text h in
    taken-sound Can (asks c statement.at (resolved c statement)) c after (Ok text) sound
    (keeps c sound statement.at (resolved c statement) (whole-ready c statement sound regular done.whole) (whole-adds c statement sound regular done.whole))
    done.turn

-- ---- along a run

pub contains-at : {X : Type 0} (xs : List X) (k : ℕ) (x : X) → slice_get xs k ≡ Some x → Contains xs x
contains-at xs k x e = (k, slice_get_within xs k x e, get_or_from_slice_get xs k x x e)

module _ (keeps : Keeps) (Can : List ℕ → Found → Type 0) (c : Contents) (statements : List Statement) (ran : Ran) (sound : IsSound c)
    (regular : Each RegularStatement statements) (met : Course Can c statements ran) where
  sound-next : (k : ℕ) (text : List ℕ) → slice_get ran.texts k ≡ Some text → IsSound (met.left k) → IsSound (met.left (suc k))
  sound-next k text e before =
      let a = met.accepted k text e in
      accepted-sound keeps Can (met.left k) (met.left (suc k)) a.statement text before (regular a.statement (contains-at statements k a.statement a.met)) a.turn

  pub sound-at : (k : ℕ) → k ≤ length ran.texts → IsSound (met.left k)
  sound-at zero within = subst IsSound (sym met.first) sound
  sound-at (suc k) within = sound-next k (get_or ran.texts k []) (slice_get-get_or ran.texts k [] (omega (arith, within))) (sound-at k (omega (arith, within)))
