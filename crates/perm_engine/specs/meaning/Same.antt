-- Runs that differ at most in which fault is named, and by which texts EXPLAIN statements are answered.
use Rattle.std.specs.Prelude.{◌≡◌, ◌≢◌, ℕ, true, List, [], ◌∷◌}
use Rattle.statement_meaning.specs.explains.Explains.{Explains}
use Rattle.bag_algebra.specs.Outcome.{Faults, has}
use Rattle.bag_algebra.specs.declared.query.Answer.{Answer}
use Rattle.null_logic.specs.declared.run_fault.RunFault.{RunFault}
use Rattle.perm_catalog.specs.Contents.{Contents}
use Rattle.sql_tree.specs.declared.statement.Statement.{Statement}
use Rattle.perm_io.specs.Found.{Found}
use Rattle.statement_meaning.specs.Asking.{Asked, Settled, Begins, Explained, asked}
use Rattle.statement_meaning.specs.Turns.{Refused, Meets}
use Rattle.statement_meaning.specs.declared.refusal.StepRefusal.TheVariants as refusal
use Rattle.perm_engine.specs.meaning.Run.{Ran}
use Rattle.perm_engine.specs.meaning.Stops.{Stop, At, status_of}
use Rattle.perm_engine.specs.declared.meaning.status.Status.TheVariants as status

-- a statement that asks for this meets these faults, by something that became of its file where it begins one
abbrev pub MeetsFaults : Asked → Faults → ℕ → Type 0
MeetsFaults (Settled turn) met at = turn ≡ Refused (Meets met at)
MeetsFaults (Begins name after) met at = (found : Found) × (after found ≡ Refused (Meets met at))
MeetsFaults (Explained after answer) met at = ⊥

-- they end alike, or at one statement, over one content of the catalog, by two faults of a set that it meets
pub data SameStop : Stop → Stop → Type 0 where
  alike : {stop : Stop} → SameStop stop stop
  by_faults : {c : Contents} {statement : Statement} {at : ℕ} {f g : RunFault} → (met : Faults) → MeetsFaults (asked c statement) met at → has met f ≡ true → has met g ≡ true
      → SameStop (At c statement (refusal.Run f at)) (At c statement (refusal.Run g at))

-- one text, or two of a statement that is an EXPLAIN, which explain one answer over one content of the catalog
pub data SameText (text other : List ℕ) : Type 0 where
  one : text ≡ other → SameText text other
  explained : (c after : Contents) (statement : Statement) (answer : Answer) → asked c statement ≡ Explained after answer → Explains after answer text
      → Explains after answer other → SameText text other

-- as many texts, the same each in its place
abbrev pub SameTexts : List (List ℕ) → List (List ℕ) → Type 0
SameTexts [] [] = Unit {0}
SameTexts [] (other ∷ others) = ⊥
SameTexts (text ∷ texts) [] = ⊥
SameTexts (text ∷ texts) (other ∷ others) = SameText text other × SameTexts texts others

-- memory isn't wanting for the text of an EXPLAIN, at which a run breaks off
abbrev pub IsUnbroken : Ran → Type 0
IsUnbroken ran = status_of ran.stop ≢ status.NoMemory

pub record SameRun (a b : Ran) : Type 0 where
  pub texts : SameTexts a.texts b.texts
  pub stop : SameStop a.stop b.stop
  pub begun : a.begun ≡ b.begun
