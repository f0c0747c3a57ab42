-- What a run of statements meets: each statement, over what those before it left.
use Rattle.std.specs.Prelude.{◌≡◌, ◌≢◌, ◌⊎◌, ℕ, suc, List, length, Some, Ok}
use Rattle.std.specs.List.{slice_get}
use Rattle.bag_algebra.specs.declared.query.Answer.{Answer}
use Rattle.perm_catalog.specs.Contents.{Contents}
use Rattle.perm_io.specs.Found.{Found}
use Rattle.sql_tree.specs.declared.statement.Statement.{Statement}
use Rattle.statement_meaning.specs.laws.Asks.{AsksToExplain}
use Rattle.statement_meaning.specs.Answers.{TakesTurn}
use Rattle.statement_meaning.specs.Asking.{asked}
use Rattle.statement_meaning.specs.declared.refusal.StepRefusal.{StepRefusal}
use Rattle.statement_meaning.specs.declared.refusal.StepRefusal.TheVariants as refusal
use Rattle.perm_engine.specs.meaning.Run.{Ran}
use Rattle.perm_engine.specs.meaning.Stops.{ToTheEnd, At, IsRefused}

-- the statement over these contents, the first behind the texts, is refused, and the run ends there
pub record EndsIn (Can : List ℕ → Found → Type 0) (c : Contents) (statements : List Statement) (ran : Ran) : Type 0 where
  pub statement : Statement
  pub refused : StepRefusal
  pub met : slice_get statements (length ran.texts) ≡ Some statement
  pub stop : ran.stop ≡ At c statement refused
  pub turn : IsRefused Can (asked c statement) refused
  pub told : refused ≢ refusal.NoMemory

-- memory is wanting for the text of the statement over these contents, an EXPLAIN and the first behind the texts, and the run breaks off
-- there
pub record BreaksOff (c : Contents) (statements : List Statement) (ran : Ran) : Type 0 where
  pub statement : Statement
  pub answer : Answer
  pub met : slice_get statements (length ran.texts) ≡ Some statement
  pub stop : ran.stop ≡ At c statement refusal.NoMemory
  pub asks : AsksToExplain c statement answer

-- no statement is left behind the texts
pub record EndsBehind (statements : List Statement) (ran : Ran) : Type 0 where
  pub stop : ran.stop ≡ ToTheEnd
  pub all : length ran.texts ≡ length statements

-- a statement is met at this place over the contents c, and accepted with this text
pub record IsAccepted (Can : List ℕ → Found → Type 0) (c after : Contents) (statements : List Statement) (k : ℕ) (text : List ℕ) : Type 0 where
  pub statement : Statement
  pub met : slice_get statements k ≡ Some statement
  pub turn : TakesTurn Can (asked c statement) c after (Ok text)

-- the run of the statements from the contents c
pub record Course (Can : List ℕ → Found → Type 0) (c : Contents) (statements : List Statement) (ran : Ran) : Type 0 where
  -- what the first k statements left: the contents at which the next one is met
  pub left : ℕ → Contents
  -- the first statement is met at c
  pub first : left 0 ≡ c
  -- each text is that of the statement at its place, met at what those before it left
  pub accepted : (k : ℕ) (text : List ℕ) → slice_get ran.texts k ≡ Some text → IsAccepted Can (left k) (left (suc k)) statements k text
  -- behind the texts no statement is left, or the next one is refused, or memory is wanting for the text of that
  pub ends : EndsBehind statements ran ⊎ (EndsIn Can (left (length ran.texts)) statements ran ⊎ BreaksOff (left (length ran.texts)) statements ran)
