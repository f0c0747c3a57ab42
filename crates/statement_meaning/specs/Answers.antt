-- What a call answers that carries a statement out.
use Rattle.std.specs.Prelude.{◌≡◌, ℕ, ◌<◌, Bool, true, false, List, Option, Result, Ok, Err, IsTrue}
use Rattle.statement_meaning.specs.explains.Explains.{Explains}
use Rattle.bag_algebra.specs.Outcome.{Faults, has}
use Rattle.bag_algebra.specs.declared.query.Answer.{Answer}
use Rattle.csv_tables.specs.declared.data_error.DataError.TheVariants as broken_rule
use Rattle.perm_catalog.specs.Contents.{Contents}
use Rattle.perm_io.specs.Counts.{HasRisen}
use Rattle.perm_io.specs.Found.{Found, CanBe}
use Rattle.perm_io.specs.Told.{FilesTold}
use Rattle.perm_io.specs.declared.named_file.NamedFile.{NamedFile}
use Rattle.row_values.specs.declared.error.ExecError.{ExecError}
use Rattle.row_values.specs.declared.error.ExecError.TheVariants as exec
use Rattle.statement_meaning.specs.Asking.{Asked, Settled, Begins, Explained}
use Rattle.statement_meaning.specs.Turns.{Turn, Accepted, Refused, Broken, Meets, Missing, TooLarge, Unfit, Failed}
use Rattle.statement_meaning.specs.declared.limits.TheConstants.{FILE_LIMIT}
use Rattle.statement_meaning.specs.declared.refusal.StepRefusal.{StepRefusal}
use Rattle.statement_meaning.specs.declared.refusal.StepRefusal.TheVariants as refusal

-- the refusal names why the turn is refused; of several faults it names one. Want of memory names nothing
abbrev pub Names : Turn → StepRefusal → Type 0
Names turn (refusal.Break b) = turn ≡ Refused (Broken b)
Names turn (refusal.Run fault at) = (faults : Faults) × (turn ≡ Refused (Meets faults at)) × (has faults fault ≡ true)
Names turn (refusal.Missing at) = turn ≡ Refused (Missing at)
Names turn (refusal.TooLarge at) = turn ≡ Refused (TooLarge at)
Names turn (refusal.Unfit rule) = turn ≡ Refused (Unfit rule)
Names turn refusal.ReadFault = turn ≡ Refused Failed
Names turn refusal.NoMemory = Unit {0}

-- the turn's text, and the catalog holds what it says; or a refusal that the turn has, after which it holds what it held
abbrev pub IsTurn : Turn → Contents → Contents → Result (List ℕ) StepRefusal → Type 0
IsTurn turn old new (Ok text) = turn ≡ Accepted text new
IsTurn turn old new (Err refusal) = Names turn refusal × (new ≡ old)

-- the same of a call that leaves the catalog as it is
abbrev pub IsText : Turn → Contents → Result (List ℕ) StepRefusal → Type 0
IsText turn c (Ok text) = turn ≡ Accepted text c
IsText turn c (Err refusal) = Names turn refusal

-- the text explains the answer over these contents, which stay; or memory was wanting, and the catalog holds what it held
abbrev pub IsExplained : Contents → Answer → Contents → Contents → Result (List ℕ) StepRefusal → Type 0
IsExplained c answer old new (Ok text) = Explains c answer text × (new ≡ c)
IsExplained c answer old new (Err refused) = (refused ≡ refusal.NoMemory) × (new ≡ old)

-- the refusal of a statement at an offset, of which an evaluation names a fault
abbrev pub met : ℕ → ExecError → StepRefusal
met at (exec.Fault fault) = refusal.Run fault at
met at exec.NoMemory = refusal.NoMemory

-- the greatest length of a file of rows, in bytes
abbrev pub file_limit : ℕ
file_limit = FILE_LIMIT

-- the statement takes its turn; where it begins a file, by something that can have become of that
abbrev pub TakesTurn : (List ℕ → Found → Type 0) → Asked → Contents → Contents → Result (List ℕ) StepRefusal → Type 0
TakesTurn Can (Settled turn) old new result = IsTurn turn old new result
TakesTurn Can (Begins name after) old new result = (found : Found) × Can name found × IsTurn (after found) old new result
TakesTurn Can (Explained c answer) old new result = IsExplained c answer old new result

abbrev pub begins : Asked → Bool
begins (Settled turn) = false
begins (Begins name after) = true
begins (Explained c answer) = false

-- ---- files before and after a call

-- what they tell before: their bytes, the counts of faults and of begins; and after, with whether the file begun last is
-- absent and how many bytes of it were taken
pub record Files : Type 0 where
  pub held : Option (List NamedFile)
  pub held_after : Option (List NamedFile)
  pub faults : ℕ
  pub faults_after : ℕ
  pub begun : ℕ
  pub begun_after : ℕ
  pub absent : Bool
  pub taken : ℕ

-- the same of what files told before and after
abbrev pub over : FilesTold → FilesTold → Files
over old new = record {
  held = old.held;
  held_after = new.held;
  faults = old.faults;
  faults_after = new.faults;
  begun = old.begun;
  begun_after = new.begun;
  absent = new.absent;
  taken = new.taken;
}

-- what can have become of the file of a name
abbrev pub can_be : Files → List ℕ → Found → Type 0
can_be files name found = CanBe file_limit files.held (HasRisen files.faults files.faults_after) name found

abbrev pub failed : StepRefusal → Bool
failed (refusal.Break b) = false
failed (refusal.Run fault at) = false
failed (refusal.Missing at) = false
failed (refusal.TooLarge at) = false
failed (refusal.Unfit rule) = false
failed refusal.ReadFault = true
failed refusal.NoMemory = false

abbrev pub has_failed : {X : Type 0} → Result X StepRefusal → Bool
has_failed (Ok x) = false
has_failed (Err refusal) = failed refusal

-- what a refusal rests on: a missing file is absent, of one that is too large more was taken than may be, and a record that
-- breaks a rule is no want of memory
abbrev pub RestsOn : StepRefusal → Files → Type 0
RestsOn (refusal.Break b) files = Unit {0}
RestsOn (refusal.Run fault at) files = Unit {0}
RestsOn (refusal.Missing at) files = IsTrue files.absent
RestsOn (refusal.TooLarge at) files = file_limit < files.taken
RestsOn (refusal.Unfit broken_rule.NoMemory) files = ⊥
RestsOn (refusal.Unfit (broken_rule.Width row)) files = Unit {0}
RestsOn (refusal.Unfit (broken_rule.NotInteger row field)) files = Unit {0}
RestsOn (refusal.Unfit (broken_rule.NotText row field)) files = Unit {0}
RestsOn refusal.ReadFault files = Unit {0}
RestsOn refusal.NoMemory files = Unit {0}

abbrev pub IsBacked : {X : Type 0} → Result X StepRefusal → Files → Type 0
IsBacked (Ok x) files = Unit {0}
IsBacked (Err refusal) files = RestsOn refusal files
