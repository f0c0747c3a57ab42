-- Why a run ends: the line that says so, the status, and what the cause rests on.
use Rattle.std.specs.Prelude.{◌≡◌, ◌≢◌, ℕ, ◌<◌, List, [], Err, codes, IsTrue}
use Rattle.csv_tables.specs.Lines.{data_line, error_line}
use Rattle.name_seen_parts.specs.Seen.{first_or}
use Rattle.name_meaning.specs.Statements.{breaks}
use Rattle.name_meaning.specs.declared.answer.Break.{Break}
use Rattle.null_logic.specs.declared.run_fault.RunFault.{RunFault}
use Rattle.null_logic.specs.declared.run_fault.RunFault.TheVariants.{DivideByZero, OutOfRange, SeveralRows}
use Rattle.perm_catalog.specs.Contents.{Contents}
use Rattle.perm_io.specs.Counts.{HasRisen, next_count}
use Rattle.perm_io.specs.Found.{Found}
use Rattle.sql_tree.specs.declared.statement.Statement.{Statement}
use Rattle.statement_meaning.specs.Answers.{Files, Names, RestsOn}
use Rattle.statement_meaning.specs.Asking.{Asked, Settled, Begins, Explained, asked}
use Rattle.statement_meaning.specs.declared.refusal.StepRefusal.{StepRefusal}
use Rattle.statement_meaning.specs.declared.refusal.StepRefusal.TheVariants as refusal
use Rattle.perm_engine.specs.declared.meaning.script.TheConstants.{SCRIPT_LIMIT}
use Rattle.perm_engine.specs.declared.meaning.status.Status.{Status}
use Rattle.perm_engine.specs.declared.meaning.status.Status.TheVariants as status
use Rattle.name_meaning.specs.Codes.{code_of}
use Rattle.name_meaning.specs.declared.rule.Rule.TheVariants.{NumbersSpent}

-- the greatest length of a script, in bytes
abbrev pub script_limit : ℕ
script_limit = SCRIPT_LIMIT

-- no statement is left; the words are refused; there is no script of its name, or it is too long, or a call on it failed; its
-- bytes are no script; or this statement is refused, over what the catalog held then
pub data Stop : Type 0 where
  ToTheEnd : Stop
  Misused : Stop
  NoFile : Stop
  LongFile : Stop
  FailedFile : Stop
  NoScript : Break → Stop
  At : Contents → Statement → StepRefusal → Stop

abbrev pub fault_code : RunFault → ℕ
fault_code DivideByZero = 30
fault_code OutOfRange = 31
fault_code SeveralRows = 32

-- the line of a refusal; want of memory has none
abbrev pub refusal_line : StepRefusal → List ℕ
refusal_line (refusal.Break b) = error_line (code_of b.rule) b.at
refusal_line (refusal.Run fault at) = error_line (fault_code fault) at
refusal_line (refusal.Missing at) = error_line 40 at
refusal_line (refusal.TooLarge at) = error_line 41 at
refusal_line (refusal.Unfit rule) = data_line rule
refusal_line refusal.ReadFault = codes "error E50\n"
refusal_line refusal.NoMemory = []

abbrev pub refusal_status : StepRefusal → Status
refusal_status (refusal.Break b) = status.Refused
refusal_status (refusal.Run fault at) = status.RunFault
refusal_status (refusal.Missing at) = status.BadData
refusal_status (refusal.TooLarge at) = status.BadData
refusal_status (refusal.Unfit rule) = status.BadData
refusal_status refusal.ReadFault = status.ReadFault
refusal_status refusal.NoMemory = status.NoMemory

abbrev pub line_of : Stop → List ℕ
line_of ToTheEnd = []
line_of Misused = codes "usage: perm (SCRIPT | --generate N)\n"
line_of NoFile = codes "error E40 script\n"
line_of LongFile = codes "error E41 script\n"
line_of FailedFile = codes "error E50\n"
line_of (NoScript b) = error_line (code_of b.rule) b.at
line_of (At c statement refused) = refusal_line refused

abbrev pub status_of : Stop → Status
status_of ToTheEnd = status.Done
status_of Misused = status.Usage
status_of NoFile = status.BadData
status_of LongFile = status.BadData
status_of FailedFile = status.ReadFault
status_of (NoScript b) = status.Syntax
status_of (At c statement refused) = refusal_status refused

-- ---- what the end rests on, whether or not the files and the output tell their bytes

-- the statement is refused like this, where its file can be what it was found to be; of the faults that it meets one is named. For the
-- text of an EXPLAIN no more than memory can be wanting
abbrev pub IsRefused : (List ℕ → Found → Type 0) → Asked → StepRefusal → Type 0
IsRefused Can (Settled turn) refused = Names turn refused
IsRefused Can (Begins name after) refused = (found : Found) × Can name found × Names (after found) refused
IsRefused Can (Explained after answer) refused = ⊥

-- a break is the first of the statement, and no want of a number to draw; want of memory ends no run
abbrev pub IsFirst : Contents → Statement → StepRefusal → Type 0
IsFirst c statement (refusal.Break b) = (first_or (breaks c statement) (tt {0}) ≡ Err b) × (b.rule ≢ NumbersSpent)
IsFirst c statement (refusal.Run fault at) = Unit {0}
IsFirst c statement (refusal.Missing at) = Unit {0}
IsFirst c statement (refusal.TooLarge at) = Unit {0}
IsFirst c statement (refusal.Unfit rule) = Unit {0}
IsFirst c statement refusal.ReadFault = Unit {0}
IsFirst c statement refusal.NoMemory = ⊥

pub record IsStopped (Can : List ℕ → Found → Type 0) (c : Contents) (statement : Statement) (refused : StepRefusal) (files : Files) : Type 0 where
  pub turn : IsRefused Can (asked c statement) refused
  pub first : IsFirst c statement refused
  pub rests : RestsOn refused files

-- a script that isn't there is absent, and of one that is too long more was taken than may be; a statement's refusal is its own
abbrev pub Backs : (List ℕ → Found → Type 0) → Stop → Files → Type 0
Backs Can ToTheEnd files = Unit {0}
Backs Can Misused files = Unit {0}
Backs Can NoFile files = IsTrue files.absent × (files.begun_after ≡ next_count files.begun)
Backs Can LongFile files = (script_limit < files.taken) × (files.begun_after ≡ next_count files.begun)
Backs Can FailedFile files = HasRisen files.faults files.faults_after
Backs Can (NoScript b) files = Unit {0}
Backs Can (At c statement refused) files = IsStopped Can c statement refused files
