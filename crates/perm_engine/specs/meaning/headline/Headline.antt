-- The headline: what a run over a command line and files has written, and why it ended.
use Rattle.std.specs.Prelude.{true, ◌≡◌, ◌≢◌, ◌⊎◌, ℕ, suc, ◌≤◌, ◌<◌, ◌-◌, ◌^◌, Bool, List, [], ◌∷◌, length, Option, Some, Ok, Err}
use Rattle.std.specs.List.{slice_get}
use Rattle.bag_algebra.specs.Meaning.{meaning}
use Rattle.bag_algebra.specs.Outcome.{Faults, Bad, has}
use Rattle.bag_algebra.specs.TableRows.{rows_in}
use Rattle.bag_algebra.specs.declared.expr.Expr.{Expr}
use Rattle.bag_algebra.specs.declared.query.Answer.{Answer}
use Rattle.name_meaning.specs.Statements.{breaks, resolved}
use Rattle.name_meaning.specs.declared.answer.Break.{Break}
use Rattle.null_logic.specs.declared.run_fault.RunFault.{RunFault}
use Rattle.perm_catalog.specs.Changes.{nothing_held}
use Rattle.perm_catalog.specs.Contents.{Contents}
use Rattle.perm_catalog.specs.Sound.{IsSound}
use Rattle.perm_io.specs.Counts.{HasRisen}
use Rattle.perm_io.specs.Found.{Found, Read, Missing, TooLong, Failed, CanBe}
use Rattle.perm_io.specs.declared.named_file.NamedFile.{NamedFile}
use Rattle.sql_tree.specs.Regular.{RegularStatement}
use Rattle.sql_tree.specs.declared.expression.ExprTree.{ExprTree}
use Rattle.sql_tree.specs.declared.name.Name.{Name}
use Rattle.sql_tree.specs.declared.query.QueryTree.{QueryTree}
use Rattle.sql_tree.specs.declared.statement.ColumnDef.{ColumnDef}
use Rattle.sql_tree.specs.declared.statement.Script.{Script}
use Rattle.sql_tree.specs.declared.statement.Statement.{Statement}
use Rattle.sql_tree.specs.declared.statement.StatementBody.TheVariants as st
use Rattle.sql_tree.specs.declared.statement.ValuesRow.{ValuesRow}
use Rattle.statement_meaning.specs.laws.Asks.{AsksFor, AsksToExplain, HasWord}
use Rattle.statement_meaning.specs.laws.Lost.{AsksImpact, MeetsLost}
use Rattle.statement_meaning.specs.Answers.{Files, TakesTurn, can_be}
use Rattle.statement_meaning.specs.Asking.{asked, asks}
use Rattle.statement_meaning.specs.Turns.{identity_of}
use Rattle.statement_meaning.specs.declared.refusal.StepRefusal.{StepRefusal}
use Rattle.statement_meaning.specs.declared.refusal.StepRefusal.TheVariants as refusal
use Rattle.perm_engine.specs.meaning.words.Requests.{request_of}
use Rattle.perm_engine.specs.declared.meaning.words.wanted.Wanted.TheVariants.{Script as Named, Generated, Misworded}
use Rattle.perm_engine.specs.meaning.generation.Generated.{generated as generated_text}
use Rattle.perm_engine.specs.meaning.Ends.{Caused, RunsOver}
use Rattle.perm_engine.specs.meaning.Run.{Ran, IsRefusedWhole}
use Rattle.perm_engine.specs.meaning.Scripts.{IsScriptOf, IsMisspelled}
use Rattle.perm_engine.specs.meaning.Stops.{Misused, NoFile, LongFile, FailedFile, NoScript, At, IsFirst, IsRefused}
use Rattle.perm_engine.specs.declared.meaning.status.Status.{Status}
use Rattle.perm_engine.specs.meaning.headline.Answers.{AnswersBeside, AnswersLost, AnswersRows, ExplainsQuery, StoresAnswer}
use Rattle.perm_engine.specs.meaning.headline.Changes.{CopiesRows, CreatesTable, CreatesView, DeletesRows, DropsTable, DropsView, InsertsRows}
use Rattle.perm_engine.specs.meaning.headline.Course.{Course}
use Rattle.perm_engine.specs.meaning.headline.Freshness.{ShowsFresh}
use Rattle.perm_engine.specs.meaning.headline.Words.{LacksWord}

-- a statement that is accepted over the contents c, with this text, and leaves the contents `after`
pub record Accepts (Can : List ℕ → Found → Type 0) (c after : Contents) (statement : Statement) (text : List ℕ) : Type 0 where
  -- it breaks no rule, limits included
  pub whole : breaks c statement ≡ []
  -- its text, and what it leaves, are what its definition says
  pub does : TakesTurn Can (asks c statement.at (resolved c statement)) c after (Ok text)
  -- a query without the word PROVENANCE answers its rows, as often as it has them, in the order asked for
  pub plain : (tree : QueryTree) → statement.body ≡ st.Select tree → LacksWord tree.body → AnswersRows c statement text
  -- a query with the word answers, once each, every row of the same query without it beside every one of its witness lists,
  -- and nothing else
  pub provenance : (tree : QueryTree) (at : ℕ) → statement.body ≡ st.Select tree → HasWord at tree.body → AnswersBeside c statement tree text
  -- a query changes nothing
  pub untouched : (tree : QueryTree) → statement.body ≡ st.Select tree → after ≡ c
  -- CREATE TABLE AS stores just what its query answers
  pub stored : (table : Name) (tree : QueryTree) → statement.body ≡ st.CreateTableAs table tree → StoresAnswer c after statement table tree text
  -- an IMPACT answers, once each, the rows of its query that would vanish if the rows of its table that meet its condition were
  -- deleted, in the order asked for
  pub lost : (table : Name) (condition : Option ExprTree) (tree : QueryTree) → statement.body ≡ st.Impact table condition tree → AnswersLost c statement table tree text
  -- and deletes nothing
  pub undeleted : (table : Name) (condition : Option ExprTree) (tree : QueryTree) → statement.body ≡ st.Impact table condition tree → after ≡ c
  -- EXPLAIN REWRITE answers a query without PROVENANCE that means what its query means
  pub explained : (tree : QueryTree) → statement.body ≡ st.Explain tree → ExplainsQuery c statement tree text
  -- and changes nothing
  pub unchanged : (tree : QueryTree) → statement.body ≡ st.Explain tree → after ≡ c
  -- CREATE TABLE makes a table that has no row; other tables are as before, as with all that follows
  pub created : (table : Name) (columns : List ColumnDef) → statement.body ≡ st.CreateTable table columns → CreatesTable c after table columns text
  -- INSERT puts the rows of its values behind those of its table, and counts them
  pub inserted : (table : Name) (values : List ValuesRow) → statement.body ≡ st.Insert table values → InsertsRows c after table values text
  -- COPY puts the rows that its file's records spell behind those of its table, and counts them
  pub copied : (table : Name) (file : List ℕ) (header : Bool) (null_field : List ℕ) → statement.body ≡ st.Copy table file header null_field
      → CopiesRows Can c after table file header null_field text
  -- DELETE takes away, and counts, the rows of its table for which its condition is true; all others stay
  pub deleted : (table : Name) (condition : Option ExprTree) → statement.body ≡ st.Delete table condition → DeletesRows c after table condition text
  -- DROP TABLE takes its table away
  pub table_dropped : (table : Name) → statement.body ≡ st.DropTable table → DropsTable c after table text
  -- DROP VIEW takes its view away
  pub view_dropped : (view : Name) → statement.body ≡ st.DropView view → DropsView c after view text
  -- CREATE VIEW makes a view of what its query asks for
  pub view_created : (view : Name) (tree : QueryTree) → statement.body ≡ st.CreateView view tree → CreatesView c after statement view tree text
  -- SHOW FRESH answers `fresh` only where the rows of its table are those of the query that it stores, as often, and it may be read in the
  -- place of that query
  pub freshness : (table : Name) → statement.body ≡ st.ShowFresh table → ShowsFresh c table text
  -- and changes nothing
  pub kept : (table : Name) → statement.body ≡ st.ShowFresh table → after ≡ c

-- a statement that is refused like this over the contents c
pub record RefusesFirst (Can : List ℕ → Found → Type 0) (c : Contents) (statement : Statement) (refused : StepRefusal) : Type 0 where
  -- the first rule that it breaks is the cause, where it breaks any
  pub first : (b : Break) (more : List Break) → breaks c statement ≡ b ∷ more → refused ≡ refusal.Break b
  -- otherwise it is what it meets while it is carried out
  pub met : breaks c statement ≡ [] → IsRefused Can (asks c statement.at (resolved c statement)) refused
  -- a query that breaks no rule is refused with a fault that it meets on the catalog's tables
  pub fault : (answer : Answer) → AsksFor c statement answer
      → (faults : Faults) × (fault : RunFault) × (meaning answer.query (rows_in c.rows) [] ≡ Bad faults) × (has faults fault ≡ true)
      × (refused ≡ refusal.Run fault statement.at)
  -- an IMPACT that breaks no rule is refused with a fault that its query meets or, where the query reads the table, its condition on
  -- a row of the table
  pub lost_fault : (name : List ℕ) (condition : Option Expr) (answer : Answer) → AsksImpact c statement name condition answer
      → (fault : RunFault) × MeetsLost answer.query (identity_of c name) condition (rows_in c.rows) fault × (refused ≡ refusal.Run fault statement.at)
  -- the catalog holds what it held
  pub unchanged : (new : Contents) → TakesTurn Can (asked c statement) c new (Err refused) → new ≡ c

-- the run of a script's statements, in their order
pub record HeadlineOfStatements (Can : List ℕ → Found → Type 0) (statements : List Statement) (ran : Ran) : Type 0 where
  -- each statement is met over the contents that those before it left, the first one over nothing; the texts are theirs, and
  -- the last one met is the one that is refused, if any is
  pub course : Course Can (nothing_held 1) statements ran
  -- the contents at which statements are met are sound
  pub sound : (k : ℕ) → k ≤ length ran.texts → IsSound (course.left k)
  -- every statement is regular
  pub regular : (k : ℕ) (statement : Statement) → slice_get statements k ≡ Some statement → RegularStatement statement
  -- a statement that has a text is accepted
  pub accepts : (k : ℕ) (text : List ℕ) (statement : Statement) → slice_get ran.texts k ≡ Some text → slice_get statements k ≡ Some statement
      → Accepts Can (course.left k) (course.left (suc k)) statement text
  -- a statement by which the run ends is refused, where memory sufficed for it
  pub refuses : (c : Contents) (statement : Statement) (refused : StepRefusal) → refused ≢ refusal.NoMemory → ran.stop ≡ At c statement refused
      → (c ≡ course.left (length ran.texts)) × (slice_get statements (length ran.texts) ≡ Some statement) × RefusesFirst Can c statement refused
  -- otherwise it is an EXPLAIN that breaks no rule, for whose text memory was wanting
  pub breaks_off : (c : Contents) (statement : Statement) → ran.stop ≡ At c statement refusal.NoMemory
      → (c ≡ course.left (length ran.texts)) × (slice_get statements (length ran.texts) ≡ Some statement) × ((answer : Answer) × AsksToExplain c statement answer)
  -- where it is a break, it is the first of that statement, and no want of a number to draw, of which there are 2^64 - 2
  pub numbered : length statements < 2 ^ 64 - 2 → (c : Contents) (statement : Statement) (refused : StepRefusal) → refused ≢ refusal.NoMemory
      → ran.stop ≡ At c statement refused → IsFirst c statement refused

-- the greatest length of a script, and of a file of rows, in bytes: 2^20 and 2^26
abbrev pub most_script_bytes : ℕ
most_script_bytes = 1048576

abbrev pub most_file_bytes : ℕ
most_file_bytes = 67108864

-- the run of the script that these bytes are
pub record HeadlineOfScript (Can : List ℕ → Found → Type 0) (bytes : List ℕ) (ran : Ran) : Type 0 where
  -- bytes are a script, or misspelled
  pub spelling : ((script : Script) × IsScriptOf bytes script) ⊎ ((b : Break) × IsMisspelled bytes b)
  -- misspelled ones are refused as a whole
  pub misspelled : (b : Break) → IsMisspelled bytes b → IsRefusedWhole (NoScript b) ran
  -- the statements of a script are run
  pub runs : (script : Script) → IsScriptOf bytes script → HeadlineOfStatements Can script.statements ran

-- the run of the script in the file of this name
pub record HeadlineOfFile (held : Option (List NamedFile)) (fault : Type 0) (name : List ℕ) (ran : Ran) : Type 0 where
  -- what became of the file
  pub found : Found
  pub can : CanBe most_script_bytes held fault name found
  -- a script that isn't there, is too long, or failed is refused as a whole
  pub missing : found ≡ Missing → IsRefusedWhole NoFile ran
  pub long : found ≡ TooLong → IsRefusedWhole LongFile ran
  pub failed : found ≡ Failed → IsRefusedWhole FailedFile ran
  -- one that is read whole is run
  pub read : (bytes : List ℕ) → found ≡ Read bytes → HeadlineOfScript (CanBe most_file_bytes held fault) bytes ran
  -- such a script has so few statements that none is refused for want of a number to draw
  pub numbered : (bytes : List ℕ) (script : Script) → found ≡ Read bytes → IsScriptOf bytes script → length script.statements < 2 ^ 64 - 2

-- a run over these words and files
pub record Headline (words : List (List ℕ)) (held : Option (List NamedFile)) (fault : Type 0) (ran : Ran) : Type 0 where
  -- words that ask for nothing are refused
  pub misused : request_of words ≡ Misworded → IsRefusedWhole Misused ran
  -- words that name a script: that in its file is run
  pub script : (name : List ℕ) → request_of words ≡ Named name → HeadlineOfFile held fault name ran
  -- words that name a number: the script that is made from it is run
  pub generated : (rows : ℕ) → request_of words ≡ Generated rows → HeadlineOfScript (CanBe most_file_bytes held fault) (generated_text rows) ran

-- the same over files that are told, and may fail where their count of faults rose
abbrev pub HeadlineOver : List (List ℕ) → Files → Ran → Type 0
HeadlineOver words files = Headline words files.held (HasRisen files.faults files.faults_after)

-- a run that these words stand for over these files: the headline tells it, and this is why it ends with this status
pub record IsTold (words : List (List ℕ)) (files : Files) (s : Status) (ran : Ran) : Type 0 where
  pub run : RunsOver words files ran
  pub told : HeadlineOver words files ran
  pub cause : Caused (request_of words) (can_be files) ran files s
