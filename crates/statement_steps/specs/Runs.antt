-- Runs of queries: what a runner keeps of one, and by which run a query over a catalog is answered.
use Rattle.std.specs.Prelude.{◌≡◌, ℕ, true, List, [], Option, Some, None, Result, Ok, Err}
use Rattle.perm_values.specs.Rows.{printed_cmp}
use Rattle.perm_values.specs.declared.key.Key.{Key}
use Rattle.bag_algebra.specs.Bags.{Bag, sorted}
use Rattle.bag_algebra.specs.Closed.{is_closed}
use Rattle.bag_algebra.specs.Fits.{TablesFit}
use Rattle.bag_algebra.specs.Kinds.{kinds_of}
use Rattle.bag_algebra.specs.Meaning.{Database, meaning}
use Rattle.bag_algebra.specs.Outcome.{Outcome, Good, mapped}
use Rattle.bag_algebra.specs.Rewriting.{is_plain, SameRows}
use Rattle.bag_algebra.specs.TableRows.{rows_in}
use Rattle.bag_algebra.specs.TablesRead.{ReadsAmong}
use Rattle.bag_algebra.specs.WellFormed.{WellFormed}
use Rattle.bag_algebra.specs.declared.expr.Expr.{Expr}
use Rattle.bag_algebra.specs.declared.query.Answer.{Answer}
use Rattle.bag_algebra.specs.declared.query.Query.{Query}
use Rattle.csv_tables.specs.AnswerText.{answer_bytes}
use Rattle.delete_impact.specs.Impact.{IsImpact}
use Rattle.folded_literals.specs.Simple.{is_simple}
use Rattle.row_values.specs.Answers.{Refuses}
use Rattle.row_values.specs.declared.error.ExecError.{ExecError}
use Rattle.perm_catalog.specs.Contents.{Contents}
use Rattle.statement_meaning.specs.Turns.{identity_of}
use Rattle.statement_steps.specs.declared.ran.Ran.{Ran}

-- the run of a query on a database under no outer rows: its rows in the order of the keys, then of all columns
abbrev pub run_of : Query → List Key → Database → Outcome Ran
run_of query keys db = mapped (λ rows. record { query = query; rows = sorted (printed_cmp keys) rows }) (meaning query db [])

-- it is the last one; after a refusal, which names a fault that it meets, there is none
abbrev pub Keeps : Outcome Ran → Result Unit ExecError → Option Ran → Type 0
Keeps run (Ok done) (Some ran) = run ≡ Good ran
Keeps run (Ok done) None = ⊥
Keeps run (Err error) (Some ran) = ⊥
Keeps run (Err error) None = Refuses run error

-- The run of a simple query without PROVENANCE that reads no outer row, has the kinds of the one that is run for and, on
-- every database that fits that, its rows, as often, or its faults. Both have the run's rows over the catalog's tables, as often.
pub record RunsFor (c : Contents) (answer : Answer) (ran : Ran) : Type 0 where
  pub plain : is_plain ran.query ≡ true
  pub simple : is_simple ran.query ≡ true
  pub closed : is_closed ran.query ≡ true
  pub formed : WellFormed [] ran.query
  pub kinds : kinds_of ran.query ≡ kinds_of answer.query
  pub tables : ReadsAmong ran.query answer.query
  pub means : (db : Database) → TablesFit db answer.query → SameRows (meaning answer.query db []) (meaning ran.query db [])
  pub run : SameRows (meaning ran.query (rows_in c.rows) []) (Good ran.rows)
  pub rows : SameRows (meaning answer.query (rows_in c.rows) []) (Good ran.rows)

-- the text answers a query by a run for it, whose rows it tells
pub record AnswersBy (c : Contents) (answer : Answer) (text : List ℕ) (ran : Ran) : Type 0 where
  pub runs : RunsFor c answer ran
  pub told : text ≡ answer_bytes answer.names ran.rows

-- the last run is one by which the text answers
abbrev pub IsAnswered : Contents → Answer → List ℕ → Option Ran → Type 0
IsAnswered c answer text (Some ran) = AnswersBy c answer text ran
IsAnswered c answer text None = ⊥

-- the last run is one for this query
abbrev pub IsRun : Contents → Answer → Option Ran → Type 0
IsRun c answer (Some ran) = RunsFor c answer ran
IsRun c answer None = ⊥

-- the query of the second answers which rows of the first vanish where the rows of the table that meet the condition are deleted, on
-- every database that fits that, under the same names and by the same keys
pub record IsLostBy (c : Contents) (name : List ℕ) (condition : Option Expr) (answer lost : Answer) : Type 0 where
  pub query : IsImpact answer.query (identity_of c name) condition lost.query
  pub names : lost.names ≡ answer.names
  pub keys : lost.keys ≡ answer.keys

-- the text answers an IMPACT by a run for such a query
pub record LosesBy (c : Contents) (name : List ℕ) (condition : Option Expr) (answer : Answer) (text : List ℕ) (ran : Ran) : Type 0 where
  pub lost : Answer
  pub is : IsLostBy c name condition answer lost
  pub answers : AnswersBy c lost text ran

-- the last run is one by which the text answers an IMPACT
abbrev pub IsLost : Contents → List ℕ → Option Expr → Answer → List ℕ → Option Ran → Type 0
IsLost c name condition answer text (Some ran) = LosesBy c name condition answer text ran
IsLost c name condition answer text None = ⊥

-- the rows of a query over the catalog, in the order of its keys, then of all columns
abbrev pub ordered_rows : Contents → Answer → Outcome Bag
ordered_rows c answer = mapped (sorted (printed_cmp answer.keys)) (meaning answer.query (rows_in c.rows) [])

-- the last run is one for this query, with its rows in their order; or a fault is named that the query meets
abbrev pub Runs : Contents → Answer → Result Unit ExecError → Option Ran → Type 0
Runs c answer (Ok done) (Some ran) = RunsFor c answer ran × (ordered_rows c answer ≡ Good ran.rows)
Runs c answer (Ok done) None = ⊥
Runs c answer (Err error) last = Refuses (meaning answer.query (rows_in c.rows) []) error
