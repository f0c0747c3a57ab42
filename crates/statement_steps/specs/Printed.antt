-- The text of the rows of a run, where there was one.
use Rattle.std.specs.Prelude.{◌≡◌, ℕ, List, Option, Some, None, Result, Ok, Err}
use Rattle.csv_tables.specs.AnswerText.{answer_bytes}
use Rattle.row_values.specs.declared.error.ExecError.{ExecError}
use Rattle.statement_meaning.specs.Answers.{met}
use Rattle.statement_meaning.specs.declared.refusal.StepRefusal.{StepRefusal}
use Rattle.statement_meaning.specs.declared.refusal.StepRefusal.TheVariants.{NoMemory}
use Rattle.statement_steps.specs.declared.ran.Ran.{Ran}

-- the text of the last run's rows under these names, or why there is none; memory may be wanting for the text
abbrev pub IsPrinted : ℕ → List (List ℕ) → Result Unit ExecError → Option Ran → Result (List ℕ) StepRefusal → Type 0
IsPrinted at names (Ok done) (Some ran) (Ok text) = text ≡ answer_bytes names ran.rows
IsPrinted at names (Ok done) (Some ran) (Err refusal) = refusal ≡ NoMemory
IsPrinted at names (Ok done) None result = ⊥
IsPrinted at names (Err error) last (Ok text) = ⊥
IsPrinted at names (Err error) last (Err refusal) = refusal ≡ met at error
