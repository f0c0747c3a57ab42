-- Which run a runner keeps behind a statement.
use Rattle.std.specs.Prelude.{◌≡◌, ℕ, List, Option, Result, IfOk}
use Rattle.perm_catalog.specs.Contents.{Contents}
use Rattle.name_meaning.specs.declared.answer.Resolved.{Resolved}
use Rattle.name_meaning.specs.declared.answer.Resolved.TheVariants as r
use Rattle.statement_meaning.specs.declared.refusal.StepRefusal.{StepRefusal}
use Rattle.statement_steps.specs.Runs.{IsAnswered, IsLost, IsRun}
use Rattle.statement_steps.specs.declared.ran.Ran.{Ran}

-- a query that is answered is answered by the last run, an IMPACT by one that answers which rows vanish, and what CREATE TABLE AS
-- stores is what the last run gave; after a refusal of theirs nothing is said of it, and no other statement changes it
abbrev pub KeepsRun : Contents → Resolved → Result (List ℕ) StepRefusal → Option Ran → Option Ran → Type 0
KeepsRun c (r.CreateTable name columns) result before after = after ≡ before
KeepsRun c (r.CreateTableAs name columns answer places) result before after = IfOk result (λ text. IsRun c answer after)
KeepsRun c (r.CreateView name entry) result before after = after ≡ before
KeepsRun c (r.Copy name kinds file null_field header) result before after = after ≡ before
KeepsRun c (r.Insert name rows) result before after = after ≡ before
KeepsRun c (r.Delete name condition) result before after = after ≡ before
KeepsRun c (r.DropTable name) result before after = after ≡ before
KeepsRun c (r.DropView name) result before after = after ≡ before
KeepsRun c (r.Select answer) result before after = IfOk result (λ text. IsAnswered c answer text after)
KeepsRun c (r.Explain answer) result before after = after ≡ before
KeepsRun c (r.ShowFresh name) result before after = after ≡ before
KeepsRun c (r.Impact name condition answer) result before after = IfOk result (λ text. IsLost c name condition answer text after)
