-- A statement that begins no file.
use Rattle.perm_catalog.specs.Contents.{Contents}
use Rattle.std.specs.Prelude.{List, ℕ, Result}
use Rattle.statement_meaning.specs.Answers.{IsExplained, IsTurn}
use Rattle.statement_meaning.specs.Asking.{Asked, Settled, Begins, Explained}
use Rattle.statement_meaning.specs.declared.refusal.StepRefusal.{StepRefusal}

-- it takes its turn; one that begins a file does nothing of the kind
abbrev pub IsSettled : Asked → Contents → Contents → Result (List ℕ) StepRefusal → Type 0
IsSettled (Settled turn) old new result = IsTurn turn old new result
IsSettled (Begins name after) old new result = ⊥
IsSettled (Explained c answer) old new result = IsExplained c answer old new result
