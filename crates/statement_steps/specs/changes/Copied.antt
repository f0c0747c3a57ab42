-- What a COPY makes of its file before the rows are added.
use Rattle.std.specs.Prelude.{◌≡◌, ℕ, Bool, List, Result, Ok, Err, codes}
use Rattle.perm_values.specs.declared.kind.Kind.{Kind}
use Rattle.bag_algebra.specs.Bags.{Bag}
use Rattle.perm_catalog.specs.Contents.{Contents}
use Rattle.perm_io.specs.Found.{Found}
use Rattle.statement_meaning.specs.Answers.{Names}
use Rattle.statement_meaning.specs.Turns.{add_rows, copy}
use Rattle.statement_meaning.specs.declared.refusal.StepRefusal.{StepRefusal}

-- whatever the catalog holds, the file that was found gives the statement these rows to add, or this refusal
abbrev pub GivesRows : ℕ → List Kind → List ℕ → Bool → Result Bag StepRefusal → Found → Type 0
GivesRows at kinds null_field header (Ok rows) found =
    (c : Contents) (name : List ℕ) → copy c at name kinds null_field header found ≡ add_rows (codes "COPY ") c at name rows
GivesRows at kinds null_field header (Err refusal) found =
    (c : Contents) (name : List ℕ) → Names (copy c at name kinds null_field header found) refusal

-- the file was found to be something that gives this
abbrev pub IsLoaded : (Found → Type 0) → ℕ → List Kind → List ℕ → Bool → Result Bag StepRefusal → Type 0
IsLoaded Can at kinds null_field header answer = (found : Found) × Can found × GivesRows at kinds null_field header answer found
