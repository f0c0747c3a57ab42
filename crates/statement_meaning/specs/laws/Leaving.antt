-- What a statement leaves where it is accepted.
use Rattle.std.specs.Prelude.{⊤}
use Rattle.perm_catalog.specs.Contents.{Contents}
use Rattle.perm_io.specs.Found.{Found}
use Rattle.statement_meaning.specs.Asking.{Asked, Settled, Begins, Explained}
use Rattle.statement_meaning.specs.Turns.{Turn, Accepted, Refused}

-- where the turn is accepted, this holds of what the catalog holds then
abbrev pub TurnLeaves : (Contents → Type 0) → Turn → Type 0
TurnLeaves P (Accepted text c) = P c
TurnLeaves P (Refused cause) = ⊤

-- whatever became of the file that it begins
abbrev pub Leaves : (Contents → Type 0) → Asked → Type 0
Leaves P (Settled turn) = TurnLeaves P turn
Leaves P (Begins name after) = (found : Found) → TurnLeaves P (after found)
Leaves P (Explained c answer) = P c
