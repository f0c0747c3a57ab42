-- Lists whose items carry a flag.
use Rattle.std.specs.Prelude.{Bool, cond, List, [], ◌∷◌}

-- the items whose flag isn't set, in order
abbrev pub unmarked : {X : Type 0} → List Bool → List X → List X
unmarked [] items = []
unmarked (flag ∷ flags) [] = []
unmarked (flag ∷ flags) (item ∷ items) = cond flag (unmarked flags items) (item ∷ unmarked flags items)
