-- Outer kinds and outer rows that have more at their ends.
use Rattle.std.specs.Prelude.{List, [], ◌∷◌, ◌++◌}

-- more items at the end of each list, and more lists at the end
pub data Longer {X : Type 0} : List (List X) → List (List X) → Type 0 where
  more_lists : (further : List (List X)) → Longer [] further
  more_items : {lists longer : List (List X)} (items more : List X) → Longer lists longer → Longer (items ∷ lists) ((items ++ more) ∷ longer)
