-- What an evaluation answers: a good value, or the set of faults that it meets.
use Rattle.std.specs.Prelude.{Bool, true, false, ◌||◌, List, [], ◌∷◌, ◌++◌, Result, Ok, Err}
use Rattle.null_logic.specs.declared.run_fault.RunFault.{RunFault}
use Rattle.null_logic.specs.declared.run_fault.RunFault.TheVariants.{DivideByZero, OutOfRange, SeveralRows}

-- a set of kinds of faults
pub record Faults : Type 0 where
  pub divides : Bool
  pub range : Bool
  pub several : Bool

abbrev pub union : Faults → Faults → Faults
union f g = record { divides = f.divides || g.divides; range = f.range || g.range; several = f.several || g.several }

-- the set of one kind
abbrev pub only : RunFault → Faults
only DivideByZero = record { divides = true; range = false; several = false }
only OutOfRange = record { divides = false; range = true; several = false }
only SeveralRows = record { divides = false; range = false; several = true }

-- whether the kind is in the set
abbrev pub has : Faults → RunFault → Bool
has f DivideByZero = f.divides
has f OutOfRange = f.range
has f SeveralRows = f.several

pub data Outcome (X : Type 0) : Type 0 where
  Good : X → Outcome X
  Bad : Faults → Outcome X

-- an answer that may be one fault
abbrev pub of_result : {X : Type 0} → Result X RunFault → Outcome X
of_result (Ok x) = Good x
of_result (Err fault) = Bad (only fault)

abbrev pub is_good : {X : Type 0} → Outcome X → Bool
is_good (Good x) = true
is_good (Bad f) = false

-- what comes after a good value; after a bad one nothing does
abbrev pub and_then : {X Y : Type 0} → Outcome X → (X → Outcome Y) → Outcome Y
and_then (Good x) next = next x
and_then (Bad f) next = Bad f

abbrev pub mapped : {X Y : Type 0} → (X → Y) → Outcome X → Outcome Y
mapped f (Good x) = Good (f x)
mapped f (Bad g) = Bad g

-- both are looked at: bad ones give the union of their sets
abbrev pub both : {X Y Z : Type 0} → (X → Y → Z) → Outcome X → Outcome Y → Outcome Z
both f (Good x) (Good y) = Good (f x y)
both f (Good x) (Bad h) = Bad h
both f (Bad g) (Good y) = Bad g
both f (Bad g) (Bad h) = Bad (union g h)

-- both are looked at, and what comes after needs both good
abbrev pub both_then : {X Y Z : Type 0} → Outcome X → Outcome Y → (X → Y → Outcome Z) → Outcome Z
both_then (Good x) (Good y) next = next x y
both_then (Good x) (Bad h) next = Bad h
both_then (Bad g) (Good y) next = Bad g
both_then (Bad g) (Bad h) next = Bad (union g h)

-- each item is looked at, and what they give follows one another
abbrev pub gather : {X Y : Type 0} → (X → Outcome (List Y)) → List X → Outcome (List Y)
gather f [] = Good []
gather f (x ∷ xs) = both (λ y ys. y ++ ys) (f x) (gather f xs)

-- each item is looked at and gives one
abbrev pub each : {X Y : Type 0} → (X → Outcome Y) → List X → Outcome (List Y)
each f [] = Good []
each f (x ∷ xs) = both (λ y ys. y ∷ ys) (f x) (each f xs)
