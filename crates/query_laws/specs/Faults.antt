-- What an evaluation meets, and what a node meets on its inputs and on their rows.
use Rattle.std.specs.Prelude.{◌≡◌, ◌↔◌, true, ◌++◌}
use Rattle.null_logic.specs.declared.run_fault.RunFault.{RunFault}
use Rattle.bag_algebra.specs.Bags.{Row, Bag}
use Rattle.bag_algebra.specs.Outcome.{Outcome, Good, Bad, Faults, union, has}
use Rattle.query_laws.specs.Holding.{InBag}

abbrev pub IsGood : {X : Type 0} → Outcome X → Type 0
IsGood (Good x) = Unit {0}
IsGood (Bad faults) = ⊥

-- the evaluation is bad, with this kind of fault among those that it meets
abbrev pub Meets : {X : Type 0} → Outcome X → RunFault → Type 0
Meets (Good x) fault = ⊥
Meets (Bad faults) fault = has faults fault ≡ true

-- what has one input is bad where the input is, with the input's faults
abbrev pub PassesFaults : Outcome Bag → Outcome Bag → Type 0
PassesFaults input answer = (faults : Faults) → input ≡ Bad faults → answer ≡ Bad faults

-- what has two inputs is bad where one of them is, with the union of their faults
pub record UnitesFaults (left right answer : Outcome Bag) : Type 0 where
  pub of_left : (faults : Faults) (vs : Bag) → left ≡ Bad faults → right ≡ Good vs → answer ≡ Bad faults
  pub of_right : (us : Bag) (faults : Faults) → left ≡ Good us → right ≡ Bad faults → answer ≡ Bad faults
  pub of_both : (faults more : Faults) → left ≡ Bad faults → right ≡ Bad more → answer ≡ Bad (union faults more)

-- what is evaluated on every row of a bag is good where each row is, and meets the kinds of faults that some row meets
pub record OverRows {X : Type 0} (on_row : Row → Outcome X) (us : Bag) (answer : Outcome Bag) : Type 0 where
  pub good : IsGood answer ↔ ((u : Row) → InBag u us → IsGood (on_row u))
  pub faults : (fault : RunFault) → Meets answer fault ↔ ((u : Row) × InBag u us × Meets (on_row u) fault)

-- the same over every pair of a left row and a right row
pub record OverPairs {X : Type 0} (on_row : Row → Outcome X) (us vs : Bag) (answer : Outcome Bag) : Type 0 where
  pub good : IsGood answer ↔ ((u v : Row) → InBag u us → InBag v vs → IsGood (on_row (u ++ v)))
  pub faults : (fault : RunFault) →
      Meets answer fault ↔ ((u : Row) × (v : Row) × InBag u us × InBag v vs × Meets (on_row (u ++ v)) fault)
