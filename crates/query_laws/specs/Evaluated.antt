-- Evaluations of lists item by item, and the value of a sublink on a row.
use Rattle.std.specs.Prelude.{◌≡◌, ◌↔◌, ℕ, List, length, Some, Contains}
use Rattle.std.specs.List.{slice_get}
use Rattle.null_logic.specs.declared.run_fault.RunFault.{RunFault}
use Rattle.bag_algebra.specs.Outcome.{Outcome, Good}
use Rattle.query_laws.specs.Faults.{IsGood, Meets}

-- each item is evaluated: good where each of them is, with their values in order, and meeting what they meet
pub record IsEvaluated {X Y : Type 0} (f : X → Outcome Y) (xs : List X) (answer : Outcome (List Y)) : Type 0 where
  pub good : IsGood answer ↔ ((x : X) → Contains xs x → IsGood (f x))
  pub faults : (fault : RunFault) → Meets answer fault ↔ ((x : X) × Contains xs x × Meets (f x) fault)
  pub long : (ys : List Y) → answer ≡ Good ys → length ys ≡ length xs
  pub values : (ys : List Y) → answer ≡ Good ys → (place : ℕ) (x : X) → slice_get xs place ≡ Some x →
      (y : Y) × (slice_get ys place ≡ Some y) × (f x ≡ Good y)
