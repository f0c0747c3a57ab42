-- What an evaluation in code may answer for an outcome: the good value itself, or a fault of the set. Want of memory
-- says nothing.
use Rattle.std.specs.Prelude.{◌≡◌, Bool, true, false, Result, Ok, Err}
use Rattle.null_logic.specs.declared.run_fault.RunFault.{RunFault}
use Rattle.bag_algebra.specs.Outcome.{Outcome, Good, Bad, has}
use Rattle.row_values.specs.declared.error.ExecError.{ExecError}
use Rattle.row_values.specs.declared.error.ExecError.TheVariants.{Fault, NoMemory}

-- whether the fault is one that the outcome meets
abbrev pub meets : {X : Type 0} → Outcome X → RunFault → Bool
meets (Good x) fault = false
meets (Bad faults) fault = has faults fault

abbrev pub Refuses : {X : Type 0} → Outcome X → ExecError → Type 0
Refuses outcome (Fault fault) = meets outcome fault ≡ true
Refuses outcome NoMemory = Unit {0}

abbrev pub Gives : {X : Type 0} → Outcome X → Result X ExecError → Type 0
Gives outcome (Ok x) = outcome ≡ Good x
Gives outcome (Err error) = Refuses outcome error
