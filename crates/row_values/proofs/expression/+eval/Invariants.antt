use Rattle.std.proofs.Common.{◌≡◌, List, take, drop, Ok}
use Rattle.bag_algebra.specs.Children.{part_values, step_of, arms_value}
use Rattle.bag_algebra.specs.Expressions.{Step, chain}
use Rattle.bag_algebra.specs.Outcome.{Outcome, Good, each, of_result}
use Rattle.perm_values.specs.declared.value.Value.{Value}
use Rattle.row_values.specs.Parts.{truth_of_all}
use Rattle.row_values.proofs.expression.+eval.Given as goal

-- no condition so far is true
abbrev pub invariant-chosen-loop-arm : goal.invariant-chosen-loop-arm
invariant-chosen-loop-arm l =
    (otherwise : Outcome Value) → arms_value l.arms l.row l.env l.subs otherwise ≡ arms_value (drop l.arm-index l.arms) l.row l.env l.subs otherwise

-- the operands so far are good, and what their steps come to is the value
abbrev pub invariant-chained-loop-step : goal.invariant-chained-loop-step
invariant-chained-loop-step l = record {
  start : Value;
  made : List Step;
  from : l.fn.first ≡ Ok start;
  good : each (step_of l.row l.env l.subs) (take l.step-index l.steps) ≡ Good made;
  so_far : chain start made ≡ of_result l.value;
}

abbrev pub invariant-operands-loop-part : goal.invariant-operands-loop-part
invariant-operands-loop-part l = part_values (take l.part-index l.parts) l.row l.env l.subs ≡ Good l.values

-- the parts so far are good, and they have the truth together
abbrev pub invariant-together-loop-part : goal.invariant-together-loop-part
invariant-together-loop-part l = record {
  values : List Value;
  good : part_values (take l.part-index l.parts) l.row l.env l.subs ≡ Good values;
  so_far : l.truth ≡ truth_of_all l.all values;
}
