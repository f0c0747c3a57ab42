use Rattle.std.proofs.Common.{take}
use Rattle.query_laws.specs.spines.PlacedColumns.{PartsPlaced, StepsPlaced, ArmsPlaced}
use Rattle.query_laws.proofs.spines.placing.+placed.Given as goal

abbrev pub invariant-placed_parts-loop-part : goal.invariant-placed_parts-loop-part
invariant-placed_parts-loop-part l = PartsPlaced l.items (take l.part-index l.parts) l.made

abbrev pub invariant-placed_steps-loop-step : goal.invariant-placed_steps-loop-step
invariant-placed_steps-loop-step l = StepsPlaced l.items (take l.step-index l.steps) l.made

abbrev pub invariant-placed_arms-loop-arm : goal.invariant-placed_arms-loop-arm
invariant-placed_arms-loop-arm l = ArmsPlaced l.items (take l.arm-index l.arms) l.made
