use Rattle.query_facts.specs.reached.reads.Columns.{expr_columns}
use Rattle.query_facts.specs.reached.reads.built.Columns.{step_columns, arm_columns}
use Rattle.query_facts.proofs.Gathered.{SoFar}
use Rattle.query_facts.proofs.reached.reads.expressions.+expr_columns.Given as goal

abbrev pub invariant-parts_columns-loop-part : goal.invariant-parts_columns-loop-part
invariant-parts_columns-loop-part l = SoFar expr_columns l.parts l.fn.found l.part-index l.columns

abbrev pub invariant-steps_columns-loop-step : goal.invariant-steps_columns-loop-step
invariant-steps_columns-loop-step l = SoFar step_columns l.steps l.fn.found l.step-index l.columns

abbrev pub invariant-arms_columns-loop-arm : goal.invariant-arms_columns-loop-arm
invariant-arms_columns-loop-arm l = SoFar arm_columns l.arms l.fn.found l.arm-index l.columns
