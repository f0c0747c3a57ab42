-- Whether an aggregate of its own core stands in an expression.
use Rattle.std.specs.Prelude.{Bool, false, Option, Some, None}
use Rattle.perm_catalog.specs.Contents.{Contents}
use Rattle.sql_tree.specs.declared.expression.ExprTree.{ExprTree}
use Rattle.name_meaning.specs.Expressions.{StepPart}
use Rattle.name_meaning.specs.Meanings.{Part}
use Rattle.name_meaning.specs.Trees.{part_of}

abbrev pub is_aggregating : Part → Bool
is_aggregating part = part.aggregating

abbrev pub step_aggregates : StepPart → Bool
step_aggregates step = step.part.aggregating

abbrev pub otherwise_aggregates : Contents → Option ExprTree → Bool
otherwise_aggregates c None = false
otherwise_aggregates c (Some tree) = is_aggregating (part_of c tree)
