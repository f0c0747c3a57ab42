-- What the code answers of a node over operands of which the first were answered or refused before.
use Rattle.std.specs.Prelude.{List, ◌++◌, Option, Result, Ok}
use Rattle.perm_values.specs.declared.kind.Kind.{Kind}
use Rattle.bag_algebra.specs.declared.expr.Expr.{Expr}
use Rattle.name_meaning.specs.Operands.{Operand, node}
use Rattle.name_meaning.specs.declared.need.Gives.{Gives}
use Rattle.name_seen_parts.specs.Seen.{no_operand}
use Rattle.name_seen_parts.specs.declared.operands.Operands.{Operands}
use Rattle.name_seen_parts.specs.declared.refusal.Refusal.{Refusal}
use Rattle.name_seen_cores.specs.Expressed.{ExpressionSeen, OperandsBehind}
use Rattle.name_seen_cores.specs.declared.from.facts.Facts.{Facts as Gathered}

-- these operands behind whichever were the first
abbrev pub NodeBehind : Gives → List Operand → Result Operands Refusal → Gathered → Gathered → Result (Option Kind) Refusal → Type 0
NodeBehind gives rest so_far old new result = (before : Gathered) (first : List Operand) (assembled : List Expr → Expr)
    → OperandsBehind first (Ok no_operand) before old so_far → ExpressionSeen (node gives assembled (first ++ rest)) before new result
