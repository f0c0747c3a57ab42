-- The value of an operand, seen or made.
use Rattle.perm_values.specs.declared.value.Value.{Value}
use Rattle.row_values.specs.declared.operand.Held.{Held}
use Rattle.row_values.specs.declared.operand.Held.TheVariants.{Seen, Made}

abbrev pub held_value : Held → Value
held_value (Seen value) = value.now
held_value (Made value) = value
