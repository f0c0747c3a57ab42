-- The rows that an input holds, stored or made.
use Rattle.bag_algebra.specs.Bags.{Bag}
use Rattle.row_nodes.specs.declared.input.Held.{Held}
use Rattle.row_nodes.specs.declared.input.Held.TheVariants.{Stored, Made}

abbrev pub held_rows : Held → Bag
held_rows (Stored rows) = rows.now
held_rows (Made rows) = rows
