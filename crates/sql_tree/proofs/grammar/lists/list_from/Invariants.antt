use Rattle.std.proofs.Common.{◌≤◌, length, List}
use Rattle.sql_lexer.specs.declared.token.Token.{Token}
use Rattle.sql_tree.specs.grammar.Descent.{Parsed}
use Rattle.sql_tree.specs.grammar.Lists.{more_listed}
use Rattle.sql_tree.specs.grammar.Readers.{IsReader}
use Rattle.sql_tree.proofs.Listing.{Amid}
use Rattle.sql_tree.proofs.grammar.lists.list_from.Given as goal

abbrev pub invariant-loop-separator : goal.invariant-loop-separator
invariant-loop-separator g l = record {
  amid : (reading : List Token → Parsed Token g.row.T.Denot) → IsReader (goal.F-post g l.item) reading
      → Amid l.separator reading (more_listed l.fn.separator reading l.fn.first l.fn.cursor) l.found l.cursor;
  within : length l.cursor ≤ length l.fn.cursor;
}

abbrev pub decreases-loop-separator : goal.decreases-loop-separator
decreases-loop-separator g l = length l.cursor
