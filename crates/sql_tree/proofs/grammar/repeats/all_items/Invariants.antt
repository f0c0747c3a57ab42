use Rattle.std.proofs.Common.{◌≤◌, length, List}
use Rattle.sql_lexer.specs.declared.token.Token.{Token}
use Rattle.sql_tree.specs.grammar.Descent.{Parsed}
use Rattle.sql_tree.specs.grammar.Lists.{all_of}
use Rattle.sql_tree.specs.grammar.Readers.{IsTaker}
use Rattle.sql_tree.proofs.Listing.{Within}
use Rattle.sql_tree.proofs.grammar.repeats.all_items.Given as goal

abbrev pub invariant-loop-found : goal.invariant-loop-found
invariant-loop-found g l = record {
  within : (reading : List Token → Parsed Token g.row.T.Denot) → IsTaker (goal.F-post g l.item) reading
      → Within l.sorts reading (all_of l.fn.sorts reading l.fn.cursor) l.found l.cursor;
  fewer : length l.cursor ≤ length l.fn.cursor;
}

abbrev pub decreases-loop-found : goal.decreases-loop-found
decreases-loop-found g l = length l.cursor
