use Rattle.std.proofs.Common.{◌≤◌, length}
use Rattle.sql_tree.specs.grammar.Lists.{listed}
use Rattle.sql_tree.specs.declared.grammar.sort.Sort.TheVariants.{Semicolon}
use Rattle.sql_parser.specs.built.Statements.{optional_statement}
use Rattle.sql_parser.proofs.Keeping.{Keeping}
use Rattle.sql_parser.proofs.statements.statements.Given as goal

abbrev pub invariant-loop-cursor : goal.invariant-loop-cursor
invariant-loop-cursor l = record {
  keeping : Keeping (listed Semicolon optional_statement l.fn.cursor) l.kept l.cursor;
  within : length l.cursor ≤ length l.fn.cursor;
}

abbrev pub decreases-loop-cursor : goal.decreases-loop-cursor
decreases-loop-cursor l = length l.cursor
