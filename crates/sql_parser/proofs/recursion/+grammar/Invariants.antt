use Rattle.std.proofs.Common.{length}
use Rattle.sql_parser.proofs.recursion.+grammar.Given as goal

abbrev pub decreases-expr : goal.decreases-expr
decreases-expr l = length l.cursor.now

abbrev pub decreases-query : goal.decreases-query
decreases-query l = length l.cursor.now
