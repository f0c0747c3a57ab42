use Rattle.std.proofs.Common.{◌≡◌, drop}
use Rattle.query_texts.specs.clauses.Names.{table_of}
use Rattle.query_texts.proofs.clauses.tables.table_of.Given as goal

-- no table so far has the identity
abbrev pub invariant-loop-table : goal.invariant-loop-table
invariant-loop-table l = table_of l.tables l.id ≡ table_of (drop l.table-index l.tables) l.id
