use Rattle.sql_printer.specs.explained.Alone.{IsAlone}
use Rattle.sql_printer.proofs.explained.alone.tables_alone.Given as goal

abbrev pub invariant-tables : goal.invariant-tables
invariant-tables l = IsAlone l.catalog l.alone
