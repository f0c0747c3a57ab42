use Rattle.std.proofs.Common.{drop}
use Rattle.std.specs.List.{AllByRecursion}
use Rattle.sql_printer.specs.forms.Printable.{AreCharacters}
use Rattle.sql_printer.proofs.forms.characters.see_tables.Given as goal

-- all are characters where those that are left are
abbrev pub invariant-loop-table : goal.invariant-loop-table
invariant-loop-table l = AllByRecursion AreCharacters (drop l.table-index l.tables) → AllByRecursion AreCharacters l.tables
