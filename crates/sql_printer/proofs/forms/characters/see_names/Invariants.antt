use Rattle.std.proofs.Common.{drop}
use Rattle.std.specs.List.{AllByRecursion}
use Rattle.std.specs.Str.{IsUtf8}
use Rattle.sql_printer.proofs.forms.characters.see_names.Given as goal

-- all are characters where those that are left are
abbrev pub invariant-loop-name : goal.invariant-loop-name
invariant-loop-name l = AllByRecursion IsUtf8 (drop l.name-index l.names) → AllByRecursion IsUtf8 l.names
