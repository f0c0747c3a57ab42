-- The kinds that columns have where none are wanted.
use Rattle.std.specs.Prelude.{◌≡◌, List, []}
use Rattle.std.proofs.Common.{ap, sym, ◌∙◌}
use Rattle.perm_catalog.specs.Columns.{column_kinds}
use Rattle.perm_catalog.specs.declared.column.Column.{Column}
use Rattle.name_meaning.specs.Cores.{settle}
use Rattle.name_meaning.specs.Froms.{settled_columns, table_columns}
use Rattle.name_meaning.specs.Meanings.{OutColumn}
use Rattle.name_meaning.specs.laws.Known.{column_kinds_of}
use Rattle.name_meaning.proofs.SettledKinds.{settled-kinds, table-kinds}

pub kinds-settled : (columns : List OutColumn) (known : List Column) → table_columns known ≡ settled_columns columns → settle columns [] ≡ column_kinds known
kinds-settled columns known e = settled-kinds columns ∙ ap column_kinds_of (sym e) ∙ table-kinds known
