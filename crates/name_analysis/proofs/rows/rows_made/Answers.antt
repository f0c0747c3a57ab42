use Rattle.std.specs.Prelude.{[]}
use Rattle.name_meaning.specs.Statements.{row_breaks}
use Rattle.perm_catalog.specs.Columns.{column_kinds}
use Rattle.name_statements.proofs.Values.{each-none}
use Rattle.name_analysis.proofs.rows.rows_made.Goals as goal

pub row_made-requires-clause-alone : goal.row_made-requires-clause-alone
row_made-requires-clause-alone c = c.alone.ensures []

pub row_made-requires-clause-whole : goal.row_made-requires-clause-whole
row_made-requires-clause-whole c =
    each-none (row_breaks c.args.catalog.now (column_kinds c.args.columns.now)) c.args.rows.now c.loop-row.row-index c.row-item.result c.loop-row-test.true c.row-item.is
    c.requires.whole
