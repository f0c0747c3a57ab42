use Rattle.std.specs.Prelude.{List, []}
use Rattle.std.proofs.Common.{◌≡◌, subst, sym}
use Rattle.name_meaning.specs.Statements.{values_breaks}
use Rattle.perm_catalog.specs.Columns.{column_kinds}
use Rattle.sql_tree.specs.declared.expression.ExprTree.{ExprTree}
use Rattle.name_statements.proofs.Values.{row-whole}
use Rattle.name_analysis.proofs.rows.row_made.Goals as goal

pub values_made-requires-clause-whole : goal.values_made-requires-clause-whole
values_made-requires-clause-whole c =
    subst (λ (values : List ExprTree). values_breaks c.args.here.now.catalog.now (column_kinds c.args.columns.now) values ≡ []) (sym c.as_slice.ensures)
    (row-whole c.args.here.now.catalog.now (column_kinds c.args.columns.now) c.args.row.now c.requires.whole)
