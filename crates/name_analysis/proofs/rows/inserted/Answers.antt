use Rattle.std.proofs.Common.{subst, sym}
use Rattle.perm_catalog.specs.declared.column.Column.{Column}
use Rattle.sql_tree.specs.declared.statement.StatementBody.TheVariants as st
use Rattle.std.specs.Prelude.{List, flat_map}
use Rattle.name_seen_parts.specs.Told.{Tells}
use Rattle.name_seen_parts.specs.Seen.{first_or}
use Rattle.name_meaning.specs.Statements.{row_breaks}
use Rattle.perm_catalog.specs.Columns.{column_kinds}
use Rattle.std.specs.Prelude.{Err}
use Rattle.name_statements.specs.Resolves.{ResolvesBy}
use Rattle.name_meaning.specs.declared.answer.Resolved.TheVariants as r
use Rattle.name_seen.proofs.Rows.{same-refused}
use Rattle.name_statements.proofs.Tabled.{insert-refused}
use Rattle.name_analysis.proofs.rows.inserted.Goals as goal

pub returns-in_err-rows_break-in-Some : goal.returns-in_err-rows_break-in-Some
returns-in_err-rows_break-in-Some c =
    let held = c.args.catalog.now in
    same-refused (ResolvesBy held (st.Insert c.args.table.now c.args.rows.now) (r.Insert c.args.table.now.text)) c.from_residual.result c.in_err-rows_break-in-Some.field-0.0 c.from_residual.ensures.1
    (insert-refused held c.args.table.now c.in-Some.entry.now (sym c.in-Some.ensures) c.args.rows.now c.in_err-rows_break-in-Some.field-0.0
    (subst (λ (columns : List Column). Tells (first_or (flat_map (row_breaks held (column_kinds columns)) c.args.rows.now) (tt {0})) (Err c.in_err-rows_break-in-Some.field-0.0))
    c.as_slice-columns.ensures c.in_err-rows_break-in-Some.ensures))
