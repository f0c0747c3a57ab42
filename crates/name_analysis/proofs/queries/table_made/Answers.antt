use Rattle.std.proofs.Common.{refl, sym, subst, ◌∙◌}
use Rattle.name_seen_parts.proofs.Firsts.{none-broken}
use Rattle.name_seen_parts.specs.Standing.{around_of}
use Rattle.name_seen_parts.specs.Columns.{columns_of}
use Rattle.name_meaning.specs.Froms.{settled_columns}
use Rattle.name_meaning.specs.Meanings.{query_means_at}
use Rattle.name_meaning.specs.Statements as words
use Rattle.name_meaning.specs.Trees.{query_of}
use Rattle.name_meaning.specs.declared.answer.Resolved.TheVariants as r
use Rattle.name_seen_cores.specs.from.Queried.{QueryWhole}
use Rattle.sql_tree.specs.declared.statement.StatementBody.TheVariants as st
use Rattle.name_seen.proofs.Rows.{same-refused}
use Rattle.name_statements.specs.Resolves.{ResolvesBy, stored_breaks}
use Rattle.name_statements.specs.declared.queries.Whole.{Whole}
use Rattle.name_statements.proofs.Queried.{stored-seen, stored-so, stored-told}
use Rattle.name_statements.proofs.Refused.{known-here, query-refused, query-whole, whole-so}
use Rattle.name_analysis.proofs.queries.table_made.Goals as goal

pub whole_of-requires-clause-seen : goal.whole_of-requires-clause-seen
whole_of-requires-clause-seen c =
    subst (QueryWhole (query_means_at (query_of c.around_alone-around.result.catalog.now c.args.query.now) (around_of c.around_alone-around.result)))
    (sym c.in_ok-fitting.ensures.kept.0) c.in_ok-shown.ensures

pub returns-in_err-shown : goal.returns-in_err-shown
returns-in_err-shown c =
    let held = c.args.catalog.now in
    let tree = c.args.query.now in
    let place = c.around_alone-around in
    let table = c.args.table.now in
    same-refused (ResolvesBy held (st.CreateTableAs table tree) (λ (whole : Whole). r.CreateTableAs table.text whole.columns whole.answer whole.places)) c.from_residual.result c.in_err-shown.field-0.0 c.from_residual.ensures.1
    (stored-seen held tree table c.in_err-shown.field-0.0 c.requires.free
    (query-refused held place.result.catalog.now tree (around_of place.result) (place.ensures.place refl) place.ensures.catalog c.in_err-shown.field-0.0 c.in_err-shown.ensures))

pub returns-in_err-fitting : goal.returns-in_err-fitting
returns-in_err-fitting c =
    let held = c.args.catalog.now in
    let tree = c.args.query.now in
    let place = c.around_alone-around in
    let seen = query-whole held place.result.catalog.now tree (around_of place.result) (place.ensures.place refl) place.ensures.catalog c.in_ok-shown.shown c.in_ok-shown.ensures in
    let table = c.args.table.now in
    same-refused (ResolvesBy held (st.CreateTableAs table tree) (λ (whole : Whole). r.CreateTableAs table.text whole.columns whole.answer whole.places)) c.from_residual-in_err-fitting.result c.in_err-fitting.field-0.0 c.from_residual-in_err-fitting.ensures.1
    (stored-told held tree table c.in_err-fitting.field-0.0 c.stored_break-stored.result (settled_columns (columns_of c.as_slice.result.now)) c.requires.free seen.whole
    (known-here (words.query_meant held tree) c.in_ok-shown.shown c.as_slice.result.now seen c.as_slice.ensures) c.in_err-fitting.ensures.broken c.stored_break-stored.ensures)

pub returns : goal.returns
returns c =
    let held = c.args.catalog.now in
    let tree = c.args.query.now in
    let place = c.around_alone-around in
    let seen = query-whole held place.result.catalog.now tree (around_of place.result) (place.ensures.place refl) place.ensures.catalog c.in_ok-shown.shown c.in_ok-shown.ensures in
    let table = c.args.table.now in
    let columns = settled_columns (columns_of c.as_slice.result.now) in
    stored-so held tree table columns c.requires.free seen.whole
    (known-here (words.query_meant held tree) c.in_ok-shown.shown c.as_slice.result.now seen c.as_slice.ensures)
    (none-broken (stored_breaks table tree.at columns) (tt {0}) (tt {0}) (sym c.stored_break-stored.ensures ∙ c.in_ok-fitting.ensures.kept.1)) c.whole_of.result
    (whole-so held place.result.catalog.now tree (around_of place.result) (place.ensures.place refl) place.ensures.catalog c.whole_of.result c.whole_of.ensures)
