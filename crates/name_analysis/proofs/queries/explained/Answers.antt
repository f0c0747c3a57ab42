use Rattle.std.proofs.Common.{refl}
use Rattle.name_seen_parts.specs.Standing.{around_of}
use Rattle.sql_tree.specs.declared.statement.StatementBody.TheVariants as st
use Rattle.name_seen.proofs.Rows.{same-refused}
use Rattle.name_statements.specs.Resolves.{ResolvesBody}
use Rattle.name_statements.proofs.Queried.{explain-limited, explain-made, explain-seen}
use Rattle.name_statements.proofs.Refused.{is-whole, limits-refused, query-refused, query-whole}
use Rattle.name_analysis.proofs.queries.explained.Goals as goal

pub returns-in_err-shown : goal.returns-in_err-shown
returns-in_err-shown c =
    let held = c.args.catalog.now in
    let tree = c.args.query.now in
    let place = c.around_alone-around in
    same-refused (ResolvesBody held (st.Explain tree)) c.from_residual.result c.in_err-shown.field-0.0 c.from_residual.ensures.1
    (explain-seen held tree c.in_err-shown.field-0.0
    (query-refused held place.result.catalog.now tree (around_of place.result) (place.ensures.place refl) place.ensures.catalog c.in_err-shown.field-0.0 c.in_err-shown.ensures))

pub returns-in_err-whole : goal.returns-in_err-whole
returns-in_err-whole c =
    let held = c.args.catalog.now in
    let tree = c.args.query.now in
    let place = c.around_alone-around in
    let is = place.ensures.place refl in
    same-refused (ResolvesBody held (st.Explain tree)) c.from_residual-in_err-whole.result c.in_err-whole.field-0.0 c.from_residual-in_err-whole.ensures.1
    (explain-limited held tree c.in_err-whole.field-0.0
    (query-whole held place.result.catalog.now tree (around_of place.result) is place.ensures.catalog c.in_ok-shown.shown c.in_ok-shown.ensures).whole
    (limits-refused held place.result.catalog.now tree (around_of place.result) is place.ensures.catalog c.in_err-whole.field-0.0 c.in_err-whole.ensures))

pub returns : goal.returns
returns c =
    let held = c.args.catalog.now in
    let tree = c.args.query.now in
    let place = c.around_alone-around in
    let is = place.ensures.place refl in
    explain-made held tree c.in_ok-whole.whole c.answer_of.result
    (query-whole held place.result.catalog.now tree (around_of place.result) is place.ensures.catalog c.in_ok-shown.shown c.in_ok-shown.ensures).whole
    (is-whole held place.result.catalog.now tree (around_of place.result) is place.ensures.catalog c.in_ok-whole.whole c.in_ok-whole.ensures)
    c.answer_of.ensures
