use Rattle.std.proofs.Common.{refl, sym, subst, ◌∙◌}
use Rattle.name_seen_parts.proofs.Firsts.{none-broken}
use Rattle.name_seen_parts.specs.Standing.{around_of}
use Rattle.name_meaning.specs.Froms.{names_of}
use Rattle.name_meaning.specs.Meanings.{broken_if, query_means_at}
use Rattle.name_meaning.specs.Statements as words
use Rattle.name_meaning.specs.Trees.{query_of}
use Rattle.name_meaning.specs.declared.answer.Resolved.TheVariants as r
use Rattle.name_seen_cores.specs.from.Queried.{QueryWhole}
use Rattle.sql_tree.specs.declared.statement.StatementBody.TheVariants as st
use Rattle.name_statements.specs.Resolves.{ResolvesBy}
use Rattle.name_statements.proofs.Queried.{view-limited, view-made, view-repeats, view-seen}
use Rattle.name_statements.proofs.Refused.{by-limit, is-whole, limits-refused, query-refused, query-whole, repeats-told}
use Rattle.name_analysis.proofs.queries.view_made.Goals as goal
use Rattle.name_meaning.specs.declared.rule.Rule.TheVariants as rule
use Rattle.name_seen.proofs.Rows.{same-refused}

pub whole_of-requires-clause-seen : goal.whole_of-requires-clause-seen
whole_of-requires-clause-seen c =
    subst (QueryWhole (query_means_at (query_of c.around_alone-around.result.catalog.now c.args.query.now) (around_of c.around_alone-around.result)))
    (sym c.in_ok-named.ensures.kept.0) c.in_ok-shown.ensures

pub returns-in_err-shown : goal.returns-in_err-shown
returns-in_err-shown c = λ view free.
    let held = c.args.catalog.now in
    let tree = c.args.query.now in
    let place = c.around_alone-around in
    same-refused (ResolvesBy held (st.CreateView view tree) (r.CreateView view.text)) c.from_residual.result c.in_err-shown.field-0.0 c.from_residual.ensures.1
    (view-seen held tree view c.in_err-shown.field-0.0 free
    (query-refused held place.result.catalog.now tree (around_of place.result) (place.ensures.place refl) place.ensures.catalog c.in_err-shown.field-0.0 c.in_err-shown.ensures))

pub returns-in_err-named : goal.returns-in_err-named
returns-in_err-named c = λ view free.
    let held = c.args.catalog.now in
    let tree = c.args.query.now in
    let place = c.around_alone-around in
    let seen = query-whole held place.result.catalog.now tree (around_of place.result) (place.ensures.place refl) place.ensures.catalog c.in_ok-shown.shown c.in_ok-shown.ensures in
    same-refused (ResolvesBy held (st.CreateView view tree) (r.CreateView view.text)) c.from_residual-in_err-named.result c.in_err-named.field-0.0 c.from_residual-in_err-named.ensures.1
    (view-repeats held tree view c.in_err-named.field-0.0 free seen.whole
    (by-limit _ c.repeats_break-repeats.result c.in_err-named.field-0.0 c.in_err-named.ensures.broken
    (repeats-told (words.query_meant held tree) c.in_ok-shown.shown c.as_slice.result.now tree.at c.repeats_break-repeats.result seen c.as_slice.ensures c.repeats_break-repeats.ensures)))

pub returns-in_err-whole : goal.returns-in_err-whole
returns-in_err-whole c = λ view free.
    let held = c.args.catalog.now in
    let tree = c.args.query.now in
    let place = c.around_alone-around in
    let seen = query-whole held place.result.catalog.now tree (around_of place.result) (place.ensures.place refl) place.ensures.catalog c.in_ok-shown.shown c.in_ok-shown.ensures in
    same-refused (ResolvesBy held (st.CreateView view tree) (r.CreateView view.text)) c.from_residual-in_err-whole.result c.in_err-whole.field-0.0 c.from_residual-in_err-whole.ensures.1
    (view-limited held tree view c.in_err-whole.field-0.0 free seen.whole
    (none-broken (broken_if (words.repeats (names_of (words.columns_of (words.query_meant held tree)))) rule.RepeatedColumn tree.at) (tt {0}) (tt {0})
    (repeats-told (words.query_meant held tree) c.in_ok-shown.shown c.as_slice.result.now tree.at c.repeats_break-repeats.result seen c.as_slice.ensures c.repeats_break-repeats.ensures
    ∙ c.in_ok-named.ensures.kept.1))
    (limits-refused held place.result.catalog.now tree (around_of place.result) (place.ensures.place refl) place.ensures.catalog c.in_err-whole.field-0.0 c.in_err-whole.ensures))

pub returns : goal.returns
returns c = λ view free.
    let held = c.args.catalog.now in
    let tree = c.args.query.now in
    let place = c.around_alone-around in
    let seen = query-whole held place.result.catalog.now tree (around_of place.result) (place.ensures.place refl) place.ensures.catalog c.in_ok-shown.shown c.in_ok-shown.ensures in
    view-made held tree view c.in_ok-whole.whole c.in_ok-entry.entry view.text
    free seen.whole
    (none-broken (broken_if (words.repeats (names_of (words.columns_of (words.query_meant held tree)))) rule.RepeatedColumn tree.at) (tt {0}) (tt {0})
    (repeats-told (words.query_meant held tree) c.in_ok-shown.shown c.as_slice.result.now tree.at c.repeats_break-repeats.result seen c.as_slice.ensures c.repeats_break-repeats.ensures
    ∙ c.in_ok-named.ensures.kept.1))
    (is-whole held place.result.catalog.now tree (around_of place.result) (place.ensures.place refl) place.ensures.catalog c.in_ok-whole.whole c.in_ok-whole.ensures)
    c.in_ok-entry.ensures refl
