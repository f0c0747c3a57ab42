use Rattle.bag_algebra.specs.Meaning.{arguments_on, functions_of}
use Rattle.bag_algebra.specs.Means.{class_row}
use Rattle.row_values.proofs.Outcomes.{along, passed}
use Rattle.row_values.proofs.ClassRows.{grouped-is, grouped-refuses, makes_rows}
use Rattle.row_values.proofs.Keys.{numbers_within}
use Rattle.row_values.proofs.groups.grouping.grouped.Goals as goal

pub columns_of-requires-clause-within : goal.columns_of-requires-clause-within
columns_of-requires-clause-within c =
    rw (c.as_slice.ensures, c.len-count.ensures.len)
    (numbers_within c.args.groups.now c.args.rows.now c.in_ok-classes.classes.keys.keys c.in_ok-classes.classes.numbers c.in_ok-classes.ensures)

pub returns-in_err-columns : goal.returns-in_err-columns
returns-in_err-columns c =
    passed _ _ c.from_residual-in_err-columns.result c.from_residual-in_err-columns.ensures.1
    (grouped-refuses c.args.groups.now c.args.env.now c.args.aggregates.now c.args.rows.now _ c.in_err-columns.ensures.err)

pub returns : goal.returns
returns c =
    let columns = rw (c.as_slice.ensures, c.len-count.ensures.len) at c.in_ok-columns.ensures.ok in
    let classes = c.in_ok-classes.ensures in
    along _ _ c.class_rows.result
    (grouped-is c.args.env.now c.args.groups.now c.args.aggregates.now c.args.rows.now c.in_ok-classes.classes.keys.keys c.in_ok-classes.classes.numbers c.in_ok-columns.columns classes columns)
    (c.class_rows.ensures (class_row c.args.groups.now (functions_of c.args.aggregates.now) (arguments_on c.args.aggregates.now c.args.env.now) c.args.rows.now)
    (rw c.as_slice-2.ensures
    (makes_rows c.args.env.now c.args.groups.now c.args.aggregates.now c.args.rows.now c.in_ok-classes.classes.keys.keys c.in_ok-classes.classes.numbers c.in_ok-columns.columns classes columns)))
