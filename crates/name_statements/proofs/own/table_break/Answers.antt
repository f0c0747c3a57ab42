use Rattle.std.specs.Prelude.{[], length}
use Rattle.std.proofs.Common.{◌∙◌}
use Rattle.name_meaning.specs.Statements as words
use Rattle.name_statements.proofs.Tabled.{behind-names, err-is, first-of-names, second-of-names}
use Rattle.name_statements.proofs.own.table_break.Goals as goal

pub returns-in_err-taken : goal.returns-in_err-taken
returns-in_err-taken c =
    err-is c.from_residual.result c.in_err-taken.field-0.0 c.from_residual.ensures.1
    ∙ first-of-names (words.taken c.args.catalog.now c.args.table.now) (words.repeated_columns [] c.args.columns.now)
    (words.table_limit c.args.table.now (length c.args.columns.now)) c.in_err-taken.field-0.0 c.in_err-taken.ensures

pub returns-in_err-repeated_columns : goal.returns-in_err-repeated_columns
returns-in_err-repeated_columns c =
    err-is c.from_residual-in_err-repeated_columns.result c.in_err-repeated_columns.field-0.0 c.from_residual-in_err-repeated_columns.ensures.1
    ∙ second-of-names (words.taken c.args.catalog.now c.args.table.now) (words.repeated_columns [] c.args.columns.now)
    (words.table_limit c.args.table.now (length c.args.columns.now)) c.in_err-repeated_columns.field-0.0 c.in_ok-taken.ensures c.in_err-repeated_columns.ensures

pub returns : goal.returns
returns c =
    c.table_limit.ensures
    ∙ behind-names (words.taken c.args.catalog.now c.args.table.now) (words.repeated_columns [] c.args.columns.now)
    (words.table_limit c.args.table.now (length c.args.columns.now)) c.in_ok-taken.ensures c.in_ok-repeated_columns.ensures
