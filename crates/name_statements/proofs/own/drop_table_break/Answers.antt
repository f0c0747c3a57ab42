use Rattle.std.proofs.Common.{◌∙◌}
use Rattle.name_meaning.specs.Statements as words
use Rattle.name_statements.proofs.Tabled.{behind-one, err-is, first-of-two}
use Rattle.name_statements.proofs.own.drop_table_break.Goals as goal

pub returns-in_err-unknown_table : goal.returns-in_err-unknown_table
returns-in_err-unknown_table c =
    err-is c.from_residual.result c.in_err-unknown_table.field-0.0 c.from_residual.ensures.1
    ∙ first-of-two (words.unknown_table c.args.catalog.now c.args.table.now) (words.used c.args.catalog.now c.args.table.now) c.in_err-unknown_table.field-0.0 c.in_err-unknown_table.ensures

pub returns : goal.returns
returns c = c.used.ensures ∙ behind-one (words.unknown_table c.args.catalog.now c.args.table.now) (words.used c.args.catalog.now c.args.table.now) c.in_ok-unknown_table.ensures
