use Rattle.std.proofs.Common.{◌∙◌}
use Rattle.name_meaning.specs.Statements as words
use Rattle.name_statements.proofs.Tabled.{behind-one, err-is, first-of-two}
use Rattle.name_statements.proofs.own.drop_view_break.Goals as goal

pub returns-in_err-unknown_view : goal.returns-in_err-unknown_view
returns-in_err-unknown_view c =
    err-is c.from_residual.result c.in_err-unknown_view.field-0.0 c.from_residual.ensures.1
    ∙ first-of-two (words.unknown_view c.args.catalog.now c.args.view.now) (words.used c.args.catalog.now c.args.view.now) c.in_err-unknown_view.field-0.0 c.in_err-unknown_view.ensures

pub returns : goal.returns
returns c = c.used.ensures ∙ behind-one (words.unknown_view c.args.catalog.now c.args.view.now) (words.used c.args.catalog.now c.args.view.now) c.in_ok-unknown_view.ensures
