use Rattle.std.proofs.Common.{refl}
use Rattle.name_meaning.specs.Queries.{may_not_ask}
use Rattle.name_meaning.specs.Statements as words
use Rattle.name_seen.proofs.Rows.{same-refused}
use Rattle.name_statements.specs.Resolves.{AskedSeen}
use Rattle.name_statements.proofs.Impacts.{asked-here, asked-unseen}
use Rattle.name_analysis.proofs.impacts.asked_about.Goals as goal

pub returns-in_err-shown : goal.returns-in_err-shown
returns-in_err-shown c =
    let held = c.args.catalog.now in
    let tree = c.args.query.now in
    same-refused (AskedSeen tree.at (words.impact_query held tree)) c.from_residual.result c.in_err-shown.field-0.0 c.from_residual.ensures.1
    (asked-unseen held held tree (may_not_ask words.alone) refl refl c.in_err-shown.field-0.0 c.in_err-shown.ensures)

pub returns : goal.returns
returns c =
    asked-here c.args.catalog.now c.args.catalog.now c.args.query.now (may_not_ask words.alone) refl refl c.monotone_of.result c.monotone_of.ensures
