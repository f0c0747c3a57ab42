use Rattle.std.proofs.Common.{sym}
use Rattle.name_statements.proofs.Tabled.{delete-so}
use Rattle.name_analysis.proofs.conditions.deleted.Goals as goal

pub returns-in-Some : goal.returns-in-Some
returns-in-Some c =
    delete-so c.args.catalog.now c.args.table.now c.in-Some.entry.now (sym c.in-Some.ensures) c.args.condition.now c.condition_of.result
    (c.condition_of.ensures (sym c.in-Some.ensures))
