use Rattle.std.proofs.Common.{sym, ◌∙◌, subst}
use Rattle.query_laws.proofs.BuiltSpines.{project-found, project-refused}
use Rattle.query_laws.specs.spines.PlacedColumns.{ItemsPlaced}
use Rattle.query_laws.proofs.spines.spine.projected.Goals as goal

pub returns-then-not-items_faultless : goal.returns-then-not-items_faultless
returns-then-not-items_faultless c width input other found =
    project-refused width input c.args.items.now other c.args.spine found (sym c.items_faultless.ensures ∙ c.if-not-items_faultless.true)

pub returns : goal.returns
returns c width input other found =
    project-found width input c.args.items.now other c.args.spine found c.with_items.result c.in-Ok.made c.with_items.ensures
    (subst (λ own. ItemsPlaced own c.args.items.now c.in-Ok.made) c.as_slice.ensures c.in-Ok.ensures)
    (sym c.items_faultless.ensures ∙ c.if-not-items_faultless.false)
