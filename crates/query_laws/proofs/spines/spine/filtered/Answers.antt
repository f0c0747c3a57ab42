use Rattle.std.proofs.Common.{sym, ◌∙◌, subst}
use Rattle.query_laws.proofs.BuiltSpines.{filter-found, filter-refused}
use Rattle.query_laws.specs.spines.PlacedColumns.{IsPlaced}
use Rattle.query_laws.proofs.spines.spine.filtered.Goals as goal

pub returns-then-not-may_follow : goal.returns-then-not-may_follow
returns-then-not-may_follow c width input other found =
    filter-refused width input c.args.condition.now other c.args.spine found (sym c.may_follow.ensures ∙ c.if-not-may_follow.true)

pub returns : goal.returns
returns c width input other found =
    filter-found width input c.args.condition.now other c.args.spine found c.in_ok-with_test.field-0 c.in-Ok.other c.in_ok-with_test.ensures
    (subst (λ items. IsPlaced items c.args.condition.now c.in-Ok.other) c.as_slice.ensures c.in-Ok.ensures)
    (sym c.may_follow.ensures ∙ c.if-not-may_follow.false)
