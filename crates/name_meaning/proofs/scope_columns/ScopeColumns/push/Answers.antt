use Rattle.std.proofs.Common.{subst, sym}
use Rattle.name_meaning.specs.Ascending.{AscendsTo}
use Rattle.name_meaning.proofs.Ascending.{ascends_to-more}
use Rattle.name_meaning.proofs.scope_columns.ScopeColumns.push.Goals as goal

pub invariant_of-self-2 : goal.invariant_of-self-2
invariant_of-self-2 c = λ ascending.
    let on = c.goes_on-ascending.ensures ascending in
    subst (AscendsTo c.args.column.item) (sym c.in_ok-push.ensures.ok)
    (ascends_to-more c.self.inside.last c.self.inside.columns c.args.column (c.self.invariant on.0) on.1)
