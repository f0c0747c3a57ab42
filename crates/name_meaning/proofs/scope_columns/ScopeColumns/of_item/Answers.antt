use Rattle.std.proofs.Common.{◌≡◌, List, suc, drop, subst, sym, ◌∙◌, arith}
use Rattle.name_meaning.specs.Ascending.{Ascends, From}
use Rattle.name_meaning.specs.declared.scope.ScopeColumn.{ScopeColumn}
use Rattle.name_meaning.proofs.Ascending.{from-further}
use Rattle.name_meaning.proofs.scope_columns.ScopeColumns.of_item.Goals as goal

pub returns-clause-behind : goal.returns-clause-behind
returns-clause-behind c =
    let own = c.as_slice-columns.ensures in
    let seen : c.self.inside.columns ≡ c.args.self.now = c.self.view_is in
    from-further (suc c.args.number) c.args.self.now c.through.result c.max.result (omega (arith, c.max.ensures))
    (subst (λ (columns : List ScopeColumn). From (suc c.args.number) (drop c.through.result columns)) (own ∙ seen)
    (c.through.ensures.behind (subst (Ascends 0) (sym own) (c.self.invariant c.if-not-self.false).0)))
