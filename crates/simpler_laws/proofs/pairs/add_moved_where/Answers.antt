use Rattle.std.proofs.Common.{[], ◌∷◌, ◌++◌, cond, sym, subst}
use Rattle.std.specs.Prelude.{OnOk}
use Rattle.perm_values.proofs.Results.{appended}
use Rattle.contribution.specs.MovedColumns.{PartsMoved}
use Rattle.simpler_laws.proofs.Added.{moved-behind}
use Rattle.simpler_laws.proofs.pairs.add_moved_where.Goals as goal

pub returns-then-goes : goal.returns-then-goes
returns-then-goes c = λ before h.
    subst (λ goes. OnOk c.push.result (PartsMoved c.args.order.now (before ++ cond goes (c.args.test.now ∷ []) []) c.push.new.self)) (sym c.if-goes.true)
    (appended (PartsMoved c.args.order.now (before ++ c.args.test.now ∷ [])) _ _ _ c.push.ensures.ok
    (moved-behind c.args.order.now before _ _ _ h c.in_ok-moved.ensures))
