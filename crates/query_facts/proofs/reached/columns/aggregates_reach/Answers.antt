use Rattle.std.proofs.Common.{◌≡◌, ℕ, refl, sym, ap, ◌∙◌, arith}
use Rattle.bag_algebra.specs.declared.query.Aggr.{Aggr}
use Rattle.query_facts.specs.reached.InUsize.{in_usize}
use Rattle.query_facts.specs.reached.Reach.{option_reach}
use Rattle.query_facts.proofs.Greatest.{one-more, all-done}
use Rattle.query_facts.proofs.reached.columns.aggregates_reach.Goals as goal
use Rattle.query_facts.proofs.reached.columns.aggregates_reach.Goals.{in-Some, in-None}

pub loop-aggregate-init : goal.loop-aggregate-init
loop-aggregate-init c = λ n h. refl

pub loop-aggregate-preserved : goal.loop-aggregate-preserved
loop-aggregate-preserved c =
    let argument : (n : ℕ) → c.args.level ≡ in_usize n → c.match-aggregate.argument ≡ in_usize (option_reach c.aggregate-item.result.argument n) = elim c.match-aggregate.branch [
      | in-Some w ↦ λ n h. w.argument-is ∙ w.expr_reach-argument.ensures n h ∙ ap (λ part. in_usize (option_reach part n)) (sym w.in-Some.is)
      | in-None w ↦ λ n h. w.argument-is ∙ ap (λ part. in_usize (option_reach part n)) (sym w.in-None.is)
    ] in
    one-more (λ n (aggregate : Aggr). option_reach aggregate.argument n) c.args.aggregates.now c.args.level c.loop-aggregate.aggregate-index c.loop-aggregate.reach c.loop-aggregate.invariant c.aggregate-item.result c.match-aggregate.argument c.further-reach.result
    c.loop-aggregate-test.true c.aggregate-item.is argument c.further-reach.ensures

pub returns : goal.returns
returns c = all-done (λ n (aggregate : Aggr). option_reach aggregate.argument n) c.args.aggregates.now c.args.level c.loop-aggregate.aggregate-index c.loop-aggregate.reach c.loop-aggregate.invariant (omega arith)
