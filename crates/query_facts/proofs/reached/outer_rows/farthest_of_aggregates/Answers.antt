use Rattle.std.proofs.Common.{◌≡◌, ℕ, sym, ap, ◌∙◌, arith}
use Rattle.bag_algebra.specs.Closed.{option_within}
use Rattle.bag_algebra.specs.declared.query.Aggr.{Aggr}
use Rattle.bag_algebra.proofs.Levels.{none-needed, from_none, one-more, all-done}
use Rattle.query_facts.proofs.reached.outer_rows.farthest_of_aggregates.Goals as goal
use Rattle.query_facts.proofs.reached.outer_rows.farthest_of_aggregates.Goals.{in-Some, in-None}
use Rattle.std.specs.Prelude.{nat_le}

pub loop-aggregate-init : goal.loop-aggregate-init
loop-aggregate-init c = from_none (λ (aggregate : Aggr) n. option_within aggregate.argument n) c.args.aggregates.now

pub loop-aggregate-preserved : goal.loop-aggregate-preserved
loop-aggregate-preserved c =
    let needed : (n : ℕ) → nat_le c.match-aggregate.read n ≡ option_within c.aggregate-item.result.argument n = elim c.match-aggregate.branch [
      | in-Some w ↦ λ n. ap (λ k. nat_le k n) w.read-is ∙ w.farthest-read.ensures n ∙ ap (λ part. option_within part n) (sym w.in-Some.is)
      | in-None w ↦ λ n. ap (λ k. nat_le k n) w.read-is ∙ none-needed n ∙ ap (λ part. option_within part n) (sym w.in-None.is)
    ] in
    one-more (λ (aggregate : Aggr) n. option_within aggregate.argument n) c.args.aggregates.now c.loop-aggregate.aggregate-index c.loop-aggregate.level c.loop-aggregate.invariant c.aggregate-item.result c.match-aggregate.read _
    c.loop-aggregate-test.true c.aggregate-item.is needed c.max-level.ensures

pub returns : goal.returns
returns c = all-done (λ (aggregate : Aggr) n. option_within aggregate.argument n) c.args.aggregates.now c.loop-aggregate.aggregate-index c.loop-aggregate.level c.loop-aggregate.invariant (omega arith)
