use Rattle.std.proofs.Common.{◌+◌, ◌++◌, drop, refl, ap, add_assoc}
use Rattle.bag_algebra.specs.declared.query.Aggr.{Aggr}
use Rattle.tree_texts.specs.expressions.Words.{reference_text}
use Rattle.tree_texts.proofs.Pieces.{rest_next, rest_end}
use Rattle.query_texts.specs.clauses.Frames.{called_in}
use Rattle.query_texts.specs.clauses.ClauseTexts.{aggregate_items, aggregated_text, item_text}
use Rattle.query_texts.proofs.clauses.groups.push_aggregate_items.Goals as goal

pub loop-place-preserved : goal.loop-place-preserved
loop-place-preserved c =
    let prefix = c.args.frame.now.prefix.now in
    let out = called_in c.args.frame.now in
    let from = c.args.from in
    let place = c.loop-place.place in
    let aggregate = c.index-aggregates-place.result in
    let part = λ (a : Aggr). item_text out (from + place) (aggregated_text a.function (reference_text prefix 0 (from + place + 1))) in
    rest_next (aggregate_items prefix out (from + place)) (aggregate_items prefix out (from + (place + 1))) part _ c.loop-place.draft _
    c.args.aggregates.now place aggregate c.loop-place-test.true c.index-aggregates-place.is
    (ap (λ n. part aggregate ++ aggregate_items prefix out n (drop (place + 1) c.args.aggregates.now)) (add_assoc from place 1))
    c.loop-place.invariant (rw c.in_ok-number.ensures at c.in_ok-push_aggregate_item.ensures)

pub returns : goal.returns
returns c =
    rest_end (aggregate_items c.args.frame.now.prefix.now (called_in c.args.frame.now) (c.args.from + c.loop-place.place)) _ c.loop-place.draft
    c.args.aggregates.now c.loop-place.place c.loop-place-test.false refl c.loop-place.invariant
