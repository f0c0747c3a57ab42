use Rattle.std.proofs.Common.{◌+◌, ◌++◌, drop, refl, ap, add_assoc}
use Rattle.bag_algebra.specs.declared.query.Aggr.{Aggr}
use Rattle.tree_texts.proofs.Pieces.{rest_next, rest_end}
use Rattle.query_texts.specs.clauses.Names.{own}
use Rattle.query_texts.specs.clauses.ClauseTexts.{argument_items, argument_text, item_text}
use Rattle.query_texts.proofs.clauses.groups.push_argument_items.Goals as goal

pub loop-place-preserved : goal.loop-place-preserved
loop-place-preserved c =
    let prefix = c.args.prefix.now in
    let from = c.args.from in
    let place = c.loop-place.place in
    let aggregate = c.index-aggregates-place.result in
    let part = λ (a : Aggr). item_text (own prefix) (from + place) (argument_text prefix a.argument) in
    rest_next (argument_items prefix (from + place)) (argument_items prefix (from + (place + 1))) part _ c.loop-place.draft _ c.args.aggregates.now place
    aggregate c.loop-place-test.true c.index-aggregates-place.is
    (ap (λ n. part aggregate ++ argument_items prefix n (drop (place + 1) c.args.aggregates.now)) (add_assoc from place 1))
    c.loop-place.invariant (rw c.in_ok-number.ensures at c.in_ok-push_argument_item.ensures)

pub returns : goal.returns
returns c =
    rest_end (argument_items c.args.prefix.now (c.args.from + c.loop-place.place)) _ c.loop-place.draft c.args.aggregates.now c.loop-place.place
    c.loop-place-test.false refl c.loop-place.invariant
