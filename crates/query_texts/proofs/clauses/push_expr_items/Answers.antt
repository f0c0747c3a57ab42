use Rattle.std.proofs.Common.{◌+◌, refl}
use Rattle.bag_algebra.specs.declared.expr.Item.{Item}
use Rattle.tree_texts.specs.expressions.ExpressionTexts.{expr_bytes}
use Rattle.tree_texts.proofs.Pieces.{rest_next, rest_end}
use Rattle.query_texts.specs.clauses.Frames.{called_in}
use Rattle.query_texts.specs.clauses.ClauseTexts.{expr_items, item_text}
use Rattle.query_texts.proofs.clauses.push_expr_items.Goals as goal

pub loop-place-preserved : goal.loop-place-preserved
loop-place-preserved c =
    let prefix = c.args.frame.now.prefix.now in
    let out = called_in c.args.frame.now in
    let subs = c.args.subs.now in
    let number = c.loop-place.place + 1 in
    let part = λ (item : Item). item_text out number (expr_bytes prefix subs item.expr) in
    rest_next (expr_items prefix out subs number) (expr_items prefix out subs (number + 1)) part _ c.loop-place.draft _ c.args.items.now c.loop-place.place
    c.index-items-place.result c.loop-place-test.true c.index-items-place.is refl c.loop-place.invariant c.in_ok-push_expr_item.ensures

pub returns : goal.returns
returns c =
    rest_end (expr_items c.args.frame.now.prefix.now (called_in c.args.frame.now) c.args.subs.now (c.loop-place.place + 1)) _ c.loop-place.draft
    c.args.items.now c.loop-place.place c.loop-place-test.false refl c.loop-place.invariant
