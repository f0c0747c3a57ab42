use Rattle.std.proofs.Common.{ℕ, ◌+◌, refl}
use Rattle.tree_texts.specs.expressions.Words.{reference_text}
use Rattle.tree_texts.proofs.Pieces.{rest_at, rest_end}
use Rattle.query_texts.specs.clauses.Names.{own}
use Rattle.query_texts.specs.clauses.ClauseTexts.{group_items, item_text}
use Rattle.query_texts.proofs.clauses.groups.push_group_items.Goals as goal

pub loop-number-preserved : goal.loop-number-preserved
loop-number-preserved c =
    let prefix = c.args.prefix.now in
    let number = c.loop-number.number in
    let part = λ (place : ℕ). item_text (own prefix) number (reference_text prefix 0 (place + 1)) in
    rest_at (group_items prefix number) (group_items prefix (number + 1)) part _ c.loop-number.draft _ c.args.groups.now number 0
    c.loop-number-test.true refl c.loop-number.invariant c.in_ok-push_group_item.ensures

pub returns : goal.returns
returns c =
    rest_end (group_items c.args.prefix.now c.loop-number.number) _ c.loop-number.draft c.args.groups.now c.loop-number.number
    c.loop-number-test.false refl c.loop-number.invariant
