use Rattle.std.proofs.Common.{ℕ, ◌+◌, List, refl}
use Rattle.tree_texts.specs.expressions.Words.{name_text}
use Rattle.tree_texts.proofs.Pieces.{rest_next, rest_end}
use Rattle.query_texts.specs.clauses.Frames.{called_in}
use Rattle.query_texts.specs.clauses.ClauseTexts.{item_text, named_items}
use Rattle.query_texts.proofs.clauses.lists.push_named_items.Goals as goal

pub loop-number-preserved : goal.loop-number-preserved
loop-number-preserved c =
    let out = called_in c.args.frame.now in
    let number = c.loop-number.number in
    let part = λ (name : List ℕ). item_text out number (name_text name) in
    rest_next (named_items out number) (named_items out (number + 1)) part _ c.loop-number.draft _ c.args.names.now number
    c.index-names-number.result c.loop-number-test.true c.index-names-number.is refl c.loop-number.invariant c.in_ok-push_named_item.ensures

pub returns : goal.returns
returns c =
    rest_end (named_items (called_in c.args.frame.now) c.loop-number.number) _ c.loop-number.draft c.args.names.now c.loop-number.number
    c.loop-number-test.false refl c.loop-number.invariant
