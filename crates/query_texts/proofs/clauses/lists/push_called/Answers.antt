use Rattle.std.proofs.Common.{◌+◌, refl}
use Rattle.tree_texts.proofs.Pieces.{rest_next, rest_end}
use Rattle.query_texts.specs.clauses.ClauseTexts.{called_item, called_items}
use Rattle.query_texts.proofs.clauses.lists.push_called.Goals as goal

pub loop-number-preserved : goal.loop-number-preserved
loop-number-preserved c =
    let number = c.loop-number.number in
    rest_next (called_items number) (called_items (number + 1)) (called_item number) _ c.loop-number.draft _ c.args.names.now number
    c.index-names-number.result c.loop-number-test.true c.index-names-number.is refl c.loop-number.invariant c.in_ok-push_called_item.ensures

pub returns : goal.returns
returns c =
    rest_end (called_items c.loop-number.number) _ c.loop-number.draft c.args.names.now c.loop-number.number c.loop-number-test.false refl
    c.loop-number.invariant
