use Rattle.tree_texts.proofs.Pieces.{range_next}
use Rattle.query_texts.specs.clauses.Frames.{called_in}
use Rattle.query_texts.specs.clauses.ClauseTexts.{column_item}
use Rattle.query_texts.proofs.clauses.lists.push_column_items.Goals as goal

pub loop-number-preserved : goal.loop-number-preserved
loop-number-preserved c =
    range_next (column_item c.args.frame.now.prefix.now (called_in c.args.frame.now)) c.args.draft.now c.loop-number.draft c.push_column_item.new.draft
    c.loop-number.number c.loop-number.invariant c.in_ok-push_column_item.ensures
