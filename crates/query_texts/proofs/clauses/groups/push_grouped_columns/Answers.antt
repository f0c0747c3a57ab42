use Rattle.tree_texts.proofs.Pieces.{range_next}
use Rattle.query_texts.specs.clauses.ClauseTexts.{grouped_column}
use Rattle.query_texts.proofs.clauses.groups.push_grouped_columns.Goals as goal

pub loop-number-preserved : goal.loop-number-preserved
loop-number-preserved c =
    range_next (grouped_column c.args.prefix.now) c.args.draft.now c.loop-number.draft c.push_grouped_column.new.draft c.loop-number.number
    c.loop-number.invariant c.in_ok-push_grouped_column.ensures
