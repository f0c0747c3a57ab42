use Rattle.tree_texts.proofs.Pieces.{range_next}
use Rattle.query_texts.specs.clauses.Keys.{unless_key}
use Rattle.query_texts.proofs.clauses.lists.all_keys.Goals as goal

pub loop-place-preserved : goal.loop-place-preserved
loop-place-preserved c =
    range_next (unless_key c.args.keys.now) c.args.keys.now c.loop-place.all c.push_unless_key.new.all c.loop-place.place c.loop-place.invariant
    c.in_ok-push_unless_key.ensures
