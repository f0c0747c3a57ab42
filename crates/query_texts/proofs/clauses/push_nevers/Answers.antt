use Rattle.std.proofs.Common.{refl}
use Rattle.tree_texts.proofs.Pieces.{rest_next, rest_end}
use Rattle.query_texts.specs.clauses.ClauseTexts.{never_text, nevers_text}
use Rattle.query_texts.proofs.clauses.push_nevers.Goals as goal

pub loop-sub-preserved : goal.loop-sub-preserved
loop-sub-preserved c =
    let kind = c.args.kind in
    rest_next (nevers_text kind) (nevers_text kind) (never_text kind) _ c.loop-sub.draft _ c.args.unused.now c.loop-sub.sub-index c.sub-item.result
    c.loop-sub-test.true c.sub-item.is refl c.loop-sub.invariant (rw c.as_slice.ensures at c.in_ok-push_never.ensures)

pub returns : goal.returns
returns c =
    rest_end (nevers_text c.args.kind) _ c.loop-sub.draft c.args.unused.now c.loop-sub.sub-index c.loop-sub-test.false refl c.loop-sub.invariant
