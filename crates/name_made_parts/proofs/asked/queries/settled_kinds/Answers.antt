use Rattle.name_made_parts.proofs.AskedListing.{kinds-more}
use Rattle.name_made_parts.proofs.asked.queries.settled_kinds.Goals as goal

pub loop-place-preserved : goal.loop-place-preserved
loop-place-preserved c =
    kinds-more c.args.columns.now c.loop-place.place c.index-columns-place.result c.args.wanted.now c.loop-place.kinds c.push.new.self c.settled_kind.result
    c.loop-place-test.true c.index-columns-place.is c.loop-place.invariant c.settled_kind.ensures c.in_ok-push.ensures.ok
