use Rattle.std.proofs.Common.{length}
use Rattle.query_facts.proofs.AllPlaces.{another_place, so_many, in_order}
use Rattle.query_facts.proofs.monotone.are_all_places.Goals as goal

pub returns-then-places-at : goal.returns-then-places-at
returns-then-places-at c = another_place c.args.width c.args.places.now c.loop-at.at 0 c.loop-at-test.true c.if-places-at.true

pub returns : goal.returns
returns c =
    so_many c.args.width (length c.args.places.now) c.args.places.now
    (in_order c.args.places.now c.loop-at.at c.loop-at-test.false c.loop-at.invariant)
