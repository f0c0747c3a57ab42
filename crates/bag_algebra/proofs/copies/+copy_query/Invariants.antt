use Rattle.std.proofs.Common.{◌≡◌, take}
use Rattle.bag_algebra.proofs.copies.+copy_query.Given as goal

abbrev pub invariant-copy_subs-loop-sub : goal.invariant-copy_subs-loop-sub
invariant-copy_subs-loop-sub l = l.copy ≡ take l.sub-index l.subs
