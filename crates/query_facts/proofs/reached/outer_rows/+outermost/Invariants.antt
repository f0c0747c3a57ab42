use Rattle.std.proofs.Common.{suc, ◌&&◌}
use Rattle.bag_algebra.specs.Closed.{option_within, reads_within}
use Rattle.bag_algebra.specs.declared.query.Sublink.{Sublink}
use Rattle.bag_algebra.proofs.Levels.{SoFar}
use Rattle.query_facts.proofs.reached.outer_rows.+outermost.Given as goal

abbrev pub invariant-outermost_of_subs-loop-sub : goal.invariant-outermost_of_subs-loop-sub
invariant-outermost_of_subs-loop-sub l = SoFar (λ (sub : Sublink) n. option_within sub.tested n && reads_within sub.query (suc n)) l.subs l.sub-index l.needed
