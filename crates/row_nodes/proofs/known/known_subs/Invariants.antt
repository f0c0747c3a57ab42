use Rattle.std.proofs.Common.{List, take}
use Rattle.bag_algebra.specs.Bags.{Row}
use Rattle.bag_algebra.specs.Meaning.{Database}
use Rattle.row_nodes.specs.Known.{AllKnown, AllNew}
use Rattle.row_nodes.proofs.known.known_subs.Given as goal

abbrev pub invariant-loop-sub : goal.invariant-loop-sub
invariant-loop-sub l =
    ((db : Database) (env : List Row) → AllKnown db env (take l.sub-index l.subs) l.known.items) × AllNew l.is_hashed (take l.sub-index l.subs) l.known.items
