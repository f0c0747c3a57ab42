use Rattle.std.proofs.Common.{◌≡◌, true, take}
use Rattle.query_laws.specs.Standing.{SubsStand}
use Rattle.folded_literals.specs.built.Simple.{all_simple}
use Rattle.simplifier.proofs.folding.+folded_query.Given as goal

abbrev pub invariant-folded_subs-loop-sub : goal.invariant-folded_subs-loop-sub
invariant-folded_subs-loop-sub l = record { stand : SubsStand (take l.sub-index l.subs) l.others; simple : all_simple l.others ≡ true }
