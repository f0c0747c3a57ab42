use Rattle.std.proofs.Common.{◌≡◌, ◌*◌, suc, drop}
use Rattle.bag_algebra.specs.built.Measures.{inputs_size, subs_size}
use Rattle.bag_algebra.specs.built.Scopes.{all_plain}
use Rattle.bag_algebra.specs.Inputs.{given}
use Rattle.bag_algebra.specs.Measures.{size_of}
use Rattle.bag_algebra.proofs.measures.scopes.+is_plain.Given as goal

abbrev pub decreases-is_plain : goal.decreases-is_plain
decreases-is_plain l = 2 * size_of l.query.now

abbrev pub decreases-inputs_plain : goal.decreases-inputs_plain
decreases-inputs_plain l = suc (2 * inputs_size (given l.inputs))

abbrev pub decreases-all_plain : goal.decreases-all_plain
decreases-all_plain l = suc (2 * subs_size l.subs.now)

-- the sublinks that are left decide
abbrev pub invariant-all_plain-loop-sub : goal.invariant-all_plain-loop-sub
invariant-all_plain-loop-sub l = all_plain l.subs ≡ all_plain (drop l.sub-index l.subs)
