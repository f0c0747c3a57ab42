use Rattle.std.proofs.Common.{◌≡◌, take}
use Rattle.simpler_laws.specs.built.Conjuncts.{all_conjuncts}
use Rattle.simpler_laws.proofs.conditions.+conjuncts.Given as goal

abbrev pub invariant-all_conjuncts-loop-part : goal.invariant-all_conjuncts-loop-part
invariant-all_conjuncts-loop-part l = l.found ≡ all_conjuncts (take l.part-index l.parts)
