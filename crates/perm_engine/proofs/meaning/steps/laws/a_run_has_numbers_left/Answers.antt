use Rattle.std.proofs.Common.{arith}
use Rattle.perm_catalog.specs.Changes.{nothing_held}
use Rattle.perm_engine.proofs.meaning.Firsts.{stops-late}
use Rattle.perm_engine.proofs.meaning.steps.laws.a_run_has_numbers_left.Goals as goal

pub returns : goal.returns
returns c = λ statements b short stops e. let l = stops-late (nothing_held 1) statements b e stops in omega (arith, short, l)
