use Rattle.std.proofs.lemmas.Int.{quot-rem}
use Rattle.null_logic.proofs.laws.division_goes_towards_zero.Goals as goal

pub returns-clause-whole : goal.returns-clause-whole
returns-clause-whole c = quot-rem
