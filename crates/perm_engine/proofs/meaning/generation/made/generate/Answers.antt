use Rattle.std.proofs.Common.{rules}
use Rattle.perm_engine.specs.meaning.generation.Generated.{generated}
use Rattle.perm_engine.proofs.meaning.generation.made.generate.Goals as goal

pub returns : goal.returns
unfolding generated
returns c = search rules
