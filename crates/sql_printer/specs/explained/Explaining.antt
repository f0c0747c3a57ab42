-- What is printed for an answer.
use Rattle.std.specs.Prelude.{◌≡◌}
use Rattle.bag_algebra.specs.Rewriting.{Stands}
use Rattle.bag_algebra.specs.declared.query.Answer.{Answer}

-- a plain query that stands for the answer's, with its names and its keys
pub record StandsFor (answer plain : Answer) : Type 0 where
  pub query : Stands answer.query plain.query
  pub names : plain.names ≡ answer.names
  pub keys : plain.keys ≡ answer.keys
