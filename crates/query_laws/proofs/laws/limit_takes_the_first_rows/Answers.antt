use Rattle.std.proofs.Common.{sym, subst}
use Rattle.bag_algebra.specs.built.Openings.{meaning-Limit}
use Rattle.bag_algebra.specs.Meaning.{meaning}
use Rattle.query_laws.specs.Nodes.{IsLimited}
use Rattle.query_laws.proofs.Limited.{limited}
use Rattle.query_laws.proofs.laws.limit_takes_the_first_rows.Goals as goal

pub returns : goal.returns
returns c input keys most db env =
    subst (IsLimited keys most (meaning input db env)) (sym (meaning-Limit db env input keys most)) (limited keys most (meaning input db env))
