use Rattle.std.proofs.Common.{◌-◌, sym, subst}
use Rattle.bag_algebra.specs.built.Openings.{meaning-Except}
use Rattle.bag_algebra.specs.Meaning.{meaning}
use Rattle.query_laws.specs.Nodes.{IsCombined, in_left_alone}
use Rattle.query_laws.proofs.Combined.{excepted}
use Rattle.query_laws.proofs.laws.except_takes_counts_away.Goals as goal

pub returns : goal.returns
returns c all left right db env =
    subst (IsCombined ◌-◌ in_left_alone all (meaning left db env) (meaning right db env)) (sym (meaning-Except db env all left right))
    (excepted all (meaning left db env) (meaning right db env))
