use Rattle.std.proofs.Common.{◌+◌, sym, subst}
use Rattle.bag_algebra.specs.built.Openings.{meaning-Union}
use Rattle.bag_algebra.specs.Meaning.{meaning}
use Rattle.query_laws.specs.Nodes.{IsCombined, in_either}
use Rattle.query_laws.proofs.Combined.{united}
use Rattle.query_laws.proofs.laws.union_adds_counts.Goals as goal

pub returns : goal.returns
returns c all left right db env =
    subst (IsCombined ◌+◌ in_either all (meaning left db env) (meaning right db env)) (sym (meaning-Union db env all left right))
    (united all (meaning left db env) (meaning right db env))
