use Rattle.std.proofs.Common.{min, sym, subst}
use Rattle.bag_algebra.specs.built.Openings.{meaning-Intersect}
use Rattle.bag_algebra.specs.Meaning.{meaning}
use Rattle.query_laws.specs.Nodes.{IsCombined, in_both}
use Rattle.query_laws.proofs.Combined.{intersected}
use Rattle.query_laws.proofs.laws.intersect_has_the_smaller_count.Goals as goal

pub returns : goal.returns
returns c all left right db env =
    subst (IsCombined min in_both all (meaning left db env) (meaning right db env)) (sym (meaning-Intersect db env all left right))
    (intersected all (meaning left db env) (meaning right db env))
