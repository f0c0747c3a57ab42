use Rattle.std.proofs.Common.{◌∷◌, sym, subst}
use Rattle.bag_algebra.specs.built.Openings.{meaning-Apply}
use Rattle.bag_algebra.specs.Kinds.{width_of}
use Rattle.bag_algebra.specs.Meaning.{meaning}
use Rattle.query_laws.specs.Nodes.{IsApplied}
use Rattle.query_laws.proofs.Applied.{applied}
use Rattle.query_laws.proofs.laws.dependent_join_multiplies_counts.Goals as goal

pub returns : goal.returns
returns c kind left right db env =
    subst (IsApplied kind (width_of left) (width_of right) (meaning left db env) (λ u. meaning right db (u ∷ env))) (sym (meaning-Apply db env kind left right))
    (applied kind (width_of right) (width_of left) (meaning left db env) (λ u. meaning right db (u ∷ env)))
