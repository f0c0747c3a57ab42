use Rattle.std.proofs.Common.{sym, subst}
use Rattle.bag_algebra.specs.built.Openings.{meaning-Join}
use Rattle.bag_algebra.specs.Children.{subs_denote}
use Rattle.bag_algebra.specs.Kinds.{width_of}
use Rattle.bag_algebra.specs.Meaning.{meaning, condition_on}
use Rattle.query_laws.specs.Nodes.{IsJoinOf}
use Rattle.query_laws.proofs.Joined.{joined}
use Rattle.query_laws.proofs.laws.join_multiplies_counts.Goals as goal

pub returns : goal.returns
returns c kind left right condition subs db env =
    let on_row = condition_on condition env (subs_denote subs db env) in
    subst (IsJoinOf kind on_row (width_of left) (width_of right) (meaning left db env) (meaning right db env)) (sym (meaning-Join db env kind left right condition subs))
    (joined kind on_row (width_of left) (width_of right) (meaning left db env) (meaning right db env))
