use Rattle.std.proofs.Common.{sym, subst}
use Rattle.bag_algebra.specs.built.Openings.{meaning-Project}
use Rattle.bag_algebra.specs.Children.{subs_denote}
use Rattle.bag_algebra.specs.Meaning.{meaning, items_on}
use Rattle.query_laws.specs.Nodes.{IsProjected}
use Rattle.query_laws.proofs.Projected.{projected}
use Rattle.query_laws.proofs.laws.project_adds_counts.Goals as goal

pub returns : goal.returns
returns c input items subs db env =
    let on_row = items_on items env (subs_denote subs db env) in
    subst (IsProjected on_row (meaning input db env)) (sym (meaning-Project db env input items subs)) (projected on_row (meaning input db env))
