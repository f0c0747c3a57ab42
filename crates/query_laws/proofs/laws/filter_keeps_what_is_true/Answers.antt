use Rattle.std.proofs.Common.{sym, subst}
use Rattle.bag_algebra.specs.built.Openings.{meaning-Filter}
use Rattle.bag_algebra.specs.Children.{subs_denote}
use Rattle.bag_algebra.specs.Meaning.{meaning, condition_on}
use Rattle.query_laws.specs.Nodes.{IsFiltered}
use Rattle.query_laws.proofs.Filtered.{filtered}
use Rattle.query_laws.proofs.laws.filter_keeps_what_is_true.Goals as goal

pub returns : goal.returns
returns c input condition subs db env =
    let on_row = condition_on condition env (subs_denote subs db env) in
    subst (IsFiltered on_row (meaning input db env)) (sym (meaning-Filter db env input condition subs)) (filtered on_row (meaning input db env))
