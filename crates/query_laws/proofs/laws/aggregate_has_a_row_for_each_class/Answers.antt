use Rattle.std.proofs.Common.{map, sym, subst}
use Rattle.bag_algebra.specs.built.Openings.{meaning-Aggregate}
use Rattle.bag_algebra.specs.Meaning.{meaning, arguments_on}
use Rattle.bag_algebra.specs.declared.query.Aggr.{Aggr}
use Rattle.query_laws.specs.Nodes.{IsGrouped}
use Rattle.query_laws.proofs.Grouped.{grouped-law}
use Rattle.query_laws.proofs.laws.aggregate_has_a_row_for_each_class.Goals as goal

pub returns : goal.returns
returns c input groups aggregates db env =
    let functions = map (λ (aggregate : Aggr). aggregate.function) aggregates in
    subst (IsGrouped groups functions (arguments_on aggregates env) (meaning input db env)) (sym (meaning-Aggregate db env input groups aggregates))
    (grouped-law groups functions (arguments_on aggregates env) (meaning input db env))
