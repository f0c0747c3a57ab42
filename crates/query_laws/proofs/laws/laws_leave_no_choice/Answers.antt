use Rattle.std.proofs.Common.{◌+◌, ◌-◌, min}
use Rattle.query_laws.specs.Nodes.{in_either, in_both, in_left_alone}
use Rattle.query_laws.proofs.Choice.{filter_once, project_once, join_once, apply_once, combined_once, distinct_once, group_once, limit_once, provenance_once}
use Rattle.query_laws.proofs.SameInputs.{filter_along, project_along, join_along, apply_along, combined_along, distinct_along, group_along, limit_along, provenance_along}
use Rattle.query_laws.proofs.laws.laws_leave_no_choice.Goals as goal

pub returns-clause-filter : goal.returns-clause-filter
returns-clause-filter c condition input other a b s p = filter_once condition other a b (filter_along condition input other a s p)

pub returns-clause-project : goal.returns-clause-project
returns-clause-project c items input other a b s p = project_once items other a b (project_along items input other a s p)

pub returns-clause-join : goal.returns-clause-join
returns-clause-join c kind condition left_width right_width left right other another a b s r p =
    join_once kind condition left_width right_width other another a b (join_along kind condition left_width right_width left right other another a s r p)

pub returns-clause-apply : goal.returns-clause-apply
returns-clause-apply c kind left_width right_width left other a b right another s under_each p =
    apply_once kind left_width right_width other a b another (apply_along left other s right another under_each kind left_width right_width a p)

pub returns-clause-union_of : goal.returns-clause-union_of
returns-clause-union_of c all left right other another a b s r p =
    combined_once ◌+◌ in_either all other another a b (combined_along ◌+◌ in_either all left right other another a s r p)

pub returns-clause-intersect : goal.returns-clause-intersect
returns-clause-intersect c all left right other another a b s r p =
    combined_once min in_both all other another a b (combined_along min in_both all left right other another a s r p)

pub returns-clause-except : goal.returns-clause-except
returns-clause-except c all left right other another a b s r p =
    combined_once ◌-◌ in_left_alone all other another a b (combined_along ◌-◌ in_left_alone all left right other another a s r p)

pub returns-clause-distinct : goal.returns-clause-distinct
returns-clause-distinct c input other a b s p = distinct_once other a b (distinct_along input other a s p)

pub returns-clause-aggregate : goal.returns-clause-aggregate
returns-clause-aggregate c groups functions arguments input other a b s p =
    group_once groups functions arguments other a b (group_along groups functions arguments input other a s p)

pub returns-clause-limit : goal.returns-clause-limit
returns-clause-limit c keys most input other a b s p = limit_once keys most other a b (limit_along keys most input other a s p)

pub returns-clause-provenance : goal.returns-clause-provenance
returns-clause-provenance c lists input other a b s p = provenance_once lists other a b (provenance_along lists input other a s p)
