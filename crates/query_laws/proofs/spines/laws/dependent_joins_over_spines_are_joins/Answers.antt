use Rattle.query_laws.proofs.SpineForms.{kinds-spine_join, plain-spine_join, tables-spine_join, formed-spine_join}
use Rattle.query_laws.proofs.SpineJoins.{rows-spine_join, bad-spine_join}
use Rattle.query_laws.proofs.spines.laws.dependent_joins_over_spines_are_joins.Goals as goal

pub returns-clause-rows : goal.returns-clause-rows
returns-clause-rows c kind left right spine outer db env is suits fitting = rows-spine_join kind left right spine outer db env is suits fitting

pub returns-clause-faults : goal.returns-clause-faults
returns-clause-faults c kind left right spine db env faults is e = bad-spine_join kind left right spine db env faults is e

pub returns-clause-kinds : goal.returns-clause-kinds
returns-clause-kinds c kind left right spine is = kinds-spine_join kind left right spine is

pub returns-clause-formed : goal.returns-clause-formed
returns-clause-formed c kind left right spine outer is f = formed-spine_join kind left right spine is outer f

pub returns-clause-plain : goal.returns-clause-plain
returns-clause-plain c kind left right spine is = plain-spine_join kind left right spine is

pub returns-clause-tables : goal.returns-clause-tables
returns-clause-tables c kind left right spine is = tables-spine_join kind left right spine is
