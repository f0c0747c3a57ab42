use Rattle.sql_parser.proofs.Texts.{text-spelled, one_tree}
use Rattle.sql_parser.proofs.laws.computed_trees_are_spelled.Goals as goal

pub returns-clause-spelled : goal.returns-clause-spelled
returns-clause-spelled c = text-spelled

pub returns-clause-only : goal.returns-clause-only
returns-clause-only c = one_tree
