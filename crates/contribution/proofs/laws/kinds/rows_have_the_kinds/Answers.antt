use Rattle.contribution.proofs.QueryKinds.{bag_has-kinds, rows_have-width, lists_fit-places}
use Rattle.contribution.proofs.laws.kinds.rows_have_the_kinds.Goals as goal

pub returns-clause-kinds : goal.returns-clause-kinds
returns-clause-kinds c = bag_has-kinds

pub returns-clause-width : goal.returns-clause-width
returns-clause-width c = rows_have-width

pub returns-clause-lists : goal.returns-clause-lists
returns-clause-lists c = lists_fit-places
