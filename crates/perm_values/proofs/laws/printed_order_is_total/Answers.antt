use Rattle.perm_values.specs.RowLaws.{printed_total, printed_ties}
use Rattle.perm_values.proofs.laws.printed_order_is_total.Goals as goal

pub returns-clause-total : goal.returns-clause-total
returns-clause-total c = printed_total

pub returns-clause-ties : goal.returns-clause-ties
returns-clause-ties c = printed_ties
