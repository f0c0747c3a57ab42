use Rattle.perm_values.specs.RowLaws.{row_cmp_total, value_ties_decided, row_ties_decided}
use Rattle.perm_values.specs.ValueLaws.{value_cmp_total}
use Rattle.perm_values.proofs.laws.order_is_total.Goals as goal

pub returns-clause-of_values : goal.returns-clause-of_values
returns-clause-of_values c = value_cmp_total

pub returns-clause-of_rows : goal.returns-clause-of_rows
returns-clause-of_rows c = row_cmp_total

pub returns-clause-value_ties : goal.returns-clause-value_ties
returns-clause-value_ties c = value_ties_decided

pub returns-clause-row_ties : goal.returns-clause-row_ties
returns-clause-row_ties c = row_ties_decided
