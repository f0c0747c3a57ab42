use Rattle.bag_algebra.specs.Means.{once_each, present}
use Rattle.query_laws.proofs.AggregateOrder.{aggregated-same}
use Rattle.query_laws.proofs.AggregateValues.{count-is, count_distinct-is, once_each-lists, none-sum, sum-fits, sum-passes, none-min, min-least, none-max, max-greatest}
use Rattle.query_laws.proofs.laws.aggregates_look_at_what_is_not_null.Goals as goal

pub returns-clause-count : goal.returns-clause-count
returns-clause-count c = count-is

pub returns-clause-count_distinct : goal.returns-clause-count_distinct
returns-clause-count_distinct c = count_distinct-is

pub returns-clause-distinct_values : goal.returns-clause-distinct_values
returns-clause-distinct_values c vs = (once_each (present vs), once_each-lists vs)

pub returns-clause-sum_of_none : goal.returns-clause-sum_of_none
returns-clause-sum_of_none c = none-sum

pub returns-clause-sum : goal.returns-clause-sum
returns-clause-sum c = sum-fits

pub returns-clause-sum_out_of_range : goal.returns-clause-sum_out_of_range
returns-clause-sum_out_of_range c = sum-passes

pub returns-clause-min_of_none : goal.returns-clause-min_of_none
returns-clause-min_of_none c = none-min

pub returns-clause-least : goal.returns-clause-least
returns-clause-least c = min-least

pub returns-clause-max_of_none : goal.returns-clause-max_of_none
returns-clause-max_of_none c = none-max

pub returns-clause-greatest : goal.returns-clause-greatest
returns-clause-greatest c = max-greatest

pub returns-clause-any_order : goal.returns-clause-any_order
returns-clause-any_order c = aggregated-same
