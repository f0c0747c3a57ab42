use Rattle.std.proofs.Common.{◌∙◌}
use Rattle.name_seen_cores.proofs.Grouped.{star-alone, table_star-alone, value-aggregates}
use Rattle.name_seen_cores.proofs.grouping.aggregates.Goals as goal

pub returns-in-Star : goal.returns-in-Star
returns-in-Star c = λ contents. star-alone contents c.args.item.now c.in-Star.at c.in-Star.is

pub returns-in-TableStar : goal.returns-in-TableStar
returns-in-TableStar c = λ contents. table_star-alone contents c.args.item.now c.in-TableStar.table c.in-TableStar.is

pub returns-in-Value : goal.returns-in-Value
returns-in-Value c = λ contents.
    c.has_aggregate.ensures contents ∙ value-aggregates contents c.args.item.now c.in-Value.expr c.in-Value.name c.in-Value.is
