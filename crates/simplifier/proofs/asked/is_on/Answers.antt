use Rattle.simplifier.proofs.asked.is_on.Goals as goal

pub returns-then-same_table : goal.returns-then-same_table
returns-then-same_table c h = record { base = c.same_table.ensures c.if-same_table.true; asks = c.asks.ensures h }
