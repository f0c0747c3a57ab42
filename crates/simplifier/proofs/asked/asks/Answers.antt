use Rattle.simplifier.specs.Forced.{for_any}
use Rattle.simplifier.proofs.asked.asks.Goals as goal

pub returns-in-Some : goal.returns-in-Some
returns-in-Some c h = for_any c.in-Any.compare c.in-Some.tested c.in-Any.is c.in-Some.is (c.asks_any.ensures h)
