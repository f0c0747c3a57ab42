use Rattle.tree_texts.specs.layout.Woven.{AddsBlanks}
use Rattle.tree_texts.proofs.layout.weaving.push_line.Given as goal

abbrev pub invariant-loop-step : goal.invariant-loop-step
invariant-loop-step l = AddsBlanks l.fn.laid l.laid
