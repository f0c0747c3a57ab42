use Rattle.std.proofs.Common.{take, drop}
use Rattle.tree_texts.specs.layout.Woven.{IsWoven}
use Rattle.tree_texts.proofs.layout.weaving.woven.Given as goal

abbrev pub invariant-loop-number : goal.invariant-loop-number
invariant-loop-number l = IsWoven l.text (take l.number l.tokens) (drop l.number l.tokens) l.laid
