use Rattle.perm_values.proofs.Keeping.{Keeps}
use Rattle.perm_values.proofs.list.keep_in_front.Given as goal

abbrev pub invariant-loop-i : goal.invariant-loop-i
invariant-loop-i g l = Keeps l.doomed l.fn.items l.items l.kept l.i
