use Rattle.std.proofs.Common.{◌∙◌, ◌||◌, nat_lt, ap, arith}
use Rattle.std.proofs.lemmas.Grind.{common_steps}
use Rattle.perm_io.proofs.Known.{written_more, unflushed_more}
use Rattle.perm_io.proofs.writing.write_all.Goals as goal

pub loop-done-preserved : goal.loop-done-preserved
loop-done-preserved g c = record {
  within = grind (arith, common_steps);
  written = written_more _ _ _ c.args.bytes.now c.loop-done.done c.in_ok-done.field-0 c.loop-done.invariant.written c.in_ok-done.ensures.taken;
  unflushed = c.in_ok-done.ensures.unflushed ∙ ap (λ t. t || nat_lt 0 c.in_ok-done.field-0) c.loop-done.invariant.unflushed ∙ unflushed_more _ c.loop-done.done c.in_ok-done.field-0;
  faults = grind (arith, common_steps);
}
