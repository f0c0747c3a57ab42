use Rattle.std.proofs.Common.{◌≡◌, ◌≤◌, ◌-◌, ◌||◌, nat_lt, take, length}
use Rattle.std.specs.Io.KnownBytes.{append_known}
use Rattle.perm_io.proofs.writing.write_all.Given as goal

abbrev pub invariant-loop-done : goal.invariant-loop-done
invariant-loop-done g l = record {
  within : l.done ≤ length l.bytes;
  written : (g.K.Sink.told l.out).written ≡ append_known (g.K.Sink.told l.fn.out).written (take l.done l.bytes);
  unflushed : (g.K.Sink.told l.out).unflushed ≡ ((g.K.Sink.told l.fn.out).unflushed || nat_lt 0 l.done);
  faults : (g.K.Sink.told l.out).faults ≡ (g.K.Sink.told l.fn.out).faults;
}

abbrev pub decreases-loop-done : goal.decreases-loop-done
decreases-loop-done g l = length l.bytes - l.done
