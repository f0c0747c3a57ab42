-- What an output that never fails keeps.
use Rattle.std.specs.Prelude.{ℕ, Bool, None}
use Rattle.perm_io.specs.Told.{SinkTold}
use Rattle.perm_io.specs.declared.never_sink.NeverSink.{NeverSink}

-- the number of bytes taken
abbrev pub taken_by : NeverSink → ℕ
taken_by sink = sink.taken

-- whether a byte was taken since the last flush
abbrev pub is_unflushed : NeverSink → Bool
is_unflushed sink = sink.unflushed

-- all of that in the words of every output
abbrev pub told_by : NeverSink → SinkTold
told_by sink = record { written = None; faults = 0; unflushed = is_unflushed sink }
