-- What an output into memory keeps.
use Rattle.std.specs.Prelude.{ℕ, ◌-◌, Bool, List, length, Some}
use Rattle.perm_io.specs.Told.{SinkTold}
use Rattle.perm_io.specs.declared.memory_sink.MemorySink.{MemorySink}

-- the bytes written
abbrev pub bytes_in : MemorySink → List ℕ
bytes_in sink = sink.bytes.items

-- how many more bytes have room
abbrev pub room_in : MemorySink → ℕ
room_in sink = sink.room - length (bytes_in sink)

-- whether a byte was written since the last flush that answered Ok
abbrev pub is_unflushed : MemorySink → Bool
is_unflushed sink = sink.unflushed

-- how often a call failed
abbrev pub faults_of : MemorySink → ℕ
faults_of sink = sink.failures.faults

-- the numbers of the calls that are to fail
abbrev pub failing_of : MemorySink → List ℕ
failing_of sink = sink.failures.listed.items

-- how many calls were made
abbrev pub calls_of : MemorySink → ℕ
calls_of sink = sink.failures.calls

-- all of that in the words of every output
abbrev pub told_by : MemorySink → SinkTold
told_by sink = record { written = Some (bytes_in sink); faults = faults_of sink; unflushed = is_unflushed sink }
