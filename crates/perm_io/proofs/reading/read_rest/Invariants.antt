use Rattle.std.proofs.Common.{◌≡◌, ◌≤◌, ◌-◌, length}
use Rattle.std.specs.Io.KnownBytes.{prepend_known}
use Rattle.perm_io.proofs.reading.read_rest.Given as goal

abbrev pub invariant-loop-bytes : goal.invariant-loop-bytes
invariant-loop-bytes g l = record {
  begun : (g.F.Files.told l.files).begun ≡ (g.F.Files.told l.fn.files).begun;
  held : (g.F.Files.told l.files).held ≡ (g.F.Files.told l.fn.files).held;
  absent : (g.F.Files.told l.files).absent ≡ (g.F.Files.told l.fn.files).absent;
  faults : (g.F.Files.told l.files).faults ≡ (g.F.Files.told l.fn.files).faults;
  taken : (g.F.Files.told l.files).taken ≡ length l.bytes;
  within : length l.bytes ≤ l.limit;
  moved : (g.F.Files.told l.fn.files).rest ≡ prepend_known l.bytes (g.F.Files.told l.files).rest;
}

abbrev pub decreases-loop-bytes : goal.decreases-loop-bytes
decreases-loop-bytes g l = l.limit - length l.bytes
