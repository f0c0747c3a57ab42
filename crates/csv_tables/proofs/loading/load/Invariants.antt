use Rattle.std.proofs.Common.{Bor, List, ℕ, Some}
use Rattle.csv_tables.proofs.InLoop.{InLoop}
use Rattle.csv_tables.proofs.loading.load.Given as goal

abbrev pub invariant-loop-entry : goal.invariant-loop-entry
invariant-loop-entry l = InLoop (λ (s : Bor (List ℕ)). Some s.now) l.fn.null_field l.fn.kinds l.fn.header l.fn.bytes l.entry-iterator.rdr l.entry-iterator.left l.skip l.rows
