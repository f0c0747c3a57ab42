use Rattle.std.proofs.Common.{Bor, List, ℕ, Some}
use Rattle.csv.specs.Records.{fields_of}
use Rattle.refusal_hints.proofs.Reading.{Gave}
use Rattle.refusal_hints.proofs.fields.record_of.Given as goal

abbrev pub invariant-loop-number : goal.invariant-loop-number
invariant-loop-number l = Gave (λ (s : Bor (List ℕ)). Some s.now) l.file l.reader l._number (fields_of l.fields)
