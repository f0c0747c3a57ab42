use Rattle.std.proofs.Common.{◌≡◌, map, drop}
use Rattle.refusal_hints.specs.Advice.{advice_in, row_of}
use Rattle.refusal_hints.proofs.advice.advice_in.Given as goal

-- none of the rows so far is of the text
abbrev pub invariant-loop-row : goal.invariant-loop-row
invariant-loop-row l = advice_in (map row_of l.rows) l.text ≡ advice_in (map row_of (drop l.row-index l.rows)) l.text
