use Rattle.std.proofs.Common.{◌≡◌, ◌++◌, take}
use Rattle.std.specs.List.{flat_map}
use Rattle.csv_tables.specs.AnswerText.{row_line}
use Rattle.csv_tables.proofs.answer.Draft.push_rows.Given as goal

abbrev pub invariant-loop-row : goal.invariant-loop-row
invariant-loop-row l = l.self ≡ l.fn.self ++ flat_map row_line (take l.row-index l.rows)
