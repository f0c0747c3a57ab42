use Rattle.std.proofs.Common.{◌≡◌, ◌++◌, map, take}
use Rattle.std.specs.List.{join_with_byte}
use Rattle.csv_tables.specs.AnswerText.{comma, field_text}
use Rattle.csv_tables.proofs.answer.Draft.push_row.Given as goal

abbrev pub invariant-loop-place : goal.invariant-loop-place
invariant-loop-place l = l.self ≡ l.fn.self ++ join_with_byte comma (map field_text (take l.place l.row))
