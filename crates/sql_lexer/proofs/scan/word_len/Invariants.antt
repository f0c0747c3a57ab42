use Rattle.std.proofs.Common.{◌≡◌, ◌+◌, drop}
use Rattle.std.specs.List.{prefix_len}
use Rattle.sql_lexer.specs.Bytes.{is_word}
use Rattle.sql_lexer.proofs.scan.word_len.Given as goal

-- the bytes so far all pass
abbrev pub invariant-loop-len : goal.invariant-loop-len
invariant-loop-len l = l.len + prefix_len is_word (drop l.len l.text) ≡ prefix_len is_word l.text
