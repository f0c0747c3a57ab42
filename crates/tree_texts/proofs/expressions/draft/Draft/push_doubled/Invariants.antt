use Rattle.std.proofs.Common.{◌≡◌, ◌++◌, take}
use Rattle.sql_lexer.specs.Bytes.{doubled}
use Rattle.tree_texts.proofs.expressions.draft.Draft.push_doubled.Given as goal

abbrev pub invariant-loop-byte : goal.invariant-loop-byte
invariant-loop-byte l = l.self ≡ l.fn.self ++ doubled l.quote (take l.byte-index l.inside)
