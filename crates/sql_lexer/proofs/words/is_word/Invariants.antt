use Rattle.std.proofs.Common.{◌≡◌, length}
use Rattle.std.specs.Prelude.{nat_eq}
use Rattle.std.specs.Cmp.Lexicographic.{pointwise}
use Rattle.std.specs.Str.{str_to_ascii_lowercase}
use Rattle.sql_lexer.proofs.words.is_word.Given as goal

abbrev pub invariant-loop-word : goal.invariant-loop-word
invariant-loop-word l = pointwise nat_eq l.lower (str_to_ascii_lowercase l.word) ≡ pointwise nat_eq l.initial.lower (str_to_ascii_lowercase l.initial.word)

abbrev pub decreases-loop-word : goal.decreases-loop-word
decreases-loop-word l = length l.word
