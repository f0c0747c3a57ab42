use Rattle.std.proofs.Common.{◌≡◌, length, map}
use Rattle.std.specs.Str.{str_to_ascii_lowercase}
use Rattle.sql_tree.specs.grammar.Sorts.{listed}
use Rattle.sql_tree.specs.declared.grammar.sort.Sort.TheVariants as s
use Rattle.sql_tree.proofs.grammar.sort.word_listed.Given as goal

abbrev pub invariant-loop-table : goal.invariant-loop-table
invariant-loop-table l =
    listed (map (λ entry. (entry.0.now, entry.1)) l.table) (str_to_ascii_lowercase l.word) s.Plain
    ≡ listed (map (λ entry. (entry.0.now, entry.1)) l.initial.table) (str_to_ascii_lowercase l.word) s.Plain

abbrev pub decreases-loop-table : goal.decreases-loop-table
decreases-loop-table l = length l.table
