use Rattle.std.proofs.Common.{◌≡◌, length, map}
use Rattle.sql_tree.specs.grammar.Sorts.{listed}
use Rattle.sql_tree.specs.declared.grammar.sort.Sort.TheVariants as s
use Rattle.sql_tree.proofs.grammar.sort.symbol_listed.Given as goal

abbrev pub invariant-loop-table : goal.invariant-loop-table
invariant-loop-table l =
    listed (map (λ entry. (entry.0.now, entry.1)) l.table) l.symbol s.Other
    ≡ listed (map (λ entry. (entry.0.now, entry.1)) l.initial.table) l.symbol s.Other

abbrev pub decreases-loop-table : goal.decreases-loop-table
decreases-loop-table l = length l.table
