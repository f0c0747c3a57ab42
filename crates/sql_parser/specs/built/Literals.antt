-- Literals that stand alone.
use Rattle.std.specs.Prelude.{List, [], ◌∷◌}
use Rattle.sql_tree.specs.declared.grammar.sort.Sort.{Sort}
use Rattle.sql_tree.specs.declared.grammar.sort.Sort.TheVariants as s

-- what ends an expression in a list or in parentheses
abbrev pub ends : List Sort
ends = s.Comma ∷ s.Closing ∷ []
