-- Tokens that stand one behind the other, as one call goes past them.
use Rattle.std.specs.Prelude.{Bool, List, [], ◌∷◌}
use Rattle.sql_lexer.specs.declared.token.Token.{Token}
use Rattle.sql_tree.specs.grammar.Building.{Word}
use Rattle.sql_tree.specs.grammar.Cursors.{past}
use Rattle.sql_tree.specs.grammar.Descent.{Parsed, and_then, mapped, begins_with}
use Rattle.sql_tree.specs.grammar.Grammar.{sql}
use Rattle.sql_tree.specs.grammar.built.Pieces.{passes}
use Rattle.sql_tree.specs.grammar.Tables.{sql_tables}
use Rattle.sql_tree.specs.declared.grammar.sort.Sort.{Sort}
use Rattle.sql_tree.specs.declared.grammar.sort.Sort.TheVariants as s

-- two words
abbrev pub both : Sort → Sort → List Token → Parsed Token Word
both first second tokens = and_then (past first tokens) (λ _ rest. past second rest)

-- a word behind one that may stand before it
abbrev pub behind_option : Sort → Sort → List Token → Parsed Token Word
behind_option first second tokens = and_then (passes first tokens) (λ _ rest. past second rest)

-- a value that was read, and the token behind it
abbrev pub value_before : {X : Type 0} → Sort → X → List Token → Parsed Token X
value_before sort x tokens = mapped (λ _. x) (past sort tokens)

-- whether a dot and a star stand next
abbrev pub dot_and_star : List Token → Bool
dot_and_star tokens = begins_with sql sql_tables ((s.Dot ∷ []) ∷ (s.Star ∷ []) ∷ []) tokens
