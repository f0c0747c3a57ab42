-- Lists as they are read.
use Rattle.std.specs.Prelude.{List, [], ◌∷◌, length}
use Rattle.sql_lexer.specs.declared.token.Token.{Token}
use Rattle.sql_tree.specs.grammar.Building.{Word, items}
use Rattle.sql_tree.specs.grammar.Cursors.{past}
use Rattle.sql_tree.specs.grammar.Descent.{Parsed, and_then, mapped, repeated}
use Rattle.sql_tree.specs.grammar.Grammar.{sql}
use Rattle.sql_tree.specs.grammar.Tables.{sql_tables}
use Rattle.sql_tree.specs.declared.grammar.sort.Sort.{Sort}

-- as many as there are, each of which one of these sorts begins
abbrev pub all_of : {X : Type 0} → List Sort → (List Token → Parsed Token X) → List Token → Parsed Token (List X)
all_of sorts one tokens = repeated sql sql_tables sorts one (length tokens) tokens

abbrev pub behind : {X : Type 0} → Sort → (List Token → Parsed Token X) → List Token → Parsed Token (Word × X)
behind separator one tokens = and_then (past separator tokens) (λ word rest. mapped (λ x. (word, x)) (one rest))

abbrev pub others : {X : Type 0} → Sort → (List Token → Parsed Token X) → List Token → Parsed Token (List (Word × X))
others separator one tokens = all_of (separator ∷ []) (behind separator one) tokens

-- one and others, each behind a separator
abbrev pub listed : {X : Type 0} → Sort → (List Token → Parsed Token X) → List Token → Parsed Token (List X)
listed separator one tokens =
    mapped items (and_then (one tokens) (λ x rest. mapped (λ xs. (x, xs)) (others separator one rest)))

-- this one, which was read before, and others, each behind a separator
abbrev pub more_listed : {X : Type 0} → Sort → (List Token → Parsed Token X) → X → List Token → Parsed Token (List X)
more_listed separator one first tokens = mapped (λ xs. items (first, xs)) (others separator one tokens)
