-- A text and the tree that its tokens spell: as a relation, and as a function that computes the tree.
use Rattle.std.specs.Prelude.{ℕ, zero, suc, ◌-◌, nat_lt, Bool, cond, List, [], ◌∷◌, ◌++◌, length, drop, Option, Some, None}
use Rattle.std.specs.List.{list_all}
use Rattle.sql_lexer.specs.Bytes.{class_of}
use Rattle.sql_lexer.specs.Lexes.{Lexes}
use Rattle.sql_lexer.specs.Reading.{Front, Nothing, Ends, Refused, next, word, number, unquoted, comment_or_symbol}
use Rattle.sql_lexer.specs.declared.token.Token.{Token}
use Rattle.sql_tree.specs.grammar.Cursors.{reading}
use Rattle.sql_tree.specs.grammar.Descent.{Parsed, Taken, Stopped, read, reading_to, repeated}
use Rattle.sql_tree.specs.grammar.Grammar.{sql}
use Rattle.sql_tree.specs.grammar.Rules.{symbol, Spelled}
use Rattle.sql_tree.specs.grammar.Sorts.{word_sort, symbol_sort, same_sort}
use Rattle.sql_tree.specs.grammar.Symbols.{Symbol, Tree}

-- the text is split into tokens, and all of them spell the tree of a symbol
pub record IsTextOf (n : Symbol) (text : List ℕ) (tree : Tree n) : Type 0 where
  pub tokens : List Token
  pub lexes : Lexes text tokens
  pub spelled : Spelled sql (symbol n) tokens tree

-- ---- computed

-- tokens in front of others, if there are any
abbrev pub before : List Token → Option (List Token) → Option (List Token)
before found None = None
before found (Some others) = Some (found ++ others)

abbrev pub turned : (ℕ → List ℕ → Option (List Token)) → ℕ → List ℕ → Front → Option (List Token)
turned others at text Nothing = Some []
turned others at text (Ends end found) = before found (others end (drop (end - at) text))
turned others at text (Refused error) = None

-- the tokens of a text that stands at an offset, in so many turns
unfoldable pub split : ℕ → ℕ → List ℕ → Option (List Token)
split zero at text = None
split (suc turns) at text = turned (split turns) at text (next at text)

abbrev pub is_ascii : ℕ → Bool
is_ascii b = nat_lt b 128

-- the tokens of an ASCII text
unfoldable pub tokens_in : List ℕ → Option (List Token)
unfolding split next class_of word number unquoted comment_or_symbol
tokens_in text = cond (list_all is_ascii text) (split (suc (length text)) 0 text) None

abbrev pub whole : {X : Type 0} → Parsed Token X → Option X
whole (Taken x []) = Some x
whole (Taken x (t ∷ rest)) = None
whole (Stopped rest) = None

abbrev pub tree_of : (n : Symbol) → Option (List Token) → Option (Tree n)
tree_of n None = None
tree_of n (Some tokens) = whole (reading n tokens)

-- the tree of a symbol that is read from all of an ASCII text
unfoldable pub tree_in : (n : Symbol) → List ℕ → Option (Tree n)
unfolding tokens_in reading read reading_to repeated word_sort symbol_sort same_sort
tree_in n text = tree_of n (tokens_in text)
