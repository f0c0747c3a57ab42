-- What stands of a place's statement in front of the place.
use Rattle.std.specs.Prelude.{◌≡◌, ℕ, Bool, List, take, drop, reverse, find}
use Rattle.std.specs.Option.{option_map_or}
use Rattle.sql_lexer.specs.Lexes.{Lexes}
use Rattle.sql_lexer.specs.declared.token.Token.{Token}
use Rattle.sql_tree.specs.grammar.Sorts.{same_sort, sort_of}
use Rattle.sql_tree.specs.declared.grammar.sort.Sort.TheVariants.{Semicolon}

abbrev pub is_semicolon : Token → Bool
is_semicolon token = same_sort (sort_of token) Semicolon

-- behind the last semicolon of some tokens; 0 where there is none
abbrev pub statement_start : List Token → ℕ
statement_start tokens = option_map_or (λ token. token.end) (find is_semicolon (reverse tokens)) 0

-- the bytes of the script in front of the place have tokens, and behind the last semicolon among these stands the front
pub record IsFront (script : List ℕ) (at : ℕ) (front : List ℕ) : Type 0 where
  pub tokens : List Token
  pub lexes : Lexes (take at script) tokens
  pub behind : front ≡ drop (statement_start tokens) (take at script)

-- the bytes of the script in front of the place have no tokens
abbrev pub HasNoFront : List ℕ → ℕ → Type 0
HasNoFront script at = (tokens : List Token) → Lexes (take at script) tokens → ⊥
