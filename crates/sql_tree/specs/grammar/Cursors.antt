-- What functions that read from a cursor promise: what reading by the grammar gives, unless memory runs out.
use Rattle.std.specs.Prelude.{◌≡◌, ℕ, Bool, List, [], ◌∷◌, Option, Some, None, Result, Ok, Err}
use Rattle.sql_lexer.specs.declared.token.Token.{Token}
use Rattle.sql_tree.specs.grammar.Descent.{Parsed, Taken, Stopped, read, offset_of, next_is, take_word, take_token}
use Rattle.sql_tree.specs.grammar.Grammar.{sql}
use Rattle.sql_tree.specs.grammar.Sorts.{sort_of}
use Rattle.sql_tree.specs.grammar.Symbols.{Symbol, Tree}
use Rattle.sql_tree.specs.grammar.Tables.{sql_tables}
use Rattle.sql_tree.specs.declared.grammar.unread.Unread.{Unread}
use Rattle.sql_tree.specs.declared.grammar.unread.Unread.TheVariants.{Unexpected, NoMemory}
use Rattle.sql_tree.specs.declared.grammar.sort.Sort.{Sort}

-- the sort of the next token
abbrev pub next_sort : List Token → Option Sort
next_sort [] = None
next_sort (t ∷ rest) = Some (sort_of t)

-- a symbol read from the front of some tokens
unfoldable pub reading : (n : Symbol) → List Token → Parsed Token (Tree n)
reading = read sql sql_tables

abbrev pub offset : List Token → ℕ
offset tokens = offset_of sql sql_tables tokens

abbrev pub next_offset : List Token → Option ℕ
next_offset [] = None
next_offset (t ∷ rest) = Some t.start

abbrev pub sees : List Sort → List Token → Bool
sees sorts tokens = next_is sql sql_tables sorts tokens

abbrev pub past : Sort → List Token → Parsed Token (Unit {0})
past sort tokens = take_word sql sql_tables sort tokens

abbrev pub one : List Sort → List Token → Parsed Token Token
one sorts tokens = take_token sql sql_tables sorts tokens

abbrev pub next : List Token → Parsed Token Token
next [] = Stopped []
next (t ∷ rest) = Taken t rest

-- what a function gives, as it is seen, is what reading gives; the cursor then stands behind it, or at the token that
-- can't stand
abbrev pub Sees : {X Y : Type 0} → (X → Y) → Result X Unread → Parsed Token Y → List Token → Type 0
Sees seen (Ok x) outcome rest = outcome ≡ Taken (seen x) rest
Sees seen (Err Unexpected) outcome rest = outcome ≡ Stopped rest
Sees seen (Err NoMemory) outcome rest = Unit {0}

abbrev pub Reads : {X : Type 0} → Result X Unread → Parsed Token X → List Token → Type 0
Reads result outcome rest = Sees (λ x. x) result outcome rest
