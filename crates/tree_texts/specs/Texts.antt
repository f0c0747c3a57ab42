-- The text of a form: words in capital letters, names in quotes, and a blank behind each token.
use Rattle.std.specs.Prelude.{ℕ, ℤ, zero, suc, ◌+◌, List, [], ◌∷◌, ◌++◌, length, refl}
use Rattle.std.specs.List.{flat_map}
use Rattle.std.specs.Str.{str_to_ascii_uppercase}
use Rattle.sql_lexer.specs.Printing.{bytes_of}
use Rattle.sql_lexer.specs.declared.token.Token.{Token}
use Rattle.sql_lexer.specs.declared.token.TokenKind.{TokenKind}
use Rattle.sql_lexer.specs.declared.token.TokenKind.TheVariants.{Word, Quoted, Number, Text, Symbol}
use Rattle.sql_tree.specs.grammar.Rules.{symbol}
use Rattle.sql_tree.specs.grammar.Symbols as n
use Rattle.tree_texts.specs.plans.Blanks.{left_out}
use Rattle.tree_texts.specs.plans.Plans.{Plan, a_word, both, before, second, present, one_last, at_start, as_symbol, tokens_of}
use Rattle.tree_texts.specs.FormPlans as plan
use Rattle.tree_texts.specs.Forms.{ExprForm, QueryForm}
use Rattle.tree_texts.specs.Standing.{Places}

-- the bytes of a token, with a word in capital letters
abbrev pub shown_by : TokenKind → List ℕ → ℤ → List ℕ
shown_by Word spelled number = str_to_ascii_uppercase spelled
shown_by Quoted spelled number = bytes_of Quoted spelled number
shown_by Number spelled number = bytes_of Number spelled number
shown_by Text spelled number = bytes_of Text spelled number
shown_by Symbol spelled number = bytes_of Symbol spelled number

abbrev pub shown : Token → List ℕ
shown token = shown_by token.kind token.spelled token.number

abbrev pub shown_tokens : List Token → List ℕ
shown_tokens tokens = flat_map (λ token. shown token ++ 32 ∷ []) tokens

-- where they stand, if the first stands at a place
abbrev pub places_from : ℕ → List Token → Places
places_from at [] i = record { start = at; end = at }
places_from at (token ∷ tokens) zero = record { start = at; end = at + length (shown token) }
places_from at (token ∷ tokens) (suc i) = places_from (at + length (shown token) + 1) tokens i

abbrev pub expr_text : ExprForm → List ℕ
expr_text form = shown_tokens (tokens_of (plan.expr form))

abbrev pub query_text : QueryForm → List ℕ
query_text form = shown_tokens (tokens_of (plan.query form))

-- ---- a query as a script of one statement, which `;` ends

abbrev pub statement : Plan (symbol n.Query) → Plan (symbol n.StatementOf)
statement p = as_symbol (at_start (second (second (second (second (second (second (second (second p)))))))))

abbrev pub script : Plan (symbol n.Query) → Plan (symbol n.ScriptOf)
script p = as_symbol (both (present (statement p)) (one_last (before (a_word refl) left_out)))

abbrev pub script_text : QueryForm → List ℕ
script_text form = shown_tokens (tokens_of (script (plan.query form)))
