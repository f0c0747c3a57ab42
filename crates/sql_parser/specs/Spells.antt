-- What the tokens of a script spell, and the first token with which they begin none.
use Rattle.std.specs.Prelude.{◌≡◌, ℕ, List, [], ◌∷◌, Some, None, Result, Ok, Err}
use Rattle.sql_lexer.specs.declared.token.Token.{Token}
use Rattle.sql_tree.specs.grammar.FirstWrong.{IsFirstWrong}
use Rattle.sql_tree.specs.grammar.Grammar.{sql}
use Rattle.sql_parser.specs.Nesting.{too_deep}
use Rattle.sql_tree.specs.grammar.Rules.{symbol, Spelled}
use Rattle.sql_tree.specs.grammar.Symbols.{ScriptOf}
use Rattle.sql_parser.specs.declared.syntax_error.SyntaxError.{SyntaxError}
use Rattle.sql_parser.specs.declared.syntax_error.SyntaxError.TheVariants.{Unexpected, TooDeep, NoMemory}
use Rattle.sql_tree.specs.declared.statement.Script.{Script}

-- the tokens spell the script by the grammar
abbrev pub Spells : List Token → Script → Type 0
Spells tokens script = Spelled sql (symbol ScriptOf) tokens script

-- the offset of the first of some tokens, or else the end of the script
abbrev pub offset_in : ℕ → List Token → ℕ
offset_in length [] = length
offset_in length (t ∷ rest) = t.start

-- up to some tokens the script is begun, and with the first of them no script begins; or all tokens begin one and are none
pub record IsUnexpected (tokens : List Token) (length at : ℕ) : Type 0 where
  pub wrong : List Token
  pub first : IsFirstWrong sql (symbol ScriptOf) tokens wrong
  pub offset : at ≡ offset_in length wrong

-- the tree, or why there is none
abbrev pub Parses : List Token → ℕ → Result Script SyntaxError → Type 0
Parses tokens length (Ok script) = (too_deep tokens ≡ None) × Spells tokens script
Parses tokens length (Err (TooDeep at)) = too_deep tokens ≡ Some at
Parses tokens length (Err (Unexpected at)) = (too_deep tokens ≡ None) × IsUnexpected tokens length at
Parses tokens length (Err NoMemory) = too_deep tokens ≡ None
