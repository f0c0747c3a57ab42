-- What begins a script.
use Rattle.std.specs.Prelude.{◌≡◌, ℕ, List, None}
use Rattle.sql_lexer.specs.Lexes.{Lexes}
use Rattle.sql_lexer.specs.declared.token.Token.{Token}
use Rattle.sql_parser.specs.Nesting.{too_deep}
use Rattle.sql_tree.specs.grammar.FirstWrong.{IsBegun}
use Rattle.sql_tree.specs.grammar.Grammar.{sql}
use Rattle.sql_tree.specs.grammar.Rules.{symbol}
use Rattle.sql_tree.specs.grammar.Symbols.{ScriptOf}

-- some script begins with the tokens of the bytes, which nest within bounds
pub record BeginsScript (bytes : List ℕ) : Type 0 where
  pub tokens : List Token
  pub lexes : Lexes bytes tokens
  pub shallow : too_deep tokens ≡ None
  pub begun : IsBegun sql (symbol ScriptOf) tokens
