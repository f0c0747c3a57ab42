-- How the reading of a script ends.
use Rattle.std.specs.Prelude.{ℕ, List, [], ◌∷◌, Result, Ok, Err}
use Rattle.sql_lexer.specs.declared.token.Token.{Token}
use Rattle.sql_parser.specs.Spells.{offset_in}
use Rattle.sql_tree.specs.declared.grammar.unread.Unread.{Unread}
use Rattle.sql_tree.specs.declared.grammar.unread.Unread.TheVariants as unread
use Rattle.sql_parser.specs.declared.syntax_error.SyntaxError.{SyntaxError}
use Rattle.sql_parser.specs.declared.syntax_error.SyntaxError.TheVariants.{Unexpected, NoMemory}
use Rattle.sql_tree.specs.declared.statement.Script.{Script}

-- a script has to reach the end of the tokens
abbrev pub ended : Result Script Unread → List Token → ℕ → Result Script SyntaxError
ended (Ok script) [] length = Ok script
ended (Ok script) (t ∷ rest) length = Err (Unexpected t.start)
ended (Err unread.Unexpected) rest length = Err (Unexpected (offset_in length rest))
ended (Err unread.NoMemory) rest length = Err NoMemory
