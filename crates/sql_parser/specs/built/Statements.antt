-- Pieces of statements that have functions of their own.
use Rattle.std.specs.Prelude.{ℕ, cond, List, [], ◌∷◌, Option, Some, None}
use Rattle.std.specs.Borrow.{Bor}
use Rattle.sql_lexer.specs.declared.token.Token.{Token}
use Rattle.sql_tree.specs.grammar.Building.{Word, present}
use Rattle.sql_tree.specs.grammar.Cursors.{reading, sees}
use Rattle.sql_tree.specs.grammar.Descent.{Parsed, mapped}
use Rattle.sql_tree.specs.grammar.Lists.{listed}
use Rattle.sql_tree.specs.grammar.built.Pieces.{by}
use Rattle.sql_tree.specs.grammar.Rules.{word, token, symbol, ◌then◌, optional}
use Rattle.sql_tree.specs.grammar.Symbols as n
use Rattle.sql_tree.specs.grammar.Tables.{begins}
use Rattle.sql_tree.specs.declared.grammar.sort.Sort.TheVariants as s
use Rattle.sql_tree.specs.declared.statement.Statement.{Statement}
use Rattle.sql_tree.specs.declared.statement.StatementBody.{StatementBody}
use Rattle.sql_tree.specs.declared.statement.StatementBody.TheVariants.{Select}

-- the field that stands for NULL; none is the empty one
abbrev pub null_field_of : Option (Bor Token) → List ℕ
null_field_of None = []
null_field_of (Some t) = t.now.spelled

abbrev pub null_seen : Option (Bor Token) → Option (Word × Token)
null_seen None = None
null_seen (Some t) = Some (tt, t.now)

abbrev pub null : List Token → Parsed Token (Option (Word × Token))
null tokens = by (optional (word s.Null then token (s.Literal ∷ []))) tokens

-- what a statement says, by its first token
abbrev pub statement_body : List Token → Parsed Token StatementBody
statement_body tokens =
    cond (sees (begins n.Create) tokens) (reading n.Create tokens)
    (cond (sees (begins n.Copy) tokens) (reading n.Copy tokens)
    (cond (sees (begins n.Insert) tokens) (reading n.Insert tokens)
    (cond (sees (begins n.Delete) tokens) (reading n.Delete tokens)
    (cond (sees (begins n.Drop) tokens) (reading n.Drop tokens)
    (cond (sees (begins n.Explain) tokens) (reading n.Explain tokens)
    (cond (sees (begins n.Show) tokens) (reading n.Show tokens)
    (cond (sees (begins n.Impact) tokens) (reading n.Impact tokens)
    (mapped Select (reading n.Query tokens)))))))))

abbrev pub optional_statement : List Token → Parsed Token (Option Statement)
optional_statement tokens = by (optional (symbol n.StatementOf)) tokens

-- the statements that are there, with semicolons between them
abbrev pub statements : List Token → Parsed Token (List Statement)
statements tokens = mapped present (listed s.Semicolon optional_statement tokens)
