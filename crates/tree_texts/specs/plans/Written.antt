-- The token that a sort of tokens is written as, where it leaves no choice.
use Rattle.std.specs.Prelude.{ℕ, pos, Bool, List, [], Option, Some, None, is_some, codes}
use Rattle.sql_lexer.specs.declared.token.Token.{Token}
use Rattle.sql_lexer.specs.declared.token.TokenKind.{TokenKind}
use Rattle.sql_lexer.specs.declared.token.TokenKind.TheVariants.{Word, Symbol}
use Rattle.sql_tree.specs.declared.grammar.sort.Sort.{Sort}
use Rattle.sql_tree.specs.declared.grammar.sort.Sort.TheVariants as s

-- a token that stands nowhere yet
abbrev pub token_of : TokenKind → List ℕ → Token
token_of kind spelled = record { kind = kind; start = 0; end = 0; spelled = spelled; number = pos 0 }

abbrev pub a_word : List ℕ → Option Token
a_word spelled = Some (token_of Word spelled)

abbrev pub a_symbol : List ℕ → Option Token
a_symbol spelled = Some (token_of Symbol spelled)

-- the words and the symbols of the grammar are each written in one way
abbrev pub written : Sort → Option Token
written s.Plain = None
written s.Quoted = None
written s.Digits = None
written s.Literal = None
written s.Other = None
written s.Opening = a_symbol (codes "(")
written s.Closing = a_symbol (codes ")")
written s.Comma = a_symbol (codes ",")
written s.Semicolon = a_symbol (codes ";")
written s.Dot = a_symbol (codes ".")
written s.Star = a_symbol (codes "*")
written s.Plus = a_symbol (codes "+")
written s.Minus = a_symbol (codes "-")
written s.Slash = a_symbol (codes "/")
written s.Percent = a_symbol (codes "%")
written s.Equal = a_symbol (codes "=")
written s.NotEqual = a_symbol (codes "<>")
written s.Less = a_symbol (codes "<")
written s.LessEqual = a_symbol (codes "<=")
written s.Greater = a_symbol (codes ">")
written s.GreaterEqual = a_symbol (codes ">=")
written s.All = a_word (codes "all")
written s.And = a_word (codes "and")
written s.Any = a_word (codes "any")
written s.As = a_word (codes "as")
written s.Asc = a_word (codes "asc")
written s.BaseRelation = a_word (codes "baserelation")
written s.Between = a_word (codes "between")
written s.By = a_word (codes "by")
written s.Case = a_word (codes "case")
written s.Cast = a_word (codes "cast")
written s.Create = a_word (codes "create")
written s.Cross = a_word (codes "cross")
written s.Delete = a_word (codes "delete")
written s.Desc = a_word (codes "desc")
written s.Distinct = a_word (codes "distinct")
written s.Drop = a_word (codes "drop")
written s.Else = a_word (codes "else")
written s.End = a_word (codes "end")
written s.Except = a_word (codes "except")
written s.Exists = a_word (codes "exists")
written s.False = a_word (codes "false")
written s.From = a_word (codes "from")
written s.Full = a_word (codes "full")
written s.Group = a_word (codes "group")
written s.Having = a_word (codes "having")
written s.In = a_word (codes "in")
written s.Inner = a_word (codes "inner")
written s.Insert = a_word (codes "insert")
written s.Intersect = a_word (codes "intersect")
written s.Into = a_word (codes "into")
written s.Is = a_word (codes "is")
written s.Join = a_word (codes "join")
written s.Left = a_word (codes "left")
written s.Like = a_word (codes "like")
written s.Limit = a_word (codes "limit")
written s.Not = a_word (codes "not")
written s.Null = a_word (codes "null")
written s.On = a_word (codes "on")
written s.Or = a_word (codes "or")
written s.Order = a_word (codes "order")
written s.Outer = a_word (codes "outer")
written s.Provenance = a_word (codes "provenance")
written s.Right = a_word (codes "right")
written s.Select = a_word (codes "select")
written s.Some = a_word (codes "some")
written s.Table = a_word (codes "table")
written s.Then = a_word (codes "then")
written s.True = a_word (codes "true")
written s.Union = a_word (codes "union")
written s.Unknown = a_word (codes "unknown")
written s.Values = a_word (codes "values")
written s.When = a_word (codes "when")
written s.Where = a_word (codes "where")
written s.View = a_word (codes "view")
written s.Copy = a_word (codes "copy")
written s.Header = a_word (codes "header")
written s.Explain = a_word (codes "explain")
written s.Rewrite = a_word (codes "rewrite")
written s.Show = a_word (codes "show")
written s.Fresh = a_word (codes "fresh")
written s.Impact = a_word (codes "impact")
written s.Of = a_word (codes "of")
written s.Lateral = a_word (codes "lateral")
written s.Integer = a_word (codes "integer")
written s.Int = a_word (codes "int")
written s.BigInt = a_word (codes "bigint")
written s.Text = a_word (codes "text")
written s.Boolean = a_word (codes "boolean")
written s.Count = a_word (codes "count")
written s.Sum = a_word (codes "sum")
written s.Min = a_word (codes "min")
written s.Max = a_word (codes "max")
written s.Coalesce = a_word (codes "coalesce")
written s.NullIf = a_word (codes "nullif")

abbrev pub is_written : Sort → Bool
is_written sort = is_some (written sort)

abbrev pub or_nothing : Option Token → Token
or_nothing None = token_of Symbol []
or_nothing (Some t) = t

-- the token of a sort that is written in one way
abbrev pub token_for : Sort → Token
token_for sort = or_nothing (written sort)
