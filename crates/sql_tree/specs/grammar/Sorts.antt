-- The sorts of tokens: what the grammar tells them apart by.
use Rattle.std.specs.Prelude.{ℕ, Bool, if◌then◌else◌, nat_eq, List, [], ◌∷◌, ◌++◌, codes}
use Rattle.std.specs.Cmp.Lexicographic.{pointwise}
use denote.Enum.Bare.{sameb}
use Rattle.sql_lexer.specs.declared.token.Token.{Token}
use Rattle.sql_lexer.specs.declared.token.TokenKind.{TokenKind}
use Rattle.sql_lexer.specs.declared.token.TokenKind.TheVariants as kind
use Rattle.sql_tree.specs.contracts.grammar.sort.Sort.{the_type}
use Rattle.sql_tree.specs.declared.grammar.sort.Sort.{Sort}
use Rattle.sql_tree.specs.declared.grammar.sort.Sort.TheVariants as s

-- the words that are never names
abbrev pub reserved : List (List ℕ × Sort)
reserved =
    (codes "all", s.All) ∷ (codes "and", s.And) ∷ (codes "any", s.Any) ∷ (codes "as", s.As) ∷ (codes "asc", s.Asc) ∷
    (codes "baserelation", s.BaseRelation) ∷ (codes "between", s.Between) ∷ (codes "by", s.By) ∷
    (codes "case", s.Case) ∷ (codes "cast", s.Cast) ∷ (codes "create", s.Create) ∷ (codes "cross", s.Cross) ∷
    (codes "delete", s.Delete) ∷ (codes "desc", s.Desc) ∷ (codes "distinct", s.Distinct) ∷ (codes "drop", s.Drop) ∷
    (codes "else", s.Else) ∷ (codes "end", s.End) ∷ (codes "except", s.Except) ∷ (codes "exists", s.Exists) ∷
    (codes "false", s.False) ∷ (codes "from", s.From) ∷ (codes "full", s.Full) ∷ (codes "group", s.Group) ∷
    (codes "having", s.Having) ∷ (codes "in", s.In) ∷ (codes "inner", s.Inner) ∷ (codes "insert", s.Insert) ∷
    (codes "intersect", s.Intersect) ∷ (codes "into", s.Into) ∷ (codes "is", s.Is) ∷ (codes "join", s.Join) ∷
    (codes "left", s.Left) ∷ (codes "like", s.Like) ∷ (codes "limit", s.Limit) ∷ (codes "not", s.Not) ∷
    (codes "null", s.Null) ∷ (codes "on", s.On) ∷ (codes "or", s.Or) ∷ (codes "order", s.Order) ∷
    (codes "outer", s.Outer) ∷ (codes "provenance", s.Provenance) ∷ (codes "right", s.Right) ∷
    (codes "select", s.Select) ∷ (codes "some", s.Some) ∷ (codes "table", s.Table) ∷ (codes "then", s.Then) ∷
    (codes "true", s.True) ∷ (codes "union", s.Union) ∷ (codes "unknown", s.Unknown) ∷ (codes "values", s.Values) ∷
    (codes "when", s.When) ∷ (codes "where", s.Where) ∷ []

-- the other words of the grammar, which are names wherever it doesn't ask for them
abbrev pub free : List (List ℕ × Sort)
free =
    (codes "view", s.View) ∷ (codes "copy", s.Copy) ∷ (codes "header", s.Header) ∷ (codes "explain", s.Explain) ∷
    (codes "rewrite", s.Rewrite) ∷ (codes "show", s.Show) ∷ (codes "fresh", s.Fresh) ∷ (codes "impact", s.Impact) ∷
    (codes "of", s.Of) ∷ (codes "lateral", s.Lateral) ∷ (codes "integer", s.Integer) ∷
    (codes "int", s.Int) ∷ (codes "bigint", s.BigInt) ∷ (codes "text", s.Text) ∷ (codes "boolean", s.Boolean) ∷
    (codes "count", s.Count) ∷ (codes "sum", s.Sum) ∷ (codes "min", s.Min) ∷ (codes "max", s.Max) ∷
    (codes "coalesce", s.Coalesce) ∷ (codes "nullif", s.NullIf) ∷ []

abbrev pub symbols : List (List ℕ × Sort)
symbols =
    (codes "(", s.Opening) ∷ (codes ")", s.Closing) ∷ (codes ",", s.Comma) ∷ (codes ";", s.Semicolon) ∷
    (codes ".", s.Dot) ∷ (codes "*", s.Star) ∷ (codes "+", s.Plus) ∷ (codes "-", s.Minus) ∷ (codes "/", s.Slash) ∷
    (codes "%", s.Percent) ∷ (codes "=", s.Equal) ∷ (codes "<>", s.NotEqual) ∷ (codes "<", s.Less) ∷
    (codes "<=", s.LessEqual) ∷ (codes ">", s.Greater) ∷ (codes ">=", s.GreaterEqual) ∷ []

abbrev pub listed : List (List ℕ × Sort) → List ℕ → Sort → Sort
listed [] spelled otherwise = otherwise
listed (entry ∷ rest) spelled otherwise = if pointwise nat_eq entry.0 spelled then entry.1 else listed rest spelled otherwise

unfoldable pub word_sort : List ℕ → Sort
word_sort word = listed (reserved ++ free) word s.Plain

unfoldable pub symbol_sort : List ℕ → Sort
symbol_sort symbol = listed symbols symbol s.Other

abbrev pub sort_by : TokenKind → List ℕ → Sort
sort_by kind.Word spelled = word_sort spelled
sort_by kind.Quoted spelled = s.Quoted
sort_by kind.Number spelled = s.Digits
sort_by kind.Text spelled = s.Literal
sort_by kind.Symbol spelled = symbol_sort spelled

abbrev pub sort_of : Token → Sort
sort_of token = sort_by token.kind token.spelled

unfoldable pub same_sort : Sort → Sort → Bool
same_sort = sameb the_type

-- what may be a name: a word that isn't reserved, or one in quotes
abbrev pub names : List Sort
names =
    s.Plain ∷ s.Quoted ∷ s.View ∷ s.Copy ∷ s.Header ∷ s.Explain ∷ s.Rewrite ∷ s.Show ∷
    s.Fresh ∷ s.Impact ∷ s.Of ∷ s.Lateral ∷ s.Integer ∷ s.Int ∷ s.BigInt ∷ s.Text ∷ s.Boolean ∷ s.Count ∷ s.Sum ∷ s.Min ∷ s.Max ∷ s.Coalesce ∷ s.NullIf ∷ []
