-- What a reader of the grammar knows of each symbol: whether nothing spells it, and which sorts begin it.
use Rattle.std.specs.Prelude.{Bool, true, false, List, [], ◌∷◌, ◌++◌}
use Rattle.sql_tree.specs.grammar.Descent.{Tables}
use Rattle.sql_tree.specs.grammar.Grammar.{sql, kinds, plain_names}
use Rattle.sql_tree.specs.grammar.Sorts.{names}
use Rattle.sql_tree.specs.grammar.Symbols as n
use Rattle.sql_tree.specs.grammar.Symbols.{Symbol, rank}
use Rattle.sql_tree.specs.declared.grammar.sort.Sort.{Sort}
use Rattle.sql_tree.specs.declared.grammar.sort.Sort.TheVariants as s

abbrev pub primary_begins : List Sort
primary_begins =
    (s.Digits ∷ s.Literal ∷ s.True ∷ s.False ∷ s.Null ∷ [])
    ++ (s.Cast ∷ s.Case ∷ s.Exists ∷ s.Opening ∷ s.Count ∷ s.Sum ∷ s.Min ∷ s.Max ∷ s.Coalesce ∷ s.NullIf ∷ plain_names)

abbrev pub sum_begins : List Sort
sum_begins = s.Minus ∷ primary_begins

abbrev pub expression_begins : List Sort
expression_begins = s.Not ∷ sum_begins

abbrev pub query_begins : List Sort
query_begins = s.Select ∷ s.Opening ∷ []

abbrev pub statement_begins : List Sort
statement_begins = s.Create ∷ s.Copy ∷ s.Insert ∷ s.Delete ∷ s.Drop ∷ s.Explain ∷ s.Show ∷ s.Impact ∷ query_begins

abbrev pub join_begins : List Sort
join_begins = s.Inner ∷ s.Join ∷ s.Right ∷ s.Full ∷ []

-- whether nothing spells it
abbrev pub empty : Symbol → Bool
empty n.ScriptOf = true
empty n.StatementOf = false
empty n.Create = false
empty n.CreateTable = false
empty n.CreateView = false
empty n.Columns = false
empty n.Column = false
empty n.ColumnKind = false
empty n.Copy = false
empty n.Insert = false
empty n.Row = false
empty n.Delete = false
empty n.Drop = false
empty n.Explain = false
empty n.Show = false
empty n.Impact = false
empty n.NameOf = false
empty n.Names = false
empty n.Qualified = true
empty n.ColumnOf = false
empty n.Query = false
empty n.Inner = false
empty n.InParentheses = false
empty n.Operand = false
empty n.QueryRest = true
empty n.Term = false
empty n.IntersectStep = false
empty n.UnionStep = false
empty n.Order = true
empty n.Key = false
empty n.Limit = true
empty n.CoreOf = false
empty n.Items = false
empty n.Item = false
empty n.ItemValue = false
empty n.Alias = true
empty n.Sources = true
empty n.Condition = true
empty n.Groups = true
empty n.Having = true
empty n.From = false
empty n.Join = false
empty n.JoinKind = false
empty n.LeftJoin = false
empty n.CrossJoin = false
empty n.Source = false
empty n.Aliased = false
empty n.Mark = true
empty n.Expr = false
empty n.Exprs = false
empty n.Both = false
empty n.Negated = false
empty n.Test = false
empty n.IsTest = false
empty n.Compared = false
empty n.Comparison = false
empty n.Ranged = false
empty n.Range = false
empty n.Members = false
empty n.Sum = false
empty n.SumStep = false
empty n.Product = false
empty n.ProductStep = false
empty n.Sign = false
empty n.Primary = false
empty n.Literal = false
empty n.Cast = false
empty n.CastKind = false
empty n.Case = false
empty n.Arm = false
empty n.Otherwise = true
empty n.Exists = false
empty n.Parentheses = false
empty n.Count = false
empty n.Counted = false
empty n.Aggregate = false
empty n.Coalesce = false
empty n.NullIf = false
empty n.Reference = false

-- the sorts that begin it
abbrev pub begins : Symbol → List Sort
begins n.ScriptOf = statement_begins ++ (s.Semicolon ∷ [])
begins n.StatementOf = statement_begins
begins n.Create = s.Create ∷ []
begins n.CreateTable = s.Table ∷ []
begins n.CreateView = s.View ∷ []
begins n.Columns = s.Opening ∷ []
begins n.Column = names
begins n.ColumnKind = kinds
begins n.Copy = s.Copy ∷ []
begins n.Insert = s.Insert ∷ []
begins n.Row = s.Opening ∷ []
begins n.Delete = s.Delete ∷ []
begins n.Drop = s.Drop ∷ []
begins n.Explain = s.Explain ∷ []
begins n.Show = s.Show ∷ []
begins n.Impact = s.Impact ∷ []
begins n.NameOf = names
begins n.Names = names
begins n.Qualified = s.Dot ∷ []
begins n.ColumnOf = names
begins n.Query = query_begins
begins n.Inner = s.Select ∷ []
begins n.InParentheses = s.Opening ∷ []
begins n.Operand = query_begins
begins n.QueryRest = s.Intersect ∷ s.Union ∷ s.Except ∷ s.Order ∷ s.Limit ∷ []
begins n.Term = query_begins
begins n.IntersectStep = s.Intersect ∷ []
begins n.UnionStep = s.Union ∷ s.Except ∷ []
begins n.Order = s.Order ∷ []
begins n.Key = names ++ (s.Digits ∷ [])
begins n.Limit = s.Limit ∷ []
begins n.CoreOf = s.Select ∷ []
begins n.Items = s.Star ∷ names ++ expression_begins
begins n.Item = s.Star ∷ names ++ expression_begins
begins n.ItemValue = expression_begins
begins n.Alias = s.As ∷ names
begins n.Sources = s.From ∷ []
begins n.Condition = s.Where ∷ []
begins n.Groups = s.Group ∷ []
begins n.Having = s.Having ∷ []
begins n.From = names ++ (s.Opening ∷ [])
begins n.Join = join_begins ++ (s.Left ∷ s.Cross ∷ [])
begins n.JoinKind = join_begins
begins n.LeftJoin = s.Left ∷ []
begins n.CrossJoin = s.Cross ∷ []
begins n.Source = names ++ (s.Opening ∷ [])
begins n.Aliased = names ++ (s.Opening ∷ [])
begins n.Mark = s.BaseRelation ∷ s.Provenance ∷ []
begins n.Expr = expression_begins
begins n.Exprs = expression_begins
begins n.Both = expression_begins
begins n.Negated = expression_begins
begins n.Test = sum_begins
begins n.IsTest = s.Is ∷ []
begins n.Compared = sum_begins
begins n.Comparison = s.Equal ∷ s.NotEqual ∷ s.Less ∷ s.LessEqual ∷ s.Greater ∷ s.GreaterEqual ∷ []
begins n.Ranged = sum_begins
begins n.Range = s.Like ∷ s.Between ∷ s.In ∷ []
begins n.Members = s.Opening ∷ []
begins n.Sum = sum_begins
begins n.SumStep = s.Plus ∷ s.Minus ∷ []
begins n.Product = sum_begins
begins n.ProductStep = s.Star ∷ s.Slash ∷ s.Percent ∷ []
begins n.Sign = sum_begins
begins n.Primary = primary_begins
begins n.Literal = s.Digits ∷ s.Literal ∷ s.True ∷ s.False ∷ s.Null ∷ []
begins n.Cast = s.Cast ∷ []
begins n.CastKind = s.Boolean ∷ kinds
begins n.Case = s.Case ∷ []
begins n.Arm = s.When ∷ []
begins n.Otherwise = s.Else ∷ []
begins n.Exists = s.Exists ∷ []
begins n.Parentheses = s.Opening ∷ []
begins n.Count = s.Count ∷ []
begins n.Counted = s.Star ∷ s.Distinct ∷ expression_begins
begins n.Aggregate = s.Sum ∷ s.Min ∷ s.Max ∷ []
begins n.Coalesce = s.Coalesce ∷ []
begins n.NullIf = s.NullIf ∷ []
begins n.Reference = plain_names

abbrev pub sql_tables : Tables sql
sql_tables = record { empty = empty; begins = begins; rank = rank; ranks = 14 }
