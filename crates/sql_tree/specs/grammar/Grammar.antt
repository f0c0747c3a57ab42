-- The grammar of the SQL (after ISO/IEC 9075-2), as rules, and the tree that each symbol spells. A function's word is a
-- name where no parenthesis follows it.
use Rattle.std.specs.Prelude.{List, [], ◌∷◌}
use Rattle.null_logic.specs.declared.operator.Operator.TheVariants.{And, Or}
use Rattle.sql_lexer.specs.declared.token.Token.{Token}
use Rattle.sql_tree.specs.grammar.Building as b
use Rattle.sql_tree.specs.grammar.Rules.{Rule, word, token, ◌then◌, ◌or◌, front, optional, many, placed, symbol, Value, Grammar}
use Rattle.sql_tree.specs.grammar.Sorts.{sort_of, same_sort, names}
use Rattle.sql_tree.specs.grammar.Symbols as n
use Rattle.sql_tree.specs.grammar.Symbols.{Symbol, Tree}
use Rattle.sql_tree.specs.declared.grammar.sort.Sort.{Sort}
use Rattle.sql_tree.specs.declared.grammar.sort.Sort.TheVariants as s
use Rattle.sql_tree.specs.declared.expression.ExprBody.TheVariants as e
use Rattle.sql_tree.specs.declared.statement.StatementBody.TheVariants as st

abbrev pub SqlRule : Type 0
SqlRule = Rule Sort Symbol

abbrev pub list_of : SqlRule → SqlRule
list_of r = r then many (word s.Comma then r)

abbrev pub in_parentheses : SqlRule → SqlRule
in_parentheses r = word s.Opening then r then word s.Closing

abbrev pub kinds : List Sort
kinds = s.Integer ∷ s.Int ∷ s.BigInt ∷ s.Text ∷ []

-- the names that are no function's word
abbrev pub plain_names : List Sort
plain_names =
    s.Plain ∷ s.Quoted ∷ s.View ∷ s.Copy ∷ s.Header ∷ s.Explain ∷ s.Rewrite ∷ s.Show ∷ s.Fresh ∷ s.Impact ∷ s.Of ∷
    s.Lateral ∷ s.Integer ∷ s.Int ∷ s.BigInt ∷ s.Text ∷ s.Boolean ∷ []

-- a query as an item of FROM: it has to have a name
abbrev pub derived : SqlRule
derived = word s.Opening then symbol n.Query then word s.Closing then optional (word s.As) then symbol n.NameOf

-- the word LATERAL is a name where no parenthesis follows it
abbrev pub lateral : SqlRule
lateral = word s.Lateral then placed derived

-- what stands behind LEFT JOIN, and behind CROSS JOIN
abbrev pub left_joined : SqlRule
left_joined = front (lateral then word s.On then word s.True) (symbol n.Source then word s.On then symbol n.Expr)

abbrev pub crossed : SqlRule
crossed = front lateral (symbol n.Source)

-- the rule of each symbol
abbrev pub body : Symbol → SqlRule
-- statements
body n.ScriptOf = optional (symbol n.StatementOf) then many (word s.Semicolon then optional (symbol n.StatementOf))
body n.StatementOf = placed (
    symbol n.Create or symbol n.Copy or symbol n.Insert or symbol n.Delete or symbol n.Drop or symbol n.Explain or symbol n.Show
    or symbol n.Impact or symbol n.Query)
body n.Create = word s.Create then (symbol n.CreateTable or symbol n.CreateView)
body n.CreateTable = word s.Table then symbol n.NameOf then (symbol n.Columns or (word s.As then symbol n.Query))
body n.CreateView = word s.View then symbol n.NameOf then word s.As then symbol n.Query
body n.Columns = in_parentheses (list_of (symbol n.Column))
body n.Column = symbol n.NameOf then symbol n.ColumnKind
body n.ColumnKind = token kinds
body n.Copy =
    word s.Copy then symbol n.NameOf then word s.From then token (s.Literal ∷ [])
    then optional (word s.Header) then optional (word s.Null then token (s.Literal ∷ []))
body n.Insert = word s.Insert then word s.Into then symbol n.NameOf then word s.Values then list_of (symbol n.Row)
body n.Row = placed (in_parentheses (symbol n.Exprs))
body n.Delete = word s.Delete then word s.From then symbol n.NameOf then symbol n.Condition
body n.Drop = word s.Drop then ((word s.Table then symbol n.NameOf) or (word s.View then symbol n.NameOf))
body n.Explain = word s.Explain then word s.Rewrite then symbol n.Query
body n.Show = word s.Show then word s.Fresh then symbol n.NameOf
body n.Impact =
    word s.Impact then word s.Delete then word s.From then symbol n.NameOf then symbol n.Condition then word s.Of then symbol n.Query
-- names
body n.NameOf = token names
body n.Names = list_of (symbol n.NameOf)
body n.Qualified = optional (word s.Dot then symbol n.NameOf)
body n.ColumnOf = symbol n.NameOf then symbol n.Qualified
-- queries
body n.Query = placed (symbol n.Operand then symbol n.QueryRest)
body n.Inner = placed (symbol n.CoreOf then symbol n.QueryRest)
body n.InParentheses = in_parentheses (symbol n.Inner)
body n.Operand = symbol n.CoreOf or in_parentheses (symbol n.Query)
body n.QueryRest = many (symbol n.IntersectStep) then many (symbol n.UnionStep) then symbol n.Order then symbol n.Limit
body n.Term = symbol n.Operand then many (symbol n.IntersectStep)
body n.IntersectStep = word s.Intersect then optional (word s.All) then placed (symbol n.Operand)
body n.UnionStep = token (s.Union ∷ s.Except ∷ []) then optional (word s.All) then placed (symbol n.Term)
body n.Order = optional (word s.Order then word s.By then list_of (symbol n.Key))
body n.Key = (token names or token (s.Digits ∷ [])) then optional (token (s.Asc ∷ s.Desc ∷ []))
body n.Limit = optional (word s.Limit then token (s.Digits ∷ []))
-- a SELECT
body n.CoreOf = placed (
    word s.Select then optional (placed (word s.Provenance)) then optional (word s.Distinct) then symbol n.Items
    then symbol n.Sources then symbol n.Condition then symbol n.Groups then symbol n.Having)
body n.Items = list_of (symbol n.Item)
body n.Item = token (s.Star ∷ []) or front (token names then word s.Dot then word s.Star) (symbol n.ItemValue)
body n.ItemValue = symbol n.Expr then symbol n.Alias
body n.Alias = optional ((word s.As then symbol n.NameOf) or symbol n.NameOf)
body n.Sources = optional (word s.From then list_of (symbol n.From))
body n.Condition = optional (word s.Where then symbol n.Expr)
body n.Groups = optional (word s.Group then word s.By then list_of (symbol n.ColumnOf))
body n.Having = optional (word s.Having then symbol n.Expr)
body n.From = symbol n.Source then many (symbol n.Join)
body n.Join =
    (symbol n.JoinKind then symbol n.Source then word s.On then symbol n.Expr) or symbol n.LeftJoin or symbol n.CrossJoin
body n.JoinKind =
    (optional (word s.Inner) then word s.Join)
    or (token (s.Right ∷ s.Full ∷ []) then optional (word s.Outer) then word s.Join)
body n.LeftJoin = word s.Left then optional (word s.Outer) then word s.Join then left_joined
body n.CrossJoin = word s.Cross then word s.Join then crossed
body n.Source = placed (symbol n.Aliased) then symbol n.Mark
body n.Aliased = (symbol n.NameOf then symbol n.Alias) or derived
body n.Mark = optional (word s.BaseRelation or (word s.Provenance then in_parentheses (symbol n.Names)))
-- expressions
body n.Expr = symbol n.Both then many (word s.Or then symbol n.Both)
body n.Exprs = list_of (symbol n.Expr)
body n.Both = symbol n.Negated then many (word s.And then symbol n.Negated)
body n.Negated = placed (many (word s.Not) then symbol n.Test)
body n.Test = symbol n.Compared then optional (symbol n.IsTest)
body n.IsTest =
    word s.Is then optional (word s.Not)
    then (token (s.Null ∷ []) or token (s.True ∷ s.False ∷ s.Unknown ∷ []) or (word s.Distinct then word s.From then symbol n.Compared))
body n.Compared = symbol n.Ranged then optional (symbol n.Comparison)
body n.Comparison =
    token (s.Equal ∷ s.NotEqual ∷ s.Less ∷ s.LessEqual ∷ s.Greater ∷ s.GreaterEqual ∷ [])
    then ((token (s.Any ∷ s.Some ∷ s.All ∷ []) then symbol n.InParentheses) or symbol n.Ranged)
body n.Ranged = symbol n.Sum then optional (optional (word s.Not) then symbol n.Range)
body n.Range =
    (word s.Like then symbol n.Sum)
    or (word s.Between then symbol n.Sum then word s.And then symbol n.Sum)
    or (word s.In then symbol n.Members)
body n.Members = in_parentheses (symbol n.Inner or symbol n.Exprs)
body n.Sum = symbol n.Product then many (symbol n.SumStep)
body n.SumStep = token (s.Plus ∷ s.Minus ∷ []) then symbol n.Product
body n.Product = symbol n.Sign then many (symbol n.ProductStep)
body n.ProductStep = token (s.Star ∷ s.Slash ∷ s.Percent ∷ []) then symbol n.Sign
body n.Sign = placed (many (word s.Minus) then symbol n.Primary)
body n.Primary = placed (
    symbol n.Literal or symbol n.Cast or symbol n.Case or symbol n.Exists or symbol n.Parentheses
    or symbol n.Count or symbol n.Aggregate or symbol n.Coalesce or symbol n.NullIf or symbol n.Reference)
body n.Literal = token (s.Digits ∷ s.Literal ∷ s.True ∷ s.False ∷ s.Null ∷ [])
body n.Cast = word s.Cast then in_parentheses (word s.Null then word s.As then symbol n.CastKind)
body n.CastKind = token (s.Boolean ∷ kinds)
body n.Case = word s.Case then symbol n.Arm then many (symbol n.Arm) then symbol n.Otherwise then word s.End
body n.Arm = word s.When then symbol n.Expr then word s.Then then symbol n.Expr
body n.Otherwise = optional (word s.Else then symbol n.Expr)
body n.Exists = word s.Exists then symbol n.InParentheses
body n.Parentheses = in_parentheses (symbol n.Inner or symbol n.Expr)
body n.Count = token (s.Count ∷ []) then (in_parentheses (symbol n.Counted) or symbol n.Qualified)
body n.Counted = token (s.Star ∷ []) or (optional (word s.Distinct) then symbol n.Expr)
body n.Aggregate = token (s.Sum ∷ s.Min ∷ s.Max ∷ []) then (in_parentheses (symbol n.Expr) or symbol n.Qualified)
body n.Coalesce = token (s.Coalesce ∷ []) then (in_parentheses (symbol n.Exprs) or symbol n.Qualified)
body n.NullIf =
    token (s.NullIf ∷ []) then (in_parentheses (symbol n.Expr then word s.Comma then symbol n.Expr) or symbol n.Qualified)
body n.Reference = token plain_names then symbol n.Qualified

-- what a rule gives
abbrev pub Given : SqlRule → Type 0
Given r = Value Token Tree r

-- the tree of what the rule of each symbol gives
abbrev pub build : (n : Symbol) → Given (body n) → Tree n
build n.ScriptOf = b.script
build n.StatementOf = λ v. b.statement (v.0, b.one_of (b.one_of (b.one_of (b.one_of (b.one_of (b.one_of (b.one_of (b.one_of st.Select))))))) v.1)
build n.Create = λ v. b.one_of (λ view. view) v.1
build n.CreateTable = b.create_table
build n.CreateView = b.create_view
build n.Columns = λ v. b.items v.1.0
build n.Column = b.column_def
build n.ColumnKind = b.kind_of
build n.Copy = b.copy
build n.Insert = b.insert
build n.Row = b.row
build n.Delete = b.delete
build n.Drop = b.drop_what
build n.Explain = λ v. st.Explain v.1.1
build n.Show = λ v. st.ShowFresh v.1.1
build n.Impact = b.impact
build n.NameOf = b.name_of
build n.Names = b.items
build n.Qualified = b.clause
build n.ColumnOf = λ v. b.reference v.0 v.1
build n.Query = λ v. v.1.1 v.0 v.1.0
build n.Inner = λ v. v.1.1 v.0 (b.core_operand v.1.0)
build n.InParentheses = λ v. v.1.0
build n.Operand = b.operand
build n.QueryRest = b.query_rest
build n.Term = b.set_chain
build n.IntersectStep = λ v. b.set_step b.intersect v.1.0 v.1.1
build n.UnionStep = λ v. b.set_step (b.set_word v.0) v.1.0 v.1.1
build n.Order = b.listed_behind
build n.Key = b.key
build n.Limit = b.limit
build n.CoreOf = b.core
build n.Items = b.items
build n.Item = b.item
build n.ItemValue = b.item_value
build n.Alias = b.alias
build n.Sources = b.sources
build n.Condition = b.clause
build n.Groups = b.listed_behind
build n.Having = b.clause
build n.From = b.from_tree
build n.Join = b.join_step
build n.JoinKind = b.join_word
build n.LeftJoin = λ v. b.left_joined v.1.1.1
build n.CrossJoin = λ v. b.crossed v.1.1
build n.Source = b.from_item
build n.Aliased = b.aliased
build n.Mark = b.scope_mark
build n.Expr = b.logic Or
build n.Exprs = b.items
build n.Both = b.logic And
build n.Negated = b.nots
build n.Test = b.continued
build n.IsTest = λ v. b.is_test v.1
build n.Compared = b.continued
build n.Comparison = b.comparison
build n.Ranged = b.ranged
build n.Range = b.range
build n.Members = b.members
build n.Sum = b.chain
build n.SumStep = b.step_of
build n.Product = b.chain
build n.ProductStep = b.step_of
build n.Sign = b.signs
build n.Primary = λ v. b.node v.0 (b.alternatives v.1)
build n.Literal = b.literal_of
build n.Cast = λ v. e.NullOf v.1.1.0.1.1
build n.CastKind = b.kind_of
build n.Case = λ v. e.Case (v.1.0 ∷ v.1.1.0) v.1.1.1.0
build n.Arm = b.arm
build n.Otherwise = b.clause
build n.Exists = λ v. e.Exists v.1
build n.Parentheses = b.in_parentheses
build n.Count = b.called (λ t arguments. arguments)
build n.Counted = b.counted
build n.Aggregate = b.called b.aggregate
build n.Coalesce = b.called (λ t list. e.Coalesce list)
build n.NullIf = b.called b.null_if
build n.Reference = b.column

abbrev pub sql : Grammar
sql = record {
  Token = Token;
  Sort = Sort;
  Symbol = Symbol;
  sort = sort_of;
  offset = λ t. t.start;
  same = same_sort;
  Tree = Tree;
  body = body;
  build = build;
}
