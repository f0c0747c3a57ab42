-- The symbols of the grammar (its nonterminals), and what each stands for in the syntax tree.
use Rattle.std.specs.Prelude.{ℕ, ℤ, Bool, List, Option}
use Rattle.perm_values.specs.declared.kind.Kind.{Kind}
use Rattle.sql_tree.specs.declared.expression.ArmTree.{ArmTree}
use Rattle.sql_tree.specs.declared.expression.ExprBody.{ExprBody}
use Rattle.sql_tree.specs.declared.expression.ExprStep.{ExprStep}
use Rattle.sql_tree.specs.declared.expression.ExprTree.{ExprTree}
use Rattle.sql_tree.specs.declared.name.ColRef.{ColRef}
use Rattle.sql_tree.specs.declared.name.Name.{Name}
use Rattle.sql_tree.specs.declared.query.OrderTree.{OrderTree}
use Rattle.sql_tree.specs.declared.query.QueryTree.{QueryTree}
use Rattle.sql_tree.specs.declared.query.SelectItem.{SelectItem}
use Rattle.sql_tree.specs.declared.query.SetStep.{SetStep}
use Rattle.sql_tree.specs.declared.query.SetTree.{SetTree}
use Rattle.sql_tree.specs.declared.query.Core.{Core}
use Rattle.sql_tree.specs.declared.source.FromItem.{FromItem}
use Rattle.sql_tree.specs.declared.source.FromSource.{FromSource}
use Rattle.sql_tree.specs.declared.source.FromTree.{FromTree}
use Rattle.sql_tree.specs.declared.source.JoinStep.{JoinStep}
use Rattle.sql_tree.specs.declared.source.JoinWord.{JoinWord}
use Rattle.sql_tree.specs.declared.source.ScopeMark.{ScopeMark}
use Rattle.sql_tree.specs.declared.statement.ColumnDef.{ColumnDef}
use Rattle.sql_tree.specs.declared.statement.Script.{Script}
use Rattle.sql_tree.specs.declared.statement.Statement.{Statement}
use Rattle.sql_tree.specs.declared.statement.StatementBody.{StatementBody}
use Rattle.sql_tree.specs.declared.statement.ValuesRow.{ValuesRow}

pub data Symbol : Type 0 where
  -- a script and its statements
  ScriptOf : Symbol
  StatementOf : Symbol
  Create : Symbol
  CreateTable : Symbol
  CreateView : Symbol
  Columns : Symbol
  Column : Symbol
  ColumnKind : Symbol
  Copy : Symbol
  Insert : Symbol
  Row : Symbol
  Delete : Symbol
  Drop : Symbol
  Explain : Symbol
  Show : Symbol
  Impact : Symbol
  -- names
  NameOf : Symbol
  Names : Symbol
  Qualified : Symbol
  ColumnOf : Symbol
  -- queries; what stands behind an operand makes a query of it
  Query : Symbol
  Inner : Symbol
  InParentheses : Symbol
  Operand : Symbol
  QueryRest : Symbol
  Term : Symbol
  IntersectStep : Symbol
  UnionStep : Symbol
  Order : Symbol
  Key : Symbol
  Limit : Symbol
  -- a SELECT and its clauses
  CoreOf : Symbol
  Items : Symbol
  Item : Symbol
  ItemValue : Symbol
  Alias : Symbol
  Sources : Symbol
  Condition : Symbol
  Groups : Symbol
  Having : Symbol
  From : Symbol
  Join : Symbol
  JoinKind : Symbol
  LeftJoin : Symbol
  CrossJoin : Symbol
  Source : Symbol
  Aliased : Symbol
  Mark : Symbol
  -- expressions; what stands behind a part makes an expression of it
  Expr : Symbol
  Exprs : Symbol
  Both : Symbol
  Negated : Symbol
  Test : Symbol
  IsTest : Symbol
  Compared : Symbol
  Comparison : Symbol
  Ranged : Symbol
  Range : Symbol
  Members : Symbol
  Sum : Symbol
  SumStep : Symbol
  Product : Symbol
  ProductStep : Symbol
  Sign : Symbol
  Primary : Symbol
  -- the bodies of expressions
  Literal : Symbol
  Cast : Symbol
  CastKind : Symbol
  Case : Symbol
  Arm : Symbol
  Otherwise : Symbol
  Exists : Symbol
  Parentheses : Symbol
  Count : Symbol
  Counted : Symbol
  Aggregate : Symbol
  Coalesce : Symbol
  NullIf : Symbol
  Reference : Symbol

abbrev pub Tree : Symbol → Type 0
Tree ScriptOf = Script
Tree StatementOf = Statement
Tree Create = StatementBody
Tree CreateTable = StatementBody
Tree CreateView = StatementBody
Tree Columns = List ColumnDef
Tree Column = ColumnDef
Tree ColumnKind = Kind
Tree Copy = StatementBody
Tree Insert = StatementBody
Tree Row = ValuesRow
Tree Delete = StatementBody
Tree Drop = StatementBody
Tree Explain = StatementBody
Tree Show = StatementBody
Tree Impact = StatementBody
Tree NameOf = Name
Tree Names = List Name
Tree Qualified = Option Name
Tree ColumnOf = ColRef
Tree Query = QueryTree
Tree Inner = QueryTree
Tree InParentheses = QueryTree
Tree Operand = SetTree
Tree QueryRest = ℕ → SetTree → QueryTree
Tree Term = SetTree
Tree IntersectStep = SetStep
Tree UnionStep = SetStep
Tree Order = List OrderTree
Tree Key = OrderTree
Tree Limit = Option ℤ
Tree CoreOf = Core
Tree Items = List SelectItem
Tree Item = SelectItem
Tree ItemValue = SelectItem
Tree Alias = Option Name
Tree Sources = List FromTree
Tree Condition = Option ExprTree
Tree Groups = List ColRef
Tree Having = Option ExprTree
Tree From = FromTree
Tree Join = JoinStep
Tree JoinKind = JoinWord
Tree LeftJoin = JoinStep
Tree CrossJoin = JoinStep
Tree Source = FromItem
Tree Aliased = FromSource × Option Name
Tree Mark = ScopeMark
Tree Expr = ExprTree
Tree Exprs = List ExprTree
Tree Both = ExprTree
Tree Negated = ExprTree
Tree Test = ExprTree
Tree IsTest = ExprTree → ExprTree
Tree Compared = ExprTree
Tree Comparison = ExprTree → ExprTree
Tree Ranged = ExprTree
Tree Range = Bool → ExprTree → ExprTree
Tree Members = Bool → ExprTree → ExprTree
Tree Sum = ExprTree
Tree SumStep = ExprStep
Tree Product = ExprTree
Tree ProductStep = ExprStep
Tree Sign = ExprTree
Tree Primary = ExprTree
Tree Literal = ExprBody
Tree Cast = ExprBody
Tree CastKind = Kind
Tree Case = ExprBody
Tree Arm = ArmTree
Tree Otherwise = Option ExprTree
Tree Exists = ExprBody
Tree Parentheses = ExprBody
Tree Count = ExprBody
Tree Counted = ExprBody
Tree Aggregate = ExprBody
Tree Coalesce = ExprBody
Tree NullIf = ExprBody
Tree Reference = ExprBody

-- a symbol that is called before a token was taken has a lower rank
abbrev pub rank : Symbol → ℕ
rank ScriptOf = 4
rank StatementOf = 3
rank Create = 0
rank CreateTable = 0
rank CreateView = 0
rank Columns = 0
rank Column = 1
rank ColumnKind = 0
rank Copy = 0
rank Insert = 0
rank Row = 0
rank Delete = 0
rank Drop = 0
rank Explain = 0
rank Show = 0
rank Impact = 0
rank NameOf = 0
rank Names = 1
rank Qualified = 0
rank ColumnOf = 1
rank Query = 2
rank Inner = 2
rank InParentheses = 0
rank Operand = 1
rank QueryRest = 1
rank Term = 2
rank IntersectStep = 0
rank UnionStep = 0
rank Order = 0
rank Key = 0
rank Limit = 0
rank CoreOf = 0
rank Items = 13
rank Item = 12
rank ItemValue = 11
rank Alias = 1
rank Sources = 0
rank Condition = 0
rank Groups = 0
rank Having = 0
rank From = 4
rank Join = 1
rank JoinKind = 0
rank LeftJoin = 0
rank CrossJoin = 0
rank Source = 3
rank Aliased = 2
rank Mark = 0
rank Expr = 10
rank Exprs = 11
rank Both = 9
rank Negated = 8
rank Test = 7
rank IsTest = 0
rank Compared = 6
rank Comparison = 0
rank Ranged = 5
rank Range = 0
rank Members = 0
rank Sum = 4
rank SumStep = 0
rank Product = 3
rank ProductStep = 0
rank Sign = 2
rank Primary = 1
rank Literal = 0
rank Cast = 0
rank CastKind = 0
rank Case = 0
rank Arm = 0
rank Otherwise = 0
rank Exists = 0
rank Parentheses = 0
rank Count = 0
rank Counted = 11
rank Aggregate = 0
rank Coalesce = 0
rank NullIf = 0
rank Reference = 0
