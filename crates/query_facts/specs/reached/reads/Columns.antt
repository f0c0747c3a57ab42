-- Which columns of which rows are read. A row is named by its level: for an expression level 0 is the row of its own node and
-- level k the kth outer row; for a query level 0 is its nearest outer row. The queries of a node's sublinks have the node's row
-- as their nearest outer row, and the right side of a dependent join a left row.
use Rattle.std.specs.Prelude.{◌≡◌, ℕ, zero, suc, ◌==◌, Bool, ◌&&◌, List, [], ◌∷◌, ◌++◌, Option, Some, None, All}
use Rattle.std.specs.List.{flat_map, list_any}
use Rattle.perm_values.specs.Rows.{value_at}
use Rattle.bag_algebra.specs.Bags.{Row}
use Rattle.bag_algebra.specs.Expressions.{row_at}
use Rattle.bag_algebra.specs.built.Patterns.{OpOf, ChainOf, CaseOf, IsNullOf, IsTruthOf, SameOf, BaseOf, FilterOf, ProjectOf, JoinOf, ApplyOf, UnionOf, IntersectOf, ExceptOf, DistinctOf, AggregateOf, LimitOf, ProvOf}
use Rattle.bag_algebra.specs.declared.expr.Expr.{Expr, Row_of-Expr, Row_of-Arm, Row_of-ChainStep, more_of-Expr, end_of-Expr, more_of-Arm, end_of-Arm, more_of-ChainStep, end_of-ChainStep}
use Rattle.bag_algebra.specs.declared.expr.Expr.TheVariants.{Col, Lit, Sub}
use Rattle.bag_algebra.specs.declared.expr.Item.{Item}
use Rattle.bag_algebra.specs.declared.query.Aggr.{Aggr}
use Rattle.bag_algebra.specs.declared.query.Query.{Query, Row_of-Sublink, more_of-Sublink, end_of-Sublink}
use Rattle.bag_algebra.specs.declared.query.Query.TheVariants.{Table, Single}
use Rattle.query_facts.specs.declared.reached.reads.queries.OuterColumn.{OuterColumn}

abbrev pub column_at : ℕ → ℕ → OuterColumn
column_at level place = record { level = level; place = place }

-- the columns that an expression reads, as often as it names them
abbrev mutual
  pub expr_columns : Expr → List OuterColumn
  expr_columns (Col level place) = column_at level place ∷ []
  expr_columns (Lit v kind) = []
  expr_columns (OpOf op _ parts) = parts_columns parts
  expr_columns (ChainOf first _ steps) = expr_columns first ++ steps_columns steps
  expr_columns (CaseOf _ arms otherwise) = arms_columns arms ++ expr_columns otherwise
  expr_columns (Sub number) = []
  expr_columns (IsNullOf part) = expr_columns part
  expr_columns (IsTruthOf truth part) = expr_columns part
  expr_columns (SameOf first second) = expr_columns first ++ expr_columns second

  pub parts_columns : {m : _} → Row_of-Expr m → List OuterColumn
  parts_columns end_of-Expr = []
  parts_columns (more_of-Expr part parts) = expr_columns part ++ parts_columns parts

  pub steps_columns : {m : _} → Row_of-ChainStep m → List OuterColumn
  steps_columns end_of-ChainStep = []
  steps_columns (more_of-ChainStep op part steps) = expr_columns part ++ steps_columns steps

  pub arms_columns : {m : _} → Row_of-Arm m → List OuterColumn
  arms_columns end_of-Arm = []
  arms_columns (more_of-Arm condition arm arms) = (expr_columns condition ++ expr_columns arm) ++ arms_columns arms

-- of a part that may be left out
abbrev pub option_columns : Option Expr → List OuterColumn
option_columns None = []
option_columns (Some part) = expr_columns part

abbrev pub items_columns : List Item → List OuterColumn
items_columns items = flat_map (λ (item : Item). expr_columns item.expr) items

abbrev pub aggregates_columns : List Aggr → List OuterColumn
aggregates_columns aggregates = flat_map (λ (aggregate : Aggr). option_columns aggregate.argument) aggregates

-- a column of a row that isn't the first one, the rows being counted from the one behind the first
abbrev pub one_nearer : ℕ → ℕ → List OuterColumn
one_nearer zero place = []
one_nearer (suc level) place = column_at level place ∷ []

-- of these columns those of the rows behind the first one
abbrev pub behind : List OuterColumn → List OuterColumn
behind columns = flat_map (λ (column : OuterColumn). one_nearer column.level column.place) columns

-- the columns that a query reads of its outer rows, as often as it names them
abbrev mutual
  pub columns_of : Query → List OuterColumn
  columns_of (Table id kinds) = []
  columns_of Single = []
  columns_of (BaseOf input places label) = columns_of input
  columns_of (FilterOf input condition _ subs) = columns_of input ++ behind (expr_columns condition ++ subs_columns subs)
  columns_of (ProjectOf input items _ subs) = columns_of input ++ behind (items_columns items ++ subs_columns subs)
  columns_of (JoinOf kind left right condition _ subs) = (columns_of left ++ columns_of right) ++ behind (expr_columns condition ++ subs_columns subs)
  columns_of (ApplyOf kind left right) = columns_of left ++ behind (columns_of right)
  columns_of (UnionOf all left right) = columns_of left ++ columns_of right
  columns_of (IntersectOf all left right) = columns_of left ++ columns_of right
  columns_of (ExceptOf all left right) = columns_of left ++ columns_of right
  columns_of (DistinctOf input) = columns_of input
  columns_of (AggregateOf input groups aggregates) = columns_of input ++ behind (aggregates_columns aggregates)
  columns_of (LimitOf input keys count) = columns_of input
  columns_of (ProvOf input) = columns_of input

  -- of the node's row, at level 0, and of the outer rows behind it
  pub subs_columns : {m : _} → Row_of-Sublink m → List OuterColumn
  subs_columns end_of-Sublink = []
  subs_columns (more_of-Sublink kind tested query subs) = (option_columns tested ++ columns_of query) ++ subs_columns subs

-- the rows have the same values in the columns
abbrev pub Agree : List OuterColumn → List Row → List Row → Type 0
Agree columns rows others = All (λ (column : OuterColumn). value_at (row_at rows column.level) column.place ≡ value_at (row_at others column.level) column.place) columns

-- whether the column at the place of the nearest row is among them
abbrev pub is_nearest : List OuterColumn → ℕ → Bool
is_nearest columns place = list_any (λ (column : OuterColumn). (column.level == 0) && (column.place == place)) columns

abbrev pub is_among : List ℕ → ℕ → Bool
is_among places place = list_any (λ p. p == place) places

-- the places of the columns of the nearest row
abbrev pub AreNearest : List OuterColumn → List ℕ → Type 0
AreNearest columns places = (place : ℕ) → is_among places place ≡ is_nearest columns place
