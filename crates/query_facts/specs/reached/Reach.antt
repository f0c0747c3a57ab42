-- How many of the first columns of an outer row are read. A row is named by its level as an expression sees it: level 0 is the
-- row of the expression's own node, level k the kth outer row. The queries of a node's sublinks see the node's row as their
-- nearest outer row, and the right side of a dependent join a left row, so every row is one level further out there.
use Rattle.std.specs.Prelude.{ℕ, suc, max, Bool, nat_lt, cond, ◌==◌, List, [], ◌∷◌, Option, Some, None}
use Rattle.bag_algebra.specs.built.Patterns.{OpOf, ChainOf, CaseOf, IsNullOf, IsTruthOf, SameOf, BaseOf, FilterOf, ProjectOf, JoinOf, ApplyOf, UnionOf, IntersectOf, ExceptOf, DistinctOf, AggregateOf, LimitOf, ProvOf}
use Rattle.bag_algebra.specs.declared.expr.Expr.{Expr, Row_of-Expr, Row_of-Arm, Row_of-ChainStep, more_of-Expr, end_of-Expr, more_of-Arm, end_of-Arm, more_of-ChainStep, end_of-ChainStep}
use Rattle.bag_algebra.specs.declared.expr.Expr.TheVariants.{Col, Lit, Sub}
use Rattle.bag_algebra.specs.declared.expr.Item.{Item}
use Rattle.bag_algebra.specs.declared.query.Aggr.{Aggr}
use Rattle.bag_algebra.specs.declared.query.Query.{Query, Row_of-Sublink, more_of-Sublink, end_of-Sublink}
use Rattle.bag_algebra.specs.declared.query.Query.TheVariants.{Table, Single}

-- the greatest number of any item, 0 of none
abbrev pub greatest : {X : Type 0} → (X → ℕ) → List X → ℕ
greatest number [] = 0
greatest number (x ∷ xs) = max (number x) (greatest number xs)

-- a column reaches one further than its place in the row of its own level, and nowhere in any other
abbrev pub column_reach : ℕ → ℕ → ℕ → ℕ
column_reach own place level = cond (own == level) (suc place) 0

-- of the row at the level, the expression reads so many of the first columns and none behind them
abbrev mutual
  pub expr_reach : Expr → ℕ → ℕ
  expr_reach (Col own place) level = column_reach own place level
  expr_reach (Lit v kind) level = 0
  expr_reach (OpOf op _ parts) level = parts_reach parts level
  expr_reach (ChainOf first _ steps) level = max (expr_reach first level) (steps_reach steps level)
  expr_reach (CaseOf _ arms otherwise) level = max (arms_reach arms level) (expr_reach otherwise level)
  expr_reach (Sub number) level = 0
  expr_reach (IsNullOf part) level = expr_reach part level
  expr_reach (IsTruthOf truth part) level = expr_reach part level
  expr_reach (SameOf first second) level = max (expr_reach first level) (expr_reach second level)

  pub parts_reach : {m : _} → Row_of-Expr m → ℕ → ℕ
  parts_reach end_of-Expr level = 0
  parts_reach (more_of-Expr part parts) level = max (expr_reach part level) (parts_reach parts level)

  pub steps_reach : {m : _} → Row_of-ChainStep m → ℕ → ℕ
  steps_reach end_of-ChainStep level = 0
  steps_reach (more_of-ChainStep op part steps) level = max (expr_reach part level) (steps_reach steps level)

  pub arms_reach : {m : _} → Row_of-Arm m → ℕ → ℕ
  arms_reach end_of-Arm level = 0
  arms_reach (more_of-Arm condition arm arms) level = max (max (expr_reach condition level) (expr_reach arm level)) (arms_reach arms level)

-- the same of a part that may be left out
abbrev pub option_reach : Option Expr → ℕ → ℕ
option_reach None level = 0
option_reach (Some part) level = expr_reach part level

-- whether the expression reads a column of its own row
abbrev pub reads_own_row : Expr → Bool
reads_own_row e = nat_lt 0 (expr_reach e 0)

abbrev pub items_reach : List Item → ℕ → ℕ
items_reach items level = greatest (λ (item : Item). expr_reach item.expr level) items

abbrev pub aggregates_reach : List Aggr → ℕ → ℕ
aggregates_reach aggregates level = greatest (λ (aggregate : Aggr). option_reach aggregate.argument level) aggregates

-- the same of a query, the row being at the level for the expressions of its nodes
abbrev mutual
  pub query_reach : Query → ℕ → ℕ
  query_reach (Table id kinds) level = 0
  query_reach Single level = 0
  query_reach (BaseOf input places label) level = query_reach input level
  query_reach (FilterOf input condition _ subs) level = max (max (query_reach input level) (expr_reach condition level)) (subs_reach subs level)
  query_reach (ProjectOf input items _ subs) level = max (max (query_reach input level) (items_reach items level)) (subs_reach subs level)
  query_reach (JoinOf kind left right condition _ subs) level =
      max (max (max (query_reach left level) (query_reach right level)) (expr_reach condition level)) (subs_reach subs level)
  query_reach (ApplyOf kind left right) level = max (query_reach left level) (query_reach right (suc level))
  query_reach (UnionOf all left right) level = max (query_reach left level) (query_reach right level)
  query_reach (IntersectOf all left right) level = max (query_reach left level) (query_reach right level)
  query_reach (ExceptOf all left right) level = max (query_reach left level) (query_reach right level)
  query_reach (DistinctOf input) level = query_reach input level
  query_reach (AggregateOf input groups aggregates) level = max (query_reach input level) (aggregates_reach aggregates level)
  query_reach (LimitOf input keys count) level = query_reach input level
  query_reach (ProvOf input) level = query_reach input level

  pub subs_reach : {m : _} → Row_of-Sublink m → ℕ → ℕ
  subs_reach end_of-Sublink level = 0
  subs_reach (more_of-Sublink kind tested query subs) level =
      max (max (option_reach tested level) (query_reach query (suc level))) (subs_reach subs level)

-- how many of the first columns of its nearest outer row the query reads
abbrev pub reach_of : Query → ℕ
reach_of q = query_reach q 1
