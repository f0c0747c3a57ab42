-- Queries that hold nothing that may fault: no arithmetic, no negation of a number, no SUM and no scalar sublink.
use Rattle.std.specs.Prelude.{Bool, true, false, not, ◌&&◌, List, Option, Some, None}
use Rattle.std.specs.List.{list_all}
use Rattle.null_logic.specs.declared.operator.Operator.{Operator}
use Rattle.null_logic.specs.declared.operator.Operator.TheVariants as op
use Rattle.bag_algebra.specs.built.Patterns.{OpOf, ChainOf, CaseOf, IsNullOf, IsTruthOf, SameOf, BaseOf, FilterOf, ProjectOf, JoinOf, ApplyOf, UnionOf, IntersectOf, ExceptOf, DistinctOf, AggregateOf, LimitOf, ProvOf}
use Rattle.bag_algebra.specs.declared.expr.Expr.{Expr, Row_of-Expr, Row_of-Arm, more_of-Expr, end_of-Expr, more_of-Arm, end_of-Arm}
use Rattle.bag_algebra.specs.declared.expr.Expr.TheVariants.{Col, Lit, Sub}
use Rattle.bag_algebra.specs.declared.expr.Item.{Item}
use Rattle.bag_algebra.specs.declared.query.AggFn.{AggFn}
use Rattle.bag_algebra.specs.declared.query.AggFn.TheVariants.{CountRows, Count, CountDistinct, Sum, Min, Max}
use Rattle.bag_algebra.specs.declared.query.Aggr.{Aggr}
use Rattle.bag_algebra.specs.declared.query.Query.{Query, Row_of-Sublink, more_of-Sublink, end_of-Sublink}
use Rattle.bag_algebra.specs.declared.query.Query.TheVariants.{Table, Single, Base', Filter', Project', Join', Apply', Union', Intersect', Except', Distinct', Aggregate', Limit', Prov'}
use Rattle.bag_algebra.specs.declared.query.SubKind.{SubKind}
use Rattle.bag_algebra.specs.declared.query.SubKind.TheVariants.{Exists, Any, All, Scalar}

-- arithmetic stands in a chain alone, so a well formed query has no operator of arithmetic
abbrev pub may_fault : Operator → Bool
may_fault op.And = false
may_fault op.Or = false
may_fault op.Not = false
may_fault op.Negate = true
may_fault (op.Compare c) = false
may_fault (op.Arith c) = true
may_fault op.Like = false
may_fault op.Between = false
may_fault op.InList = false
may_fault op.Coalesce = false
may_fault op.NullIf = false

-- no chain and no negation anywhere in the expression
abbrev mutual
  pub faultless : Expr → Bool
  faultless (Col level place) = true
  faultless (Lit v kind) = true
  faultless (OpOf op _ parts) = not (may_fault op) && parts_faultless parts
  faultless (ChainOf first _ steps) = false
  faultless (CaseOf _ arms otherwise) = arms_faultless arms && faultless otherwise
  faultless (Sub number) = true
  faultless (IsNullOf part) = faultless part
  faultless (IsTruthOf truth part) = faultless part
  faultless (SameOf first second) = faultless first && faultless second

  pub parts_faultless : {m : _} → Row_of-Expr m → Bool
  parts_faultless end_of-Expr = true
  parts_faultless (more_of-Expr part parts) = faultless part && parts_faultless parts

  pub arms_faultless : {m : _} → Row_of-Arm m → Bool
  arms_faultless end_of-Arm = true
  arms_faultless (more_of-Arm condition arm arms) = (faultless condition && faultless arm) && arms_faultless arms

abbrev pub option_faultless : Option Expr → Bool
option_faultless None = true
option_faultless (Some part) = faultless part

abbrev pub items_faultless : List Item → Bool
items_faultless items = list_all (λ (item : Item). faultless item.expr) items

abbrev pub is_sum : AggFn → Bool
is_sum CountRows = false
is_sum Count = false
is_sum CountDistinct = false
is_sum Sum = true
is_sum Min = false
is_sum Max = false

abbrev pub aggregates_faultless : List Aggr → Bool
aggregates_faultless aggregates =
    list_all (λ (aggregate : Aggr). not (is_sum aggregate.function) && option_faultless aggregate.argument) aggregates

abbrev pub is_scalar : SubKind → Bool
is_scalar Exists = false
is_scalar (Any c) = false
is_scalar (All c) = false
is_scalar Scalar = true

-- what the topmost node itself evaluates, its sublinks aside
abbrev pub own_faultless : Query → Bool
own_faultless (Table id kinds) = true
own_faultless Single = true
own_faultless (Base' _ input places label) = true
own_faultless (Filter' _ input condition _ subs) = faultless condition
own_faultless (Project' _ input items _ subs) = items_faultless items
own_faultless (Join' kind _ left _ right condition _ subs) = faultless condition
own_faultless (Apply' kind _ left _ right) = true
own_faultless (Union' all _ left _ right) = true
own_faultless (Intersect' all _ left _ right) = true
own_faultless (Except' all _ left _ right) = true
own_faultless (Distinct' _ input) = true
own_faultless (Aggregate' _ input groups aggregates) = aggregates_faultless aggregates
own_faultless (Limit' _ input keys count) = true
own_faultless (Prov' _ input) = true

-- no chain, no negation, no SUM and no scalar sublink anywhere in the query, sublinks included
abbrev mutual
  pub fault_free : Query → Bool
  fault_free (Table id kinds) = true
  fault_free Single = true
  fault_free (BaseOf input places label) = fault_free input
  fault_free (FilterOf input condition _ subs) = (fault_free input && faultless condition) && subs_fault_free subs
  fault_free (ProjectOf input items _ subs) = (fault_free input && items_faultless items) && subs_fault_free subs
  fault_free (JoinOf kind left right condition _ subs) =
      ((fault_free left && fault_free right) && faultless condition) && subs_fault_free subs
  fault_free (ApplyOf kind left right) = fault_free left && fault_free right
  fault_free (UnionOf all left right) = fault_free left && fault_free right
  fault_free (IntersectOf all left right) = fault_free left && fault_free right
  fault_free (ExceptOf all left right) = fault_free left && fault_free right
  fault_free (DistinctOf input) = fault_free input
  fault_free (AggregateOf input groups aggregates) = fault_free input && aggregates_faultless aggregates
  fault_free (LimitOf input keys count) = fault_free input
  fault_free (ProvOf input) = fault_free input

  pub subs_fault_free : {m : _} → Row_of-Sublink m → Bool
  subs_fault_free end_of-Sublink = true
  subs_fault_free (more_of-Sublink kind tested query subs) =
      ((not (is_scalar kind) && option_faultless tested) && fault_free query) && subs_fault_free subs
