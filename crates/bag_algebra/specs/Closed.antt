-- Which outer rows a query reads, and when it reads none. The queries of a node's sublinks see the node's row as their
-- nearest outer row, and so does the right side of a dependent join a left row.
use Rattle.std.specs.Prelude.{ℕ, suc, Bool, true, ◌&&◌, nat_le, List, Option, Some, None}
use Rattle.std.specs.List.{list_all}
use Rattle.bag_algebra.specs.built.Patterns.{OpOf, ChainOf, CaseOf, IsNullOf, IsTruthOf, SameOf, BaseOf, FilterOf, ProjectOf, JoinOf, ApplyOf, UnionOf, IntersectOf, ExceptOf, DistinctOf, AggregateOf, LimitOf, ProvOf}
use Rattle.bag_algebra.specs.declared.expr.Expr.{Expr, Row_of-Expr, Row_of-Arm, Row_of-ChainStep, more_of-Expr, end_of-Expr, more_of-Arm, end_of-Arm, more_of-ChainStep, end_of-ChainStep}
use Rattle.bag_algebra.specs.declared.expr.Expr.TheVariants.{Col, Lit, Sub}
use Rattle.bag_algebra.specs.declared.expr.Item.{Item}
use Rattle.bag_algebra.specs.declared.query.Aggr.{Aggr}
use Rattle.bag_algebra.specs.declared.query.Query.{Query, Row_of-Sublink, more_of-Sublink, end_of-Sublink}
use Rattle.bag_algebra.specs.declared.query.Query.TheVariants.{Table, Single}

-- each column of the expression is one of the node's own row or of the n nearest outer rows
abbrev mutual
  pub within_levels : Expr → ℕ → Bool
  within_levels (Col level place) n = nat_le level n
  within_levels (Lit v kind) n = true
  within_levels (OpOf op _ parts) n = parts_within parts n
  within_levels (ChainOf first _ steps) n = within_levels first n && steps_within steps n
  within_levels (CaseOf _ arms otherwise) n = arms_within arms n && within_levels otherwise n
  within_levels (Sub number) n = true
  within_levels (IsNullOf part) n = within_levels part n
  within_levels (IsTruthOf truth part) n = within_levels part n
  within_levels (SameOf first second) n = within_levels first n && within_levels second n

  pub parts_within : {m : _} → Row_of-Expr m → ℕ → Bool
  parts_within end_of-Expr n = true
  parts_within (more_of-Expr part parts) n = within_levels part n && parts_within parts n

  pub steps_within : {m : _} → Row_of-ChainStep m → ℕ → Bool
  steps_within end_of-ChainStep n = true
  steps_within (more_of-ChainStep op part steps) n = within_levels part n && steps_within steps n

  pub arms_within : {m : _} → Row_of-Arm m → ℕ → Bool
  arms_within end_of-Arm n = true
  arms_within (more_of-Arm condition arm arms) n = (within_levels condition n && within_levels arm n) && arms_within arms n

-- the same of a part that may be left out
abbrev pub option_within : Option Expr → ℕ → Bool
option_within None n = true
option_within (Some part) n = within_levels part n

abbrev pub items_within : List Item → ℕ → Bool
items_within items n = list_all (λ (item : Item). within_levels item.expr n) items

abbrev pub aggregates_within : List Aggr → ℕ → Bool
aggregates_within aggregates n = list_all (λ (aggregate : Aggr). option_within aggregate.argument n) aggregates

-- the query reads no outer rows but the n nearest ones
abbrev mutual
  pub reads_within : Query → ℕ → Bool
  reads_within (Table id kinds) n = true
  reads_within Single n = true
  reads_within (BaseOf input places label) n = reads_within input n
  reads_within (FilterOf input condition _ subs) n = (reads_within input n && within_levels condition n) && subs_read_within subs n
  reads_within (ProjectOf input items _ subs) n = (reads_within input n && items_within items n) && subs_read_within subs n
  reads_within (JoinOf kind left right condition _ subs) n =
      ((reads_within left n && reads_within right n) && within_levels condition n) && subs_read_within subs n
  reads_within (ApplyOf kind left right) n = reads_within left n && reads_within right (suc n)
  reads_within (UnionOf all left right) n = reads_within left n && reads_within right n
  reads_within (IntersectOf all left right) n = reads_within left n && reads_within right n
  reads_within (ExceptOf all left right) n = reads_within left n && reads_within right n
  reads_within (DistinctOf input) n = reads_within input n
  reads_within (AggregateOf input groups aggregates) n = reads_within input n && aggregates_within aggregates n
  reads_within (LimitOf input keys count) n = reads_within input n
  reads_within (ProvOf input) n = reads_within input n

  pub subs_read_within : {m : _} → Row_of-Sublink m → ℕ → Bool
  subs_read_within end_of-Sublink n = true
  subs_read_within (more_of-Sublink kind tested query subs) n =
      (option_within tested n && reads_within query (suc n)) && subs_read_within subs n

-- the query reads no outer row
abbrev pub is_closed : Query → Bool
is_closed q = reads_within q 0
