-- What the text of a query is read as.
use Rattle.std.specs.Prelude.{ℕ, suc, ◌+◌, Bool, false, cond, List, [], ◌∷◌, ◌++◌, map, length, Option, Some, None, option_map, slice_index_or, unwrap_or}
use Rattle.std.specs.List.{flat_map, range_with_len}
use Rattle.null_logic.specs.declared.operator.Operator.{Operator}
use Rattle.null_logic.specs.declared.operator.Operator.TheVariants as op
use Rattle.perm_values.specs.declared.kind.Kind.{Kind}
use Rattle.perm_values.specs.declared.kind.Kind.TheVariants as kinds
use Rattle.bag_algebra.specs.Kinds.{kinds_of, kind_in, kinds_in, width_of}
use Rattle.bag_algebra.specs.WellFormed.{column_kind}
use Rattle.bag_algebra.specs.built.Patterns.{OpOf, ChainOf, CaseOf, IsNullOf, IsTruthOf, SameOf, BaseOf, FilterOf, ProjectOf, JoinOf, ApplyOf, UnionOf, IntersectOf, ExceptOf, DistinctOf, AggregateOf, LimitOf, ProvOf}
use Rattle.bag_algebra.specs.declared.expr.Expr.{Expr, Row_of-Expr, more_of-Expr, end_of-Expr}
use Rattle.bag_algebra.specs.declared.expr.Expr.TheVariants.{Col, Lit, Sub}
use Rattle.bag_algebra.specs.declared.expr.Item.{Item}
use Rattle.bag_algebra.specs.declared.query.AggFn.{AggFn}
use Rattle.bag_algebra.specs.declared.query.AggFn.TheVariants as agg
use Rattle.bag_algebra.specs.declared.query.Aggr.{Aggr}
use Rattle.bag_algebra.specs.declared.query.JoinKind.{JoinKind}
use Rattle.bag_algebra.specs.declared.query.JoinKind.TheVariants as join
use Rattle.bag_algebra.specs.declared.query.Query.{Query, Row_of-Sublink, more_of-Sublink, end_of-Sublink}
use Rattle.bag_algebra.specs.declared.query.Query.TheVariants.{Table, Single, Filter, Project, Join, Apply, Union, Intersect, Except, Distinct, Aggregate, Limit}
use Rattle.bag_algebra.specs.declared.query.SubKind.TheVariants.{Exists}
use Rattle.bag_algebra.specs.declared.query.Sublink.{Sublink}
use Rattle.tree_texts.specs.expressions.Words.{is_any}
use Rattle.query_texts.specs.clauses.Chains.{is_chained}
use Rattle.query_texts.specs.clauses.Keys.{all_keys}
use Rattle.query_texts.specs.clauses.Unused.{used_in, items_use, spare}
use Rattle.sql_printer.specs.rows.PrintedExpressions.{asked_in, integer, printed_expr, beside}

-- ---- columns

abbrev pub column : ℕ → Kind → Item
column place kind = record { expr = Col 0 place; kind = kind }

-- columns of these kinds, the first at a place
abbrev pub columns_from : ℕ → List Kind → List Item
columns_from place [] = []
columns_from place (kind ∷ more) = column place kind ∷ columns_from (suc place) more

-- what is read nowhere
abbrev pub unread_item : Item
unread_item = record { expr = integer 1; kind = kinds.Integer }

-- where there are no columns there is one that is read nowhere
abbrev pub or_unread : Item → List Item → List Item
or_unread nothing [] = nothing ∷ []
or_unread nothing (item ∷ items) = item ∷ items

-- how many columns such a list has more
abbrev pub unread_of : List Kind → ℕ
unread_of [] = 1
unread_of (kind ∷ more) = 0

-- ---- what the texts of a query are read as

-- the columns of these kinds, behind so many that nothing reads
abbrev pub listed : List Kind → ℕ → Query → Query
listed kinds before q = Project q (or_unread unread_item (columns_from before kinds)) []

pub record Readings : Type 0 where
  -- by itself
  pub whole : Query
  -- one SELECT that gives its columns
  pub core : Query
  -- FROM and WHERE that give its columns, and how many that nothing reads stand before these
  pub block : Query
  pub before : ℕ
  -- FROM that gives its columns, and that joins may follow
  pub from : Query
  pub from_before : ℕ

-- what is written by itself alone
abbrev pub a_whole : List Kind → Query → Readings
a_whole kinds whole = record {
  whole = whole;
  core = listed kinds (unread_of kinds) whole;
  block = whole;
  before = unread_of kinds;
  from = whole;
  from_before = unread_of kinds;
}

-- one SELECT
abbrev pub a_select : List Kind → Query → Readings
a_select kinds core = record {
  whole = core;
  core = core;
  block = core;
  before = unread_of kinds;
  from = core;
  from_before = unread_of kinds;
}

-- FROM and WHERE, and whether joins may follow
abbrev pub a_block : List Kind → Bool → ℕ → Query → Readings
a_block kinds followed before block = record {
  whole = listed kinds before block;
  core = listed kinds before block;
  block = block;
  before = before;
  from = cond followed block (listed kinds before block);
  from_before = cond followed before (unread_of kinds);
}

-- what is written by itself alone, unless it may stand in one FROM with others
abbrev pub apart_unless : List Kind → Bool → Readings → Readings
apart_unless kinds chained r = cond chained r (a_whole kinds r.whole)

-- ---- the kinds of arguments

abbrev pub operator_kind : Operator → Kind → Kind
operator_kind op.And first = kinds.Boolean
operator_kind op.Or first = kinds.Boolean
operator_kind op.Not first = kinds.Boolean
operator_kind op.Negate first = kinds.Integer
operator_kind (op.Compare c) first = kinds.Boolean
operator_kind (op.Arith c) first = kinds.Integer
operator_kind op.Like first = kinds.Boolean
operator_kind op.Between first = kinds.Boolean
operator_kind op.InList first = kinds.Boolean
operator_kind op.Coalesce first = first
operator_kind op.NullIf first = first

-- that of a well formed expression without sublinks
abbrev mutual
  pub kind_of : List (List Kind) → Expr → Kind
  kind_of scopes (Col level place) = unwrap_or (column_kind scopes level place) kinds.Text
  kind_of scopes (Lit v kind) = kind
  kind_of scopes (OpOf op _ parts) = operator_kind op (first_kind scopes parts)
  kind_of scopes (ChainOf first _ steps) = kinds.Integer
  kind_of scopes (CaseOf _ arms otherwise) = kind_of scopes otherwise
  kind_of scopes (Sub number) = kinds.Text
  kind_of scopes (IsNullOf part) = kinds.Boolean
  kind_of scopes (IsTruthOf truth part) = kinds.Boolean
  kind_of scopes (SameOf first second) = kinds.Boolean

  pub first_kind : List (List Kind) → {m : _} → Row_of-Expr m → Kind
  first_kind scopes end_of-Expr = kinds.Text
  first_kind scopes (more_of-Expr part parts) = kind_of scopes part

-- ---- sublinks

-- so many numbers, but for those that are used
abbrev pub idle : (ℕ → Bool) → ℕ → List ℕ
idle used count = spare used 0 (range_with_len 0 count)

abbrev pub nothing_asked : Sublink
nothing_asked = record { kind = Exists; tested = None; query = Single }

-- the sublinks of these numbers
abbrev pub taken : List Sublink → List ℕ → List Sublink
taken subs numbers = map (λ number. slice_index_or subs number nothing_asked) numbers

-- ---- nodes

abbrev pub idle_in : Expr → List Sublink → List ℕ
idle_in condition subs = idle (used_in condition) (length subs)

-- a condition and its sublinks: first those that it doesn't use
abbrev pub printed_condition : List ℕ → List Sublink → Expr → Expr
printed_condition unread subs condition =
    let count = length (idle_in condition subs) in
    beside kinds.Boolean count (printed_expr unread count condition)

abbrev pub condition_subs : List Sublink → Expr → List Sublink
condition_subs subs condition = taken subs (idle_in condition subs ++ asked_in condition)

abbrev pub asked_by : List Item → List ℕ
asked_by items = flat_map (λ (item : Item). asked_in item.expr) items

abbrev pub printed_items : List ℕ → ℕ → List Item → List Item
printed_items unread n [] = []
printed_items unread n (item ∷ items) =
    record { expr = printed_expr unread n item.expr; kind = item.kind } ∷ printed_items unread (n + length (asked_in item.expr)) items

-- beside the first item stand the sublinks, so many, that no item uses
abbrev pub first_beside : List ℕ → ℕ → List Item → List Item
first_beside unread count [] = record { expr = beside kinds.Integer count (integer 1); kind = kinds.Integer } ∷ []
first_beside unread count (item ∷ items) =
    record { expr = beside item.kind count (printed_expr unread count item.expr); kind = item.kind }
    ∷ printed_items unread (count + length (asked_in item.expr)) items

abbrev pub projected : List ℕ → List Sublink → List Item → Query → Query
projected unread subs items q =
    let spared = idle (items_use items) (length subs) in
    Project q (first_beside unread (length spared) items) (taken subs (spared ++ asked_by items))

-- a dependent join is inner or keeps the left rows
abbrev pub lateral_kind : JoinKind → JoinKind
lateral_kind join.Inner = join.Inner
lateral_kind join.Left = join.Left
lateral_kind join.Right = join.Inner
lateral_kind join.Full = join.Inner

-- ---- groups

abbrev pub argument : List (List Kind) → List ℕ → Option Expr → Item
argument scopes unread None = unread_item
argument scopes unread (Some part) = record { expr = printed_expr unread 0 part; kind = kind_of scopes part }

abbrev pub arguments : List (List Kind) → List ℕ → List Aggr → List Item
arguments scopes unread aggregates = map (λ (aggregate : Aggr). argument scopes unread aggregate.argument) aggregates

-- behind so many columns that nothing reads
abbrev pub grouped : ℕ → List Kind → List ℕ → List Item
grouped before below [] = []
grouped before below (place ∷ places) = column (before + place) (kind_in below place) ∷ grouped before below places

-- COUNT of rows has no argument
abbrev pub argument_at : AggFn → ℕ → Option Expr
argument_at agg.CountRows place = None
argument_at agg.Count place = Some (Col 0 place)
argument_at agg.CountDistinct place = Some (Col 0 place)
argument_at agg.Sum place = Some (Col 0 place)
argument_at agg.Min place = Some (Col 0 place)
argument_at agg.Max place = Some (Col 0 place)

-- of the columns from a place on
abbrev pub aggregates_from : ℕ → List Aggr → List Aggr
aggregates_from place [] = []
aggregates_from place (aggregate ∷ aggregates) =
    record { function = aggregate.function; argument = argument_at aggregate.function place; kind = aggregate.kind }
    ∷ aggregates_from (suc place) aggregates

abbrev pub counted : Aggr
counted = record { function = agg.CountRows; argument = None; kind = kinds.Integer }

-- without groups and aggregates the rows are counted, so that there is one row
abbrev pub or_counted : List ℕ → List Aggr → List Aggr
or_counted [] [] = counted ∷ []
or_counted [] (aggregate ∷ aggregates) = aggregate ∷ aggregates
or_counted (place ∷ places) aggregates = aggregates

abbrev pub in_groups : List (List Kind) → List ℕ → ℕ → List ℕ → List Aggr → List Kind → Query → Query
in_groups scopes unread before groups aggregates below q =
    let numbered = aggregates_from (length groups) aggregates in
    let inner = Project q (or_unread unread_item (grouped before below groups ++ arguments scopes unread aggregates)) [] in
    Project (Aggregate inner (range_with_len 0 (length groups)) (or_counted groups numbered))
    (or_unread (column 0 kinds.Integer) (columns_from 0 (kinds_in below groups ++ map (λ (aggregate : Aggr). aggregate.kind) aggregates))) []

-- ---- queries

-- under outer rows of these kinds, with so many columns before theirs that nothing reads; what a table's name stands for is given by
-- its identity and its kinds
abbrev mutual
  pub readings : (ℕ → List Kind → Query) → List (List Kind) → List ℕ → Query → Readings
  readings source outer unread (Table id kinds) = a_select kinds (listed kinds 0 (source id kinds))
  readings source outer unread Single = a_select [] (listed [] 0 Single)
  readings source outer unread (BaseOf input places label) = a_whole (kinds_of input) (readings source outer unread input).whole
  readings source outer unread (FilterOf input condition _ subs) =
      let below = readings source outer unread input in
      let asked = printed_subs source (kinds_of input ∷ outer) (below.from_before ∷ unread) subs in
      a_block (kinds_of input) false below.from_before
      (Filter below.from (printed_condition (below.from_before ∷ unread) asked condition) (condition_subs asked condition))
  readings source outer unread (ProjectOf input items _ subs) =
      let below = readings source outer unread input in
      a_select (map (λ (item : Item). item.kind) items)
      (projected (below.before ∷ unread) (printed_subs source (kinds_of input ∷ outer) (below.before ∷ unread) subs) items below.block)
  readings source outer unread (JoinOf kind left right condition _ subs) =
      let first = apart_unless (kinds_of left) (is_chained kind) (readings source outer unread left) in
      let asked = printed_subs source ((kinds_of left ++ kinds_of right) ∷ outer) (first.from_before ∷ unread) subs in
      apart_unless (kinds_of left ++ kinds_of right) (is_chained kind)
      (a_block (kinds_of left ++ kinds_of right) (is_any (width_of right)) first.from_before
      (Join kind first.from (readings source outer unread right).whole
      (printed_condition (first.from_before ∷ unread) asked condition) (condition_subs asked condition)))
  readings source outer unread (ApplyOf kind left right) =
      let first = readings source outer unread left in
      a_block (kinds_of left ++ kinds_of right) (is_any (width_of right)) first.from_before
      (Apply (lateral_kind kind) first.from (readings source (kinds_of left ∷ outer) (first.from_before ∷ unread) right).whole)
  readings source outer unread (UnionOf all left right) =
      a_whole (kinds_of left) (Union all (readings source outer unread left).core (readings source outer unread right).core)
  readings source outer unread (IntersectOf all left right) =
      a_whole (kinds_of left) (Intersect all (readings source outer unread left).core (readings source outer unread right).core)
  readings source outer unread (ExceptOf all left right) =
      a_whole (kinds_of left) (Except all (readings source outer unread left).core (readings source outer unread right).core)
  readings source outer unread (DistinctOf input) = a_whole (kinds_of input) (Distinct (readings source outer unread input).core)
  readings source outer unread (AggregateOf input groups aggregates) =
      let below = readings source outer unread input in
      a_whole (kinds_of (AggregateOf input groups aggregates))
      (in_groups (kinds_of input ∷ outer) (below.before ∷ unread) below.before groups aggregates (kinds_of input) below.block)
  readings source outer unread (LimitOf input keys count) =
      a_whole (kinds_of input) (Limit (readings source outer unread input).core (all_keys (length (kinds_of input)) keys) count)
  readings source outer unread (ProvOf input) = a_whole (kinds_of (ProvOf input)) (readings source outer unread input).whole

  pub printed_subs : (ℕ → List Kind → Query) → List (List Kind) → List ℕ → {m : _} → Row_of-Sublink m → List Sublink
  printed_subs source outer unread end_of-Sublink = []
  printed_subs source outer unread (more_of-Sublink kind tested query subs) =
      record { kind = kind; tested = option_map (printed_expr unread 0) tested; query = (readings source outer unread query).whole }
      ∷ printed_subs source outer unread subs

-- by itself
abbrev pub printed : (ℕ → List Kind → Query) → List (List Kind) → List ℕ → Query → Query
printed source outer unread q = (readings source outer unread q).whole

-- ---- answers

-- a closed query, with the columns that it gives
abbrev pub printed_answer : (ℕ → List Kind → Query) → Query → Query
printed_answer source q = let below = readings source [] [] q in listed (kinds_of q) below.before below.block
