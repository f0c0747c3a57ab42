-- What of a query may be kept for all rows under which it is run that have the same values in the columns that it reads.
use Rattle.std.specs.Prelude.{◌≡◌, ℕ, zero, suc, ◌+◌, ◌<◌, ◌≤◌, ◌^◌, nat_lt, Bool, true, false, cond, Option, Some, None}
use Rattle.bag_algebra.specs.FaultFree.{faultless}
use Rattle.bag_algebra.specs.built.Patterns.{BaseOf, FilterOf, ProjectOf, JoinOf, ApplyOf, UnionOf, IntersectOf, ExceptOf, DistinctOf, AggregateOf, LimitOf, ProvOf}
use Rattle.bag_algebra.specs.declared.expr.Expr.{Expr}
use Rattle.bag_algebra.specs.declared.query.Query.{Query, Row_of-Sublink, more_of-Sublink, end_of-Sublink}
use Rattle.bag_algebra.specs.declared.query.Query.TheVariants.{Table, Single}
use Rattle.query_facts.specs.reached.Reach.{reach_of}
use Rattle.row_nodes.specs.declared.keeping.Keeping.{Keeping}
use Rattle.row_nodes.specs.declared.keeping.Keeping.TheVariants as of

-- how many of a row's first columns are read for what is kept
abbrev pub kept_reach : Keeping → ℕ
kept_reach of.Nothing = 0
kept_reach (of.Rows reach) = reach
kept_reach (of.Input reach depth) = reach

-- how many the input of a filter reads, where that is kept
abbrev pub input_columns : Keeping → ℕ
input_columns of.Nothing = 0
input_columns (of.Rows reach) = 0
input_columns (of.Input reach depth) = reach

-- how many nodes down that filter stands; 0 where none is kept
abbrev pub input_depth : Keeping → ℕ
input_depth of.Nothing = 0
input_depth (of.Rows reach) = 0
input_depth (of.Input reach depth) = depth

abbrev pub is_kept : Keeping → Bool
is_kept of.Nothing = false
is_kept (of.Rows reach) = true
is_kept (of.Input reach depth) = true

-- whether the input of a filter is kept
abbrev pub keeps_input : Keeping → Bool
keeps_input of.Nothing = false
keeps_input (of.Rows reach) = false
keeps_input (of.Input reach depth) = true

-- whether a key may answer a filter: its condition can meet no fault, and it has no sublinks
abbrev pub can_key : {m : _} → Expr → Row_of-Sublink m → Bool
can_key condition end_of-Sublink = faultless condition
can_key condition (more_of-Sublink kind tested query subs) = false

-- where so many Filters, Projects and Aggregates down a filter stands that a key may answer: how many of the nearest outer row's
-- first columns its input reads
abbrev pub keyed_at : Query → ℕ → Option ℕ
keyed_at (Table id kinds) depth = None
keyed_at Single depth = None
keyed_at (BaseOf input places label) depth = None
keyed_at (FilterOf input condition _ subs) zero = cond (can_key condition subs) (Some (reach_of input)) None
keyed_at (FilterOf input condition _ subs) (suc depth) = keyed_at input depth
keyed_at (ProjectOf input items _ subs) zero = None
keyed_at (ProjectOf input items _ subs) (suc depth) = keyed_at input depth
keyed_at (JoinOf kind left right condition _ subs) depth = None
keyed_at (ApplyOf kind left right) depth = None
keyed_at (UnionOf all left right) depth = None
keyed_at (IntersectOf all left right) depth = None
keyed_at (ExceptOf all left right) depth = None
keyed_at (DistinctOf input) depth = None
keyed_at (AggregateOf input groups aggregates) zero = None
keyed_at (AggregateOf input groups aggregates) (suc depth) = keyed_at input depth
keyed_at (LimitOf input keys count) depth = None
keyed_at (ProvOf input) depth = None

-- ---- what may be kept

-- what is kept reads no more of the nearest outer row
abbrev pub Keeps : Query → Keeping → Type 0
Keeps q of.Nothing = Unit {0}
Keeps q (of.Rows n) = n ≡ reach_of q
Keeps q (of.Input n depth) = keyed_at q depth ≡ Some n

-- ---- what is kept

-- the query reads no more columns than the input of any filter above that depth
pub record RowsLead (q : Query) (below n : ℕ) : Type 0 where
  pub reach_is : n ≡ reach_of q
  pub least : (d m : ℕ) → d < below → keyed_at q d ≡ Some m → n ≤ m

-- the input of the filter at its depth reads fewer columns than the query, no more than that of any other above that depth,
-- and fewer than that of any above itself
pub record InputLeads (q : Query) (below n depth : ℕ) : Type 0 where
  pub filter_is : keyed_at q depth ≡ Some n
  pub fewer : n < reach_of q
  pub least : (d m : ℕ) → d < below → keyed_at q d ≡ Some m → n ≤ m
  pub topmost : (d m : ℕ) → d < depth → keyed_at q d ≡ Some m → n < m

abbrev pub Leads : Query → ℕ → Keeping → Type 0
Leads q below of.Nothing = ⊥
Leads q below (of.Rows n) = RowsLead q below n
Leads q below (of.Input n depth) = InputLeads q below n depth

-- the input of the topmost filter whose input reads the fewest columns, if that reads fewer than the query, and else the
-- query's rows; nothing only where no `usize` holds the query's reach
abbrev pub IsKept : Query → Keeping → Type 0
IsKept q of.Nothing = 2 ^ 64 ≤ reach_of q
IsKept q (of.Rows n) = RowsLead q (2 ^ 64) n
IsKept q (of.Input n depth) = InputLeads q (2 ^ 64) n depth

-- and without hashing nothing at all
abbrev pub KeptOf : Bool → Query → Keeping → Type 0
KeptOf true q keeping = IsKept q keeping
KeptOf false q keeping = keeping ≡ of.Nothing

-- ---- as code finds it

-- a query stands so many Filters, Projects and Aggregates below another
abbrev pub IsBelow : Query → ℕ → Query → Type 0
IsBelow top depth q = (d : ℕ) → keyed_at top (depth + d) ≡ keyed_at q d

abbrev pub better : Keeping → ℕ → Option ℕ → Keeping
better best depth None = best
better best depth (Some reach) = cond (nat_lt reach (kept_reach best)) (of.Input reach depth) best
