-- The tables that a query reads, and what holds of each of them.
use Rattle.std.specs.Prelude.{ℕ, ⊤, List, [], ◌∷◌, ◌++◌, Contains}
use Rattle.perm_values.specs.declared.kind.Kind.{Kind}
use Rattle.bag_algebra.specs.built.Patterns.{BaseOf, FilterOf, ProjectOf, JoinOf, ApplyOf, UnionOf, IntersectOf, ExceptOf, DistinctOf, AggregateOf, LimitOf, ProvOf}
use Rattle.bag_algebra.specs.declared.query.Query.{Query, Row_of-Sublink, more_of-Sublink, end_of-Sublink}
use Rattle.bag_algebra.specs.declared.query.Query.TheVariants.{Table, Single}

-- a table of this identity, with columns of these kinds
pub record TableRead : Type 0 where
  pub id : ℕ
  pub kinds : List Kind

-- the input before the sublinks, left before right, the sublinks by their numbers
abbrev mutual
  pub tables_read : Query → List TableRead
  tables_read (Table id kinds) = record { id = id; kinds = kinds } ∷ []
  tables_read Single = []
  tables_read (BaseOf input places label) = tables_read input
  tables_read (FilterOf input condition _ subs) = tables_read input ++ sub_tables_read subs
  tables_read (ProjectOf input items _ subs) = tables_read input ++ sub_tables_read subs
  tables_read (JoinOf kind left right condition _ subs) = tables_read left ++ tables_read right ++ sub_tables_read subs
  tables_read (ApplyOf kind left right) = tables_read left ++ tables_read right
  tables_read (UnionOf all left right) = tables_read left ++ tables_read right
  tables_read (IntersectOf all left right) = tables_read left ++ tables_read right
  tables_read (ExceptOf all left right) = tables_read left ++ tables_read right
  tables_read (DistinctOf input) = tables_read input
  tables_read (AggregateOf input groups aggregates) = tables_read input
  tables_read (LimitOf input keys count) = tables_read input
  tables_read (ProvOf input) = tables_read input

  pub sub_tables_read : {m : _} → Row_of-Sublink m → List TableRead
  sub_tables_read end_of-Sublink = []
  sub_tables_read (more_of-Sublink kind tested query subs) = tables_read query ++ sub_tables_read subs

-- P holds of the identity and the kinds of each table, those of sublinks included
abbrev mutual
  pub EachTable : (ℕ → List Kind → Type 0) → Query → Type 0
  EachTable P (Table id kinds) = P id kinds
  EachTable P Single = ⊤
  EachTable P (BaseOf input places label) = EachTable P input
  EachTable P (FilterOf input condition _ subs) = EachTable P input × EachSubTable P subs
  EachTable P (ProjectOf input items _ subs) = EachTable P input × EachSubTable P subs
  EachTable P (JoinOf kind left right condition _ subs) = EachTable P left × EachTable P right × EachSubTable P subs
  EachTable P (ApplyOf kind left right) = EachTable P left × EachTable P right
  EachTable P (UnionOf all left right) = EachTable P left × EachTable P right
  EachTable P (IntersectOf all left right) = EachTable P left × EachTable P right
  EachTable P (ExceptOf all left right) = EachTable P left × EachTable P right
  EachTable P (DistinctOf input) = EachTable P input
  EachTable P (AggregateOf input groups aggregates) = EachTable P input
  EachTable P (LimitOf input keys count) = EachTable P input
  EachTable P (ProvOf input) = EachTable P input

  pub EachSubTable : (ℕ → List Kind → Type 0) → {m : _} → Row_of-Sublink m → Type 0
  EachSubTable P end_of-Sublink = ⊤
  EachSubTable P (more_of-Sublink kind tested query subs) = EachTable P query × EachSubTable P subs

-- each table that p reads is one that q reads, with the same kinds
abbrev pub ReadsAmong : Query → Query → Type 0
ReadsAmong p q = EachTable (λ id kinds. Contains (tables_read q) (record { id = id; kinds = kinds })) p
