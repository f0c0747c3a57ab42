-- Sublinks that read outer rows. A query is closed where it is well formed under no outer kinds, and so reads no outer row; a sublink is
-- open where its query isn't closed. To the query of a sublink the row of the node itself is an outer row.
use Rattle.std.specs.Prelude.{◌≡◌, ⊤, true, []}
use Rattle.bag_algebra.specs.Closed.{is_closed}
use Rattle.bag_algebra.specs.WellFormed.{WellFormed}
use Rattle.bag_algebra.specs.built.Patterns.{BaseOf, FilterOf, ProjectOf, JoinOf, ApplyOf, UnionOf, IntersectOf, ExceptOf, DistinctOf, AggregateOf, LimitOf, ProvOf}
use Rattle.bag_algebra.specs.declared.query.Query.{Query, Row_of-Sublink, more_of-Sublink, end_of-Sublink}
use Rattle.bag_algebra.specs.declared.query.Query.TheVariants.{Table, Single}
use Rattle.bag_algebra.specs.declared.query.Sublink.{Sublink}

-- P holds of the query of each sublink, those within sublinks' queries included
abbrev mutual
  pub EachSublink : (Query → Type 0) → Query → Type 0
  EachSublink P (Table id kinds) = ⊤
  EachSublink P Single = ⊤
  EachSublink P (BaseOf input places label) = EachSublink P input
  EachSublink P (FilterOf input condition _ subs) = EachSublink P input × EachOfSubs P subs
  EachSublink P (ProjectOf input items _ subs) = EachSublink P input × EachOfSubs P subs
  EachSublink P (JoinOf kind left right condition _ subs) = EachSublink P left × EachSublink P right × EachOfSubs P subs
  EachSublink P (ApplyOf kind left right) = EachSublink P left × EachSublink P right
  EachSublink P (UnionOf all left right) = EachSublink P left × EachSublink P right
  EachSublink P (IntersectOf all left right) = EachSublink P left × EachSublink P right
  EachSublink P (ExceptOf all left right) = EachSublink P left × EachSublink P right
  EachSublink P (DistinctOf input) = EachSublink P input
  EachSublink P (AggregateOf input groups aggregates) = EachSublink P input
  EachSublink P (LimitOf input keys count) = EachSublink P input
  EachSublink P (ProvOf input) = EachSublink P input

  pub EachOfSubs : (Query → Type 0) → {m : _} → Row_of-Sublink m → Type 0
  EachOfSubs P end_of-Sublink = ⊤
  EachOfSubs P (more_of-Sublink kind tested query subs) = P query × EachSublink P query × EachOfSubs P subs

-- no sublink of the query is open
abbrev pub NoOpenSublink : Query → Type 0
NoOpenSublink q = EachSublink (WellFormed []) q

-- the sublink isn't open, nor is one within its query
pub record IsClosedSublink (sub : Sublink) : Type 0 where
  pub closed : WellFormed [] sub.query
  pub inside : NoOpenSublink sub.query

-- no query of a sublink has a column of an outer row
abbrev pub NoSublinkReadsOut : Query → Type 0
NoSublinkReadsOut q = EachSublink (λ (inner : Query). is_closed inner ≡ true) q
