-- What is traced of a sublink. Where every row of its query contributes, as for EXISTS and for a scalar sublink, what contributes is the
-- same without the projections, the DISTINCTs and the groups on top of the query: these keep the witness lists of what they are made of.
use Rattle.std.specs.Prelude.{cond, None}
use Rattle.bag_algebra.specs.built.Patterns.{BaseOf, FilterOf, ProjectOf, JoinOf, ApplyOf, UnionOf, IntersectOf, ExceptOf, DistinctOf, AggregateOf, LimitOf, ProvOf}
use Rattle.bag_algebra.specs.Scoped.{no_subs as has_none}
use Rattle.bag_algebra.specs.declared.query.Query.{Query}
use Rattle.bag_algebra.specs.declared.query.Query.TheVariants.{Table, Single}
use Rattle.bag_algebra.specs.declared.query.SubKind.{SubKind}
use Rattle.bag_algebra.specs.declared.query.SubKind.TheVariants.{Exists, Any, All, Scalar}
use Rattle.bag_algebra.specs.declared.query.Sublink.{Sublink}
use Rattle.rewrite_move.specs.declared.below.Origin.{Origin}
use Rattle.rewrite_move.specs.declared.below.Origin.TheVariants.{Own, Traced}

-- the query below the projections without sublinks, the DISTINCTs and the groups on its top
abbrev pub below_groups : Query → Query
below_groups (Table id kinds) = Table id kinds
below_groups Single = Single
below_groups (BaseOf input places label) = BaseOf input places label
below_groups (FilterOf input condition form subs) = FilterOf input condition form subs
below_groups (JoinOf kind left right condition form subs) = JoinOf kind left right condition form subs
below_groups (ApplyOf kind left right) = ApplyOf kind left right
below_groups (UnionOf all left right) = UnionOf all left right
below_groups (IntersectOf all left right) = IntersectOf all left right
below_groups (ExceptOf all left right) = ExceptOf all left right
below_groups (LimitOf input keys count) = LimitOf input keys count
below_groups (ProvOf input) = ProvOf input
below_groups (ProjectOf input items form subs) = cond (has_none subs) (below_groups input) (ProjectOf input items form subs)
below_groups (DistinctOf input) = below_groups input
below_groups (AggregateOf input groups aggregates) = below_groups input

abbrev pub below_by : SubKind → Query → Query
below_by Exists query = below_groups query
below_by (Any c) query = query
below_by (All c) query = query
below_by Scalar query = below_groups query

-- the query that is traced for a sublink
abbrev pub traced_of : Sublink → Query
traced_of sub = below_by sub.kind sub.query

-- the query of a sublink of which a rewriting is given
abbrev pub query_from : Origin → Sublink → Query
query_from Own sub = sub.query
query_from Traced sub = traced_of sub

-- A sublink with the same contributions over what is traced. A scalar one is an EXISTS there, since more rows may stand below a group than
-- one; what ANY and ALL compare is the query's own column, so they stay.
abbrev pub traced_by : SubKind → Sublink → Sublink
traced_by Exists sub = record { kind = Exists; tested = None; query = below_groups sub.query }
traced_by (Any c) sub = sub
traced_by (All c) sub = sub
traced_by Scalar sub = record { kind = Exists; tested = None; query = below_groups sub.query }

abbrev pub traced_sub : Sublink → Sublink
traced_sub sub = traced_by sub.kind sub
