-- Monotone queries no join of which reads a table on both sides: each of their rows is one over any part of the table or over its rest.
use Rattle.std.specs.Prelude.{ℕ, Bool, true, false, ◌&&◌, ◌||◌, is_none}
use Rattle.bag_algebra.specs.built.Patterns.{BaseOf, FilterOf, ProjectOf, JoinOf, ApplyOf, UnionOf, IntersectOf, ExceptOf, DistinctOf, AggregateOf, LimitOf, ProvOf}
use Rattle.bag_algebra.specs.declared.query.Query.{Query}
use Rattle.bag_algebra.specs.declared.query.Query.TheVariants.{Table, Single, Base', Filter', Project', Apply', Union', Intersect', Except', Distinct', Aggregate', Limit', Prov'}
use Rattle.delete_impact.specs.reduced.Reads.{first_kinds}

-- it doesn't read the table of this identity, sublinks aside
abbrev pub lacks : ℕ → Query → Bool
lacks id q = is_none (first_kinds id q)

-- the topmost node is no join that reads the table on both sides
abbrev pub own_splits : ℕ → Query → Bool
own_splits id (Table other kinds) = true
own_splits id Single = true
own_splits id (Base' _ input places label) = true
own_splits id (Filter' _ input condition _ subs) = true
own_splits id (Project' _ input items _ subs) = true
own_splits id (JoinOf kind left right condition _ subs) = lacks id left || lacks id right
own_splits id (Apply' kind _ left _ right) = false
own_splits id (Union' all _ left _ right) = true
own_splits id (Intersect' all _ left _ right) = false
own_splits id (Except' all _ left _ right) = false
own_splits id (Distinct' _ input) = true
own_splits id (Aggregate' _ input groups aggregates) = false
own_splits id (Limit' _ input keys count) = false
own_splits id (Prov' _ input) = false

abbrev pub splits : ℕ → Query → Bool
splits id (Table other kinds) = true
splits id Single = true
splits id (BaseOf input places label) = splits id input
splits id (FilterOf input condition _ subs) = splits id input
splits id (ProjectOf input items _ subs) = splits id input
splits id (JoinOf kind left right condition _ subs) = (lacks id left || lacks id right) && (splits id left && splits id right)
splits id (ApplyOf kind left right) = false
splits id (UnionOf all left right) = splits id left && splits id right
splits id (IntersectOf all left right) = false
splits id (ExceptOf all left right) = false
splits id (DistinctOf input) = splits id input
splits id (AggregateOf input groups aggregates) = false
splits id (LimitOf input keys count) = false
splits id (ProvOf input) = false
