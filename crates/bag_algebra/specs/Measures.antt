-- How high and how large a query is.
use Rattle.std.specs.Prelude.{ℕ, suc, ◌+◌, max}
use Rattle.bag_algebra.specs.built.Patterns.{BaseOf, FilterOf, ProjectOf, JoinOf, ApplyOf, UnionOf, IntersectOf, ExceptOf, DistinctOf, AggregateOf, LimitOf, ProvOf}
use Rattle.bag_algebra.specs.declared.query.Query.{Query, Row_of-Sublink, more_of-Sublink, end_of-Sublink}
use Rattle.bag_algebra.specs.declared.query.Query.TheVariants.{Table, Single}

abbrev mutual
  -- a table or an empty FROM is 1 high, every other operator one more than the highest of its inputs and its sublinks' queries
  pub height_of : Query → ℕ
  height_of (Table id kinds) = 1
  height_of Single = 1
  height_of (BaseOf input places label) = suc (height_of input)
  height_of (FilterOf input condition _ subs) = suc (max (height_of input) (sub_height subs))
  height_of (ProjectOf input items _ subs) = suc (max (height_of input) (sub_height subs))
  height_of (JoinOf kind left right condition _ subs) = suc (max (max (height_of left) (height_of right)) (sub_height subs))
  height_of (ApplyOf kind left right) = suc (max (height_of left) (height_of right))
  height_of (UnionOf all left right) = suc (max (height_of left) (height_of right))
  height_of (IntersectOf all left right) = suc (max (height_of left) (height_of right))
  height_of (ExceptOf all left right) = suc (max (height_of left) (height_of right))
  height_of (DistinctOf input) = suc (height_of input)
  height_of (AggregateOf input groups aggregates) = suc (height_of input)
  height_of (LimitOf input keys count) = suc (height_of input)
  height_of (ProvOf input) = suc (height_of input)

  -- the highest of the sublinks' queries
  pub sub_height : {m : _} → Row_of-Sublink m → ℕ
  sub_height end_of-Sublink = 0
  sub_height (more_of-Sublink kind tested query subs) = max (height_of query) (sub_height subs)

abbrev mutual
  -- every node is one operator, those of the sublinks' queries included
  pub size_of : Query → ℕ
  size_of (Table id kinds) = 1
  size_of Single = 1
  size_of (BaseOf input places label) = suc (size_of input)
  size_of (FilterOf input condition _ subs) = suc (size_of input + sub_size subs)
  size_of (ProjectOf input items _ subs) = suc (size_of input + sub_size subs)
  size_of (JoinOf kind left right condition _ subs) = suc (size_of left + size_of right + sub_size subs)
  size_of (ApplyOf kind left right) = suc (size_of left + size_of right)
  size_of (UnionOf all left right) = suc (size_of left + size_of right)
  size_of (IntersectOf all left right) = suc (size_of left + size_of right)
  size_of (ExceptOf all left right) = suc (size_of left + size_of right)
  size_of (DistinctOf input) = suc (size_of input)
  size_of (AggregateOf input groups aggregates) = suc (size_of input)
  size_of (LimitOf input keys count) = suc (size_of input)
  size_of (ProvOf input) = suc (size_of input)

  pub sub_size : {m : _} → Row_of-Sublink m → ℕ
  sub_size end_of-Sublink = 0
  sub_size (more_of-Sublink kind tested query subs) = size_of query + sub_size subs
