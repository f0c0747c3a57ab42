-- The tests by which code chooses how a query is written.
use Rattle.std.specs.Prelude.{Bool, true, false, ◌&&◌}
use Rattle.bag_algebra.specs.Kinds.{width_of}
use Rattle.bag_algebra.specs.built.Patterns.{BaseOf, FilterOf, ProjectOf, JoinOf, ApplyOf, UnionOf, IntersectOf, ExceptOf, DistinctOf, AggregateOf, LimitOf, ProvOf}
use Rattle.bag_algebra.specs.declared.query.Query.{Query}
use Rattle.bag_algebra.specs.declared.query.Query.TheVariants.{Table, Single}
use Rattle.query_texts.specs.clauses.Chains.{is_chained}
use Rattle.tree_texts.specs.expressions.Words.{is_any}

-- one SELECT without groups that gives the columns, so that DISTINCT may stand in it
abbrev pub is_select : Query → Bool
is_select (Table id kinds) = true
is_select Single = true
is_select (BaseOf input places label) = false
is_select (FilterOf input condition _ subs) = true
is_select (ProjectOf input items _ subs) = true
is_select (JoinOf kind left right condition _ subs) = is_chained kind
is_select (ApplyOf kind left right) = true
is_select (UnionOf all left right) = false
is_select (IntersectOf all left right) = false
is_select (ExceptOf all left right) = false
is_select (DistinctOf input) = false
is_select (AggregateOf input groups aggregates) = false
is_select (LimitOf input keys count) = false
is_select (ProvOf input) = false

-- a FROM with or without a WHERE, whose columns are the query's
abbrev pub is_block : Query → Bool
is_block (Table id kinds) = false
is_block Single = false
is_block (BaseOf input places label) = false
is_block (FilterOf input condition _ subs) = true
is_block (ProjectOf input items _ subs) = false
is_block (JoinOf kind left right condition _ subs) = is_chained kind
is_block (ApplyOf kind left right) = true
is_block (UnionOf all left right) = false
is_block (IntersectOf all left right) = false
is_block (ExceptOf all left right) = false
is_block (DistinctOf input) = false
is_block (AggregateOf input groups aggregates) = false
is_block (LimitOf input keys count) = false
is_block (ProvOf input) = false

-- a FROM that joins may follow: the columns of what they join stand right behind the query's, so the last source has columns
abbrev pub is_chain : Query → Bool
is_chain (Table id kinds) = false
is_chain Single = false
is_chain (BaseOf input places label) = false
is_chain (FilterOf input condition _ subs) = false
is_chain (ProjectOf input items _ subs) = false
is_chain (JoinOf kind left right condition _ subs) = is_chained kind && is_any (width_of right)
is_chain (ApplyOf kind left right) = is_any (width_of right)
is_chain (UnionOf all left right) = false
is_chain (IntersectOf all left right) = false
is_chain (ExceptOf all left right) = false
is_chain (DistinctOf input) = false
is_chain (AggregateOf input groups aggregates) = false
is_chain (LimitOf input keys count) = false
is_chain (ProvOf input) = false
