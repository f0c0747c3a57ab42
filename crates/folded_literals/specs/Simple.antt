-- Simple queries: nowhere in one, sublinks included, stands a source, a filter on TRUE without sublinks, a DISTINCT over what has
-- no row twice, or an expression with a part over literals alone that is good.
use Rattle.std.specs.Prelude.{Bool, true, false, not, ◌&&◌}
use Rattle.bag_algebra.specs.Scoped.{no_subs}
use Rattle.bag_algebra.specs.built.Patterns.{OpOf, ChainOf, CaseOf, IsNullOf, IsTruthOf, SameOf, BaseOf, FilterOf, ProjectOf, JoinOf, ApplyOf, UnionOf, IntersectOf, ExceptOf, DistinctOf, AggregateOf, LimitOf, ProvOf}
use Rattle.bag_algebra.specs.declared.expr.Expr.{Expr}
use Rattle.bag_algebra.specs.declared.expr.Expr.TheVariants.{Col, Lit, Sub}
use Rattle.bag_algebra.specs.declared.query.Query.{Query, Row_of-Sublink, more_of-Sublink, end_of-Sublink}
use Rattle.bag_algebra.specs.declared.query.Query.TheVariants.{Table, Single}
use Rattle.query_laws.specs.EveryExpression.{option_passes, items_pass, arguments_pass}
use Rattle.simpler_laws.specs.Conjuncts.{is_always}
use Rattle.simpler_laws.specs.merged.Once.{gives_once}
use Rattle.folded_literals.specs.Settled.{is_settled}

-- the literal TRUE
abbrev pub is_true : Expr → Bool
is_true (Col level place) = false
is_true (Lit v kind) = is_always v
is_true (OpOf op _ parts) = false
is_true (ChainOf first _ steps) = false
is_true (CaseOf _ arms otherwise) = false
is_true (Sub number) = false
is_true (IsNullOf part) = false
is_true (IsTruthOf truth part) = false
is_true (SameOf first second) = false

abbrev mutual
  pub is_simple : Query → Bool
  is_simple (Table id kinds) = true
  is_simple Single = true
  is_simple (BaseOf input places label) = false
  is_simple (FilterOf input condition _ subs) = (is_simple input && subs_simple subs) && (is_settled condition && not (is_true condition && no_subs subs))
  is_simple (ProjectOf input items _ subs) = (is_simple input && subs_simple subs) && items_pass is_settled items
  is_simple (JoinOf kind left right condition _ subs) = ((is_simple left && is_simple right) && subs_simple subs) && is_settled condition
  is_simple (ApplyOf kind left right) = is_simple left && is_simple right
  is_simple (UnionOf all left right) = is_simple left && is_simple right
  is_simple (IntersectOf all left right) = is_simple left && is_simple right
  is_simple (ExceptOf all left right) = is_simple left && is_simple right
  is_simple (DistinctOf input) = is_simple input && not (gives_once input)
  is_simple (AggregateOf input groups aggregates) = is_simple input && arguments_pass is_settled aggregates
  is_simple (LimitOf input keys count) = is_simple input
  is_simple (ProvOf input) = is_simple input

  pub subs_simple : {m : _} → Row_of-Sublink m → Bool
  subs_simple end_of-Sublink = true
  subs_simple (more_of-Sublink kind tested query subs) = (option_passes is_settled tested && is_simple query) && subs_simple subs
