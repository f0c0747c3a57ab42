-- When a plain query is a rewriting of a query: on every database and under all outer rows that fit, its rows are, as a
-- set, those of the query's PROVENANCE, and it meets the same faults (after Glavic and Alonso, ICDE 2009). And when a plain
-- query stands for a query: it has the same rows, as often.
use Rattle.std.specs.Prelude.{◌≡◌, Bool, true, false, ◌&&◌, List, ◌++◌}
use Rattle.perm_values.specs.declared.kind.Kind.{Kind}
use Rattle.bag_algebra.specs.Bags.{Row, Bag, SameBag, member}
use Rattle.bag_algebra.specs.Fits.{TablesFit, env_fits}
use Rattle.bag_algebra.specs.Kinds.{kinds_of, shape, place_kinds}
use Rattle.bag_algebra.specs.Meaning.{Database, meaning}
use Rattle.bag_algebra.specs.Outcome.{Outcome, Good, Bad}
use Rattle.bag_algebra.specs.built.Patterns.{BaseOf, FilterOf, ProjectOf, JoinOf, ApplyOf, UnionOf, IntersectOf, ExceptOf, DistinctOf, AggregateOf, LimitOf, ProvOf}
use Rattle.bag_algebra.specs.TablesRead.{ReadsAmong}
use Rattle.bag_algebra.specs.WellFormed.{WellFormed}
use Rattle.bag_algebra.specs.declared.query.Query.{Query, Row_of-Sublink, more_of-Sublink, end_of-Sublink}
use Rattle.bag_algebra.specs.declared.query.Query.TheVariants.{Table, Single}

-- no PROVENANCE anywhere, sublinks included
abbrev mutual
  pub is_plain : Query → Bool
  is_plain (Table id kinds) = true
  is_plain Single = true
  is_plain (BaseOf input places label) = is_plain input
  is_plain (FilterOf input condition _ subs) = is_plain input && subs_plain subs
  is_plain (ProjectOf input items _ subs) = is_plain input && subs_plain subs
  is_plain (JoinOf kind left right condition _ subs) = is_plain left && is_plain right && subs_plain subs
  is_plain (ApplyOf kind left right) = is_plain left && is_plain right
  is_plain (UnionOf all left right) = is_plain left && is_plain right
  is_plain (IntersectOf all left right) = is_plain left && is_plain right
  is_plain (ExceptOf all left right) = is_plain left && is_plain right
  is_plain (DistinctOf input) = is_plain input
  is_plain (AggregateOf input groups aggregates) = is_plain input
  is_plain (LimitOf input keys count) = is_plain input
  is_plain (ProvOf input) = false

  pub subs_plain : {m : _} → Row_of-Sublink m → Bool
  subs_plain end_of-Sublink = true
  subs_plain (more_of-Sublink kind tested query subs) = is_plain query && subs_plain subs

-- the same set of faults, or the same set of rows
abbrev pub SameSet : Outcome Bag → Outcome Bag → Type 0
SameSet (Good us) (Good vs) = (t : Row) → member t us ≡ member t vs
SameSet (Good us) (Bad g) = ⊥
SameSet (Bad f) (Good vs) = ⊥
SameSet (Bad f) (Bad g) = f ≡ g

-- the same set of faults, or the same bag
abbrev pub SameRows : Outcome Bag → Outcome Bag → Type 0
SameRows (Good us) (Good vs) = SameBag us vs
SameRows (Good us) (Bad g) = ⊥
SameRows (Bad f) (Good vs) = ⊥
SameRows (Bad f) (Bad g) = f ≡ g

-- p is a rewriting of q; a query that is well formed nowhere may have columns of other kinds
pub record IsRewrite (q p : Query) : Type 0 where
  pub plain : is_plain p ≡ true
  pub kinds : (outer : List (List Kind)) → WellFormed outer q → kinds_of p ≡ kinds_of q ++ place_kinds (shape q)
  pub formed : (outer : List (List Kind)) → WellFormed outer q → WellFormed outer p
  pub tables : ReadsAmong p q
  pub rows : (outer : List (List Kind)) (db : Database) (env : List Row) →
      WellFormed outer q → TablesFit db q → env_fits env outer ≡ true →
      SameSet (meaning (ProvOf q) db env) (meaning p db env)

-- b stands for q: a plain query that reads q's tables alone and means what q means, up to the order of its rows
pub record Stands (q b : Query) : Type 0 where
  pub plain : is_plain b ≡ true
  pub kinds : (outer : List (List Kind)) → WellFormed outer q → kinds_of b ≡ kinds_of q
  pub formed : (outer : List (List Kind)) → WellFormed outer q → WellFormed outer b
  pub tables : ReadsAmong b q
  pub rows : (outer : List (List Kind)) (db : Database) (env : List Row) →
      WellFormed outer q → TablesFit db q → env_fits env outer ≡ true →
      SameRows (meaning q db env) (meaning b db env)
