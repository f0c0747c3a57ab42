-- A query with queries in the place of its tables, and what has to hold of them so that nothing else changes.
use Rattle.std.specs.Prelude.{◌≡◌, ℕ, cond, ◌==◌, List, []}
use Rattle.perm_values.specs.declared.kind.Kind.{Kind}
use Rattle.bag_algebra.specs.Bags.{Row}
use Rattle.bag_algebra.specs.Kinds.{kinds_of, shape}
use Rattle.bag_algebra.specs.Meaning.{Database, meaning}
use Rattle.bag_algebra.specs.Outcome.{Good}
use Rattle.bag_algebra.specs.Rewriting.{SameRows}
use Rattle.bag_algebra.specs.TablesRead.{EachTable}
use Rattle.bag_algebra.specs.built.Patterns.{BaseOf, FilterOf, ProjectOf, JoinOf, ApplyOf, UnionOf, IntersectOf, ExceptOf, DistinctOf, AggregateOf, LimitOf, ProvOf}
use Rattle.bag_algebra.specs.declared.query.Query.{Query, Row_of-Sublink, more_of-Sublink, end_of-Sublink}
use Rattle.bag_algebra.specs.declared.query.Query.TheVariants.{Table, Single}

-- the query with a query in the place of each table that it reads, whatever the table stands in: sublinks, sources, PROVENANCE
abbrev mutual
  pub over_queries : (ℕ → List Kind → Query) → Query → Query
  over_queries at (Table id kinds) = at id kinds
  over_queries at Single = Single
  over_queries at (BaseOf input places label) = BaseOf (over_queries at input) places label
  over_queries at (FilterOf input condition form subs) = FilterOf (over_queries at input) condition form (sub_over_queries at subs)
  over_queries at (ProjectOf input items form subs) = ProjectOf (over_queries at input) items form (sub_over_queries at subs)
  over_queries at (JoinOf kind left right condition form subs) =
      JoinOf kind (over_queries at left) (over_queries at right) condition form (sub_over_queries at subs)
  over_queries at (ApplyOf kind left right) = ApplyOf kind (over_queries at left) (over_queries at right)
  over_queries at (UnionOf all left right) = UnionOf all (over_queries at left) (over_queries at right)
  over_queries at (IntersectOf all left right) = IntersectOf all (over_queries at left) (over_queries at right)
  over_queries at (ExceptOf all left right) = ExceptOf all (over_queries at left) (over_queries at right)
  over_queries at (DistinctOf input) = DistinctOf (over_queries at input)
  over_queries at (AggregateOf input groups aggregates) = AggregateOf (over_queries at input) groups aggregates
  over_queries at (LimitOf input keys count) = LimitOf (over_queries at input) keys count
  over_queries at (ProvOf input) = ProvOf (over_queries at input)

  pub sub_over_queries : (ℕ → List Kind → Query) → {m : _} → Row_of-Sublink m → Row_of-Sublink m
  sub_over_queries at end_of-Sublink = end_of-Sublink
  sub_over_queries at (more_of-Sublink kind tested query subs) =
      more_of-Sublink kind tested (over_queries at query) (sub_over_queries at subs)

-- p in the place of the table of this identity, every other table in its own
abbrev pub standing : ℕ → Query → ℕ → List Kind → Query
standing id p other kinds = cond (other == id) p (Table other kinds)

-- wherever the query reads the table of this identity, the table's columns have these kinds
abbrev pub ReadsAs : ℕ → List Kind → Query → Type 0
ReadsAs id kinds q = EachTable (λ other own. other ≡ id → own ≡ kinds) q

-- a query with the columns of a table: of these kinds, and no places
pub record HasColumns (kinds : List Kind) (p : Query) : Type 0 where
  pub columns : kinds_of p ≡ kinds
  pub places : shape p ≡ []

-- a query with the columns of a table, and under all outer rows with the rows that the database has for it
pub record HasTable (db : Database) (id : ℕ) (kinds : List Kind) (p : Query) : Type 0 where
  pub columns : HasColumns kinds p
  pub rows : (env : List Row) → SameRows (meaning p db env) (Good (db id))
