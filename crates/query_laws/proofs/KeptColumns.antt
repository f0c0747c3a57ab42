-- Queries that have the columns of the tables that they stand for leave a query its columns and its places.
use Rattle.std.proofs.Common.{◌≡◌, ℕ, List, [], ◌∷◌, ◌++◌, map, refl}
use Rattle.perm_values.specs.declared.kind.Kind.{Kind}
use Rattle.bag_algebra.specs.Kinds.{kinds_of, kinds_in, shape, sub_shape, place_kinds}
use Rattle.bag_algebra.specs.TablesRead.{EachTable, EachSubTable}
use Rattle.bag_algebra.specs.WellFormed.{sub_kind, sub_kinds}
use Rattle.bag_algebra.specs.built.Patterns.{BaseOf, FilterOf, ProjectOf, JoinOf, ApplyOf, UnionOf, IntersectOf, ExceptOf, DistinctOf, AggregateOf, LimitOf, ProvOf}
use Rattle.bag_algebra.specs.declared.query.Aggr.{Aggr}
use Rattle.bag_algebra.specs.declared.query.Query.{Query, Row_of-Sublink, more_of-Sublink, end_of-Sublink}
use Rattle.bag_algebra.specs.declared.query.Query.TheVariants.{Table, Single}
use Rattle.query_laws.specs.replaced.OverQueries.{over_queries, sub_over_queries, HasColumns}

-- what stands for each table has its columns
abbrev pub Columns : (ℕ → List Kind → Query) → Query → Type 0
Columns at q = EachTable (λ id kinds. HasColumns kinds (at id kinds)) q

abbrev pub SubColumns : (ℕ → List Kind → Query) → {m : _} → Row_of-Sublink m → Type 0
SubColumns at subs = EachSubTable (λ id kinds. HasColumns kinds (at id kinds)) subs

module _ (at : ℕ → List Kind → Query) where
  mutual
    pub kinds-over : (q : Query) → Columns at q → kinds_of (over_queries at q) ≡ kinds_of q
    kinds-over (Table id kinds) h = h.columns
    kinds-over Single h = refl
    kinds-over (BaseOf input places label) h = kinds-over input h
    kinds-over (FilterOf input condition _ subs) h = kinds-over input h.0
    kinds-over (ProjectOf input items _ subs) h = refl
    kinds-over (JoinOf kind left right condition _ subs) h = λ i. kinds-over left h.0 i ++ kinds-over right h.1 i
    kinds-over (ApplyOf kind left right) h = λ i. kinds-over left h.0 i ++ kinds-over right h.1 i
    kinds-over (UnionOf all left right) h = kinds-over left h.0
    kinds-over (IntersectOf all left right) h = kinds-over left h.0
    kinds-over (ExceptOf all left right) h = kinds-over left h.0
    kinds-over (DistinctOf input) h = kinds-over input h
    kinds-over (AggregateOf input groups aggregates) h =
        λ i. kinds_in (kinds-over input h i) groups ++ map (λ (aggregate : Aggr). aggregate.kind) aggregates
    kinds-over (LimitOf input keys count) h = kinds-over input h
    kinds-over (ProvOf input) h = λ i. kinds-over input h i ++ place_kinds (shape-over input h i)

    pub shape-over : (q : Query) → Columns at q → shape (over_queries at q) ≡ shape q
    shape-over (Table id kinds) h = h.places
    shape-over Single h = refl
    shape-over (BaseOf input places label) h = λ i. record { label = label; kinds = kinds_in (kinds-over input h i) places } ∷ []
    shape-over (FilterOf input condition _ subs) h = λ i. shape-over input h.0 i ++ sub_shape-over subs h.1 i
    shape-over (ProjectOf input items _ subs) h = λ i. shape-over input h.0 i ++ sub_shape-over subs h.1 i
    shape-over (JoinOf kind left right condition _ subs) h =
        λ i. shape-over left h.0 i ++ shape-over right h.1 i ++ sub_shape-over subs h.2 i
    shape-over (ApplyOf kind left right) h = λ i. shape-over left h.0 i ++ shape-over right h.1 i
    shape-over (UnionOf all left right) h = λ i. shape-over left h.0 i ++ shape-over right h.1 i
    shape-over (IntersectOf all left right) h = λ i. shape-over left h.0 i ++ shape-over right h.1 i
    shape-over (ExceptOf all left right) h = λ i. shape-over left h.0 i ++ shape-over right h.1 i
    shape-over (DistinctOf input) h = shape-over input h
    shape-over (AggregateOf input groups aggregates) h = shape-over input h
    shape-over (LimitOf input keys count) h = shape-over input h
    shape-over (ProvOf input) h = refl

    pub sub_shape-over : {m : _} (subs : Row_of-Sublink m) → SubColumns at subs → sub_shape (sub_over_queries at subs) ≡ sub_shape subs
    sub_shape-over end_of-Sublink h = refl
    sub_shape-over (more_of-Sublink kind tested query subs) h = λ i. shape-over query h.0 i ++ sub_shape-over subs h.1 i

  pub sub_kinds-over : {m : _} (subs : Row_of-Sublink m) → SubColumns at subs → sub_kinds (sub_over_queries at subs) ≡ sub_kinds subs
  sub_kinds-over end_of-Sublink h = refl
  sub_kinds-over (more_of-Sublink kind tested query subs) h = λ i. sub_kind kind (kinds-over query h.0 i) ∷ sub_kinds-over subs h.1 i
