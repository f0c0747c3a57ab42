-- A query over its own tables.
use Rattle.std.proofs.Common.{◌≡◌, ℕ, List, refl}
use Rattle.perm_values.specs.declared.kind.Kind.{Kind}
use Rattle.bag_algebra.specs.TablesRead.{EachTable, EachSubTable}
use Rattle.bag_algebra.specs.built.Patterns.{BaseOf, FilterOf, ProjectOf, JoinOf, ApplyOf, UnionOf, IntersectOf, ExceptOf, DistinctOf, AggregateOf, LimitOf, ProvOf}
use Rattle.bag_algebra.specs.declared.query.Query.{Query, Row_of-Sublink, more_of-Sublink, end_of-Sublink}
use Rattle.bag_algebra.specs.declared.query.Query.TheVariants.{Table, Single}
use Rattle.query_laws.specs.replaced.OverQueries.{over_queries, sub_over_queries}

module _ (at : ℕ → List Kind → Query) where
  mutual
    pub over-own_tables : (q : Query) → EachTable (λ id kinds. at id kinds ≡ Table id kinds) q → over_queries at q ≡ q
    over-own_tables (Table id kinds) h = h
    over-own_tables Single h = refl
    over-own_tables (BaseOf input places label) h = λ i. BaseOf (over-own_tables input h i) places label
    over-own_tables (FilterOf input condition form subs) h = λ i. FilterOf (over-own_tables input h.0 i) condition form (sub_over-own_tables subs h.1 i)
    over-own_tables (ProjectOf input items form subs) h = λ i. ProjectOf (over-own_tables input h.0 i) items form (sub_over-own_tables subs h.1 i)
    over-own_tables (JoinOf kind left right condition form subs) h =
        λ i. JoinOf kind (over-own_tables left h.0 i) (over-own_tables right h.1 i) condition form (sub_over-own_tables subs h.2 i)
    over-own_tables (ApplyOf kind left right) h = λ i. ApplyOf kind (over-own_tables left h.0 i) (over-own_tables right h.1 i)
    over-own_tables (UnionOf all left right) h = λ i. UnionOf all (over-own_tables left h.0 i) (over-own_tables right h.1 i)
    over-own_tables (IntersectOf all left right) h = λ i. IntersectOf all (over-own_tables left h.0 i) (over-own_tables right h.1 i)
    over-own_tables (ExceptOf all left right) h = λ i. ExceptOf all (over-own_tables left h.0 i) (over-own_tables right h.1 i)
    over-own_tables (DistinctOf input) h = λ i. DistinctOf (over-own_tables input h i)
    over-own_tables (AggregateOf input groups aggregates) h = λ i. AggregateOf (over-own_tables input h i) groups aggregates
    over-own_tables (LimitOf input keys count) h = λ i. LimitOf (over-own_tables input h i) keys count
    over-own_tables (ProvOf input) h = λ i. ProvOf (over-own_tables input h i)

    pub sub_over-own_tables : {m : _} (subs : Row_of-Sublink m) → EachSubTable (λ id kinds. at id kinds ≡ Table id kinds) subs → sub_over_queries at subs ≡ subs
    sub_over-own_tables end_of-Sublink h = refl
    sub_over-own_tables (more_of-Sublink kind tested query subs) h =
        λ i. more_of-Sublink kind tested (over-own_tables query h.0 i) (sub_over-own_tables subs h.1 i)
