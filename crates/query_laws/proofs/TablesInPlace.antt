-- Which tables a query reads over queries in the place of its tables.
use Rattle.std.proofs.Common.{◌≡◌, ℕ, List, ◌++◌, refl, sym, ◌∙◌, append-nil}
use Rattle.std.proofs.lemmas.Grind.{flat_map-append}
use Rattle.std.specs.List.{flat_map}
use Rattle.perm_values.specs.declared.kind.Kind.{Kind}
use Rattle.bag_algebra.specs.TablesRead.{TableRead, tables_read, sub_tables_read, EachTable, EachSubTable}
use Rattle.bag_algebra.specs.built.Patterns.{BaseOf, FilterOf, ProjectOf, JoinOf, ApplyOf, UnionOf, IntersectOf, ExceptOf, DistinctOf, AggregateOf, LimitOf, ProvOf}
use Rattle.bag_algebra.specs.declared.query.Query.{Query, Row_of-Sublink, more_of-Sublink, end_of-Sublink}
use Rattle.bag_algebra.specs.declared.query.Query.TheVariants.{Table, Single}
use Rattle.query_laws.specs.replaced.OverQueries.{over_queries, sub_over_queries}
use Rattle.query_laws.specs.replaced.TablesOver.{read_at}

module _ (at : ℕ → List Kind → Query) where
  -- what is read in the place of these tables
  abbrev read_over : List TableRead → List TableRead
  read_over reads = flat_map (read_at at) reads

  both-over : {first more : List TableRead} (before after : List TableRead) → first ≡ read_over before → more ≡ read_over after →
      first ++ more ≡ read_over (before ++ after)
  both-over before after e f = (λ i. e i ++ f i) ∙ sym (flat_map-append (read_at at) before after)

  mutual
    pub tables-over : (q : Query) → tables_read (over_queries at q) ≡ read_over (tables_read q)
    tables-over (Table id kinds) = sym (append-nil (tables_read (at id kinds)))
    tables-over Single = refl
    tables-over (BaseOf input places label) = tables-over input
    tables-over (FilterOf input condition _ subs) = both-over (tables_read input) (sub_tables_read subs) (tables-over input) (sub_tables-over subs)
    tables-over (ProjectOf input items _ subs) = both-over (tables_read input) (sub_tables_read subs) (tables-over input) (sub_tables-over subs)
    tables-over (JoinOf kind left right condition _ subs) =
        both-over (tables_read left ++ tables_read right) (sub_tables_read subs)
        (both-over (tables_read left) (tables_read right) (tables-over left) (tables-over right)) (sub_tables-over subs)
    tables-over (ApplyOf kind left right) = both-over (tables_read left) (tables_read right) (tables-over left) (tables-over right)
    tables-over (UnionOf all left right) = both-over (tables_read left) (tables_read right) (tables-over left) (tables-over right)
    tables-over (IntersectOf all left right) = both-over (tables_read left) (tables_read right) (tables-over left) (tables-over right)
    tables-over (ExceptOf all left right) = both-over (tables_read left) (tables_read right) (tables-over left) (tables-over right)
    tables-over (DistinctOf input) = tables-over input
    tables-over (AggregateOf input groups aggregates) = tables-over input
    tables-over (LimitOf input keys count) = tables-over input
    tables-over (ProvOf input) = tables-over input

    pub sub_tables-over : {m : _} (subs : Row_of-Sublink m) → sub_tables_read (sub_over_queries at subs) ≡ read_over (sub_tables_read subs)
    sub_tables-over end_of-Sublink = refl
    sub_tables-over (more_of-Sublink kind tested query subs) =
        both-over (tables_read query) (sub_tables_read subs) (tables-over query) (sub_tables-over subs)

  -- what holds of each table that is read in the place of each table holds of each that is read
  module _ (P : ℕ → List Kind → Type 0) where
    mutual
      pub each_table-over : (q : Query) → EachTable (λ id kinds. EachTable P (at id kinds)) q → EachTable P (over_queries at q)
      each_table-over (Table id kinds) h = h
      each_table-over Single h = tt
      each_table-over (BaseOf input places label) h = each_table-over input h
      each_table-over (FilterOf input condition _ subs) h = (each_table-over input h.0, each_sub_table-over subs h.1)
      each_table-over (ProjectOf input items _ subs) h = (each_table-over input h.0, each_sub_table-over subs h.1)
      each_table-over (JoinOf kind left right condition _ subs) h = (each_table-over left h.0, each_table-over right h.1, each_sub_table-over subs h.2)
      each_table-over (ApplyOf kind left right) h = (each_table-over left h.0, each_table-over right h.1)
      each_table-over (UnionOf all left right) h = (each_table-over left h.0, each_table-over right h.1)
      each_table-over (IntersectOf all left right) h = (each_table-over left h.0, each_table-over right h.1)
      each_table-over (ExceptOf all left right) h = (each_table-over left h.0, each_table-over right h.1)
      each_table-over (DistinctOf input) h = each_table-over input h
      each_table-over (AggregateOf input groups aggregates) h = each_table-over input h
      each_table-over (LimitOf input keys count) h = each_table-over input h
      each_table-over (ProvOf input) h = each_table-over input h

      pub each_sub_table-over : {m : _} (subs : Row_of-Sublink m) → EachSubTable (λ id kinds. EachTable P (at id kinds)) subs → EachSubTable P (sub_over_queries at subs)
      each_sub_table-over end_of-Sublink h = tt
      each_sub_table-over (more_of-Sublink kind tested query subs) h = (each_table-over query h.0, each_sub_table-over subs h.1)
