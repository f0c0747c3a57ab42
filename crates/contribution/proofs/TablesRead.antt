-- A query reads its own tables alone, and the order of their rows decides nothing of what fits it.
use Rattle.std.proofs.Common.{◌≡◌, Bool, true, ◌&&◌, List, ◌∷◌, map, refl, sym, ap, ◌∙◌}
use Rattle.std.specs.List.{list_all}
use Rattle.perm_values.specs.Rows.{row_fits}
use Rattle.perm_values.specs.declared.kind.Kind.{Kind}
use Rattle.bag_algebra.proofs.TablesRead.{each_table-both}
use Rattle.bag_algebra.proofs.BagLaws.{Permuted, nothing, onward, turn, joined, permuted-from_same_bag}
use Rattle.bag_algebra.proofs.Truths.{and_turn}
use Rattle.bag_algebra.specs.Bags.{Row, Bag, SameBag}
use Rattle.bag_algebra.specs.Fits.{bag_fits, TablesFit}
use Rattle.bag_algebra.specs.Kinds.{shape, width_of}
use Rattle.bag_algebra.specs.Meaning.{Database, denote, sub_denote, optional_value, condition_on, items_on, arguments_on}
use Rattle.bag_algebra.specs.Means.{with_sub, all_empty, unlisted_means, base_means, filter_means, project_means, join_means, apply_means, union_means, intersect_means, except_means, distinct_means, aggregate_means, limit_means, provenance_means}
use Rattle.bag_algebra.specs.Outcome.{Good}
use Rattle.bag_algebra.specs.built.Patterns.{BaseOf, FilterOf, ProjectOf, JoinOf, ApplyOf, UnionOf, IntersectOf, ExceptOf, DistinctOf, AggregateOf, LimitOf, ProvOf}
use Rattle.bag_algebra.specs.declared.query.Aggr.{Aggr}
use Rattle.bag_algebra.specs.declared.query.Query.{Query, Row_of-Sublink, more_of-Sublink, end_of-Sublink}
use Rattle.bag_algebra.specs.declared.query.Query.TheVariants.{Table, Single}
use Rattle.bag_algebra.specs.TablesRead.{EachSubTable}
use Rattle.contribution.specs.SameMeaning.{SameTables, EqualTables}

-- ---- the same rows

mutual
  pub denote-equal_tables : (q : Query) (db other : Database) (env : List Row) → EqualTables db other q → denote q db env ≡ denote q other env
  denote-equal_tables (Table id kinds) db other env e = λ i. unlisted_means (Good (e i))
  denote-equal_tables Single db other env e = refl
  denote-equal_tables (BaseOf input places label) db other env e = λ i. base_means places (denote-equal_tables input db other env e i)
  denote-equal_tables (FilterOf input condition _ subs) db other env e =
      let s = sub_denote-equal_tables subs db other env e.1 in
      λ i. filter_means (condition_on condition env (s i)) (s i).contributions (denote-equal_tables input db other env e.0 i)
  denote-equal_tables (ProjectOf input items _ subs) db other env e =
      let s = sub_denote-equal_tables subs db other env e.1 in
      λ i. project_means (items_on items env (s i)) (s i).contributions (denote-equal_tables input db other env e.0 i)
  denote-equal_tables (JoinOf kind left right condition _ subs) db other env e =
      let s = sub_denote-equal_tables subs db other env e.2 in
      λ i. join_means kind (condition_on condition env (s i)) (s i).contributions (record { left = all_empty (shape left); right = all_empty (shape right); subs = (s i).blank })
      (width_of left) (width_of right) (denote-equal_tables left db other env e.0 i) (denote-equal_tables right db other env e.1 i)
  denote-equal_tables (ApplyOf kind left right) db other env e =
      λ i. apply_means kind (width_of right) (all_empty (shape right)) (denote-equal_tables left db other env e.0 i)
      (λ u. denote-equal_tables right db other (u ∷ env) e.1 i)
  denote-equal_tables (UnionOf all left right) db other env e =
      λ i. union_means all (all_empty (shape left)) (all_empty (shape right)) (denote-equal_tables left db other env e.0 i) (denote-equal_tables right db other env e.1 i)
  denote-equal_tables (IntersectOf all left right) db other env e =
      λ i. intersect_means all (denote-equal_tables left db other env e.0 i) (denote-equal_tables right db other env e.1 i)
  denote-equal_tables (ExceptOf all left right) db other env e =
      λ i. except_means all (all_empty (shape right)) (denote-equal_tables left db other env e.0 i) (denote-equal_tables right db other env e.1 i)
  denote-equal_tables (DistinctOf input) db other env e = λ i. distinct_means (denote-equal_tables input db other env e i)
  denote-equal_tables (AggregateOf input groups aggregates) db other env e =
      λ i. aggregate_means groups (map (λ (aggregate : Aggr). aggregate.function) aggregates) (arguments_on aggregates env) (all_empty (shape input)) (denote-equal_tables input db other env e i)
  denote-equal_tables (LimitOf input keys count) db other env e = λ i. limit_means keys count (denote-equal_tables input db other env e i)
  denote-equal_tables (ProvOf input) db other env e = λ i. provenance_means (denote-equal_tables input db other env e i)

  pub sub_denote-equal_tables : {m : _} (subs : Row_of-Sublink m) (db other : Database) (env : List Row) →
      EachSubTable (λ id kinds. db id ≡ other id) subs →
      sub_denote subs db env ≡ sub_denote subs other env
  sub_denote-equal_tables end_of-Sublink db other env e = refl
  sub_denote-equal_tables (more_of-Sublink kind tested query subs) db other env e =
      λ i. with_sub kind (optional_value tested env) (λ u. denote-equal_tables query db other (u ∷ env) e.0 i) (all_empty (shape query)) (sub_denote-equal_tables subs db other env e.1 i)

-- ---- the same bags

all-permuted : {X : Type 0} (test : X → Bool) {us vs : List X} → Permuted us vs → list_all test us ≡ list_all test vs
all-permuted test nothing = refl
all-permuted test (onward u p) = ap (λ b. test u && b) (all-permuted test p)
all-permuted test (turn u v us) = and_turn (test u) (test v) (list_all test us)
all-permuted test (joined p q) = all-permuted test p ∙ all-permuted test q

bag_fits-same_bag : (us vs : Bag) (kinds : List Kind) → SameBag us vs → bag_fits us kinds ≡ true → bag_fits vs kinds ≡ true
bag_fits-same_bag us vs kinds s e = sym (all-permuted (λ row. row_fits row kinds) (permuted-from_same_bag us vs s)) ∙ e

pub tables_fit-same_tables : (q : Query) (db other : Database) → SameTables db other q → TablesFit db q → TablesFit other q
tables_fit-same_tables q db other s f =
    each_table-both _ _ (λ id kinds. bag_fits (other id) kinds ≡ true) (λ id kinds same fits. bag_fits-same_bag (db id) (other id) kinds same fits) q s f
