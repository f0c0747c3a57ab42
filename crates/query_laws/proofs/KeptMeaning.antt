-- Over queries that have the columns and the rows of its tables a query means the same.
use Rattle.std.proofs.Common.{◌≡◌, ◌≢◌, inl, inr, ℕ, Bool, true, false, cond, List, [], ◌∷◌, map, length, Some, refl, sym, ap, ◌∙◌, subst, subst₂}
use mathlib.Core.Bool.{true≢false}
use Rattle.perm_values.specs.declared.kind.Kind.{Kind}
use Rattle.perm_values.specs.declared.value.Value.{Value}
use Rattle.bag_algebra.proofs.BagLaws.{permuted-sym, permuted-from_same_bag, member-same_bag}
use Rattle.bag_algebra.proofs.Members.{IsIn}
use Rattle.bag_algebra.proofs.TablesRead.{each_table-kept}
use Rattle.bag_algebra.specs.Bags.{Row, Bag, SameBag, member}
use Rattle.bag_algebra.specs.Kinds.{shape, width_of}
use Rattle.bag_algebra.specs.Meaning.{Database, denote, sub_denote, meaning, witnesses, optional_value, condition_on, arguments_on}
use Rattle.bag_algebra.specs.Means.{Means, Witness, SubMeans, with_sub, all_empty, join_means, apply_means, union_means, except_means, aggregate_means}
use Rattle.bag_algebra.specs.Outcome.{Outcome, Good, Bad}
use Rattle.bag_algebra.specs.Rewriting.{SameRows}
use Rattle.bag_algebra.specs.TablesRead.{EachTable, EachSubTable}
use Rattle.bag_algebra.specs.built.Patterns.{BaseOf, FilterOf, ProjectOf, JoinOf, ApplyOf, UnionOf, IntersectOf, ExceptOf, DistinctOf, AggregateOf, LimitOf, ProvOf}
use Rattle.bag_algebra.specs.declared.expr.Expr.{Expr}
use Rattle.bag_algebra.specs.declared.query.Aggr.{Aggr}
use Rattle.bag_algebra.specs.declared.query.JoinKind.{JoinKind}
use Rattle.bag_algebra.specs.declared.query.Query.{Query, Row_of-Sublink, more_of-Sublink, end_of-Sublink}
use Rattle.bag_algebra.specs.declared.query.Query.TheVariants.{Table, Single}
use Rattle.bag_algebra.specs.declared.query.SubKind.{SubKind}
use Rattle.contribution.proofs.Agreement.{Agree, agree_good, agree-refl}
use Rattle.contribution.proofs.EntriesAtPlaces.{Rows, all-at}
use Rattle.contribution.proofs.ListedRows.{row-listed, some-in}
use Rattle.contribution.proofs.OrderOfGroups.{aggregate_means-alike}
use Rattle.contribution.proofs.OrderOfQueries.{AlikeSubs, no_subs-alike, with_sub-alike, filter_node, project_node, join_node, same_rows, same_members}
use Rattle.contribution.proofs.OrderOfRows.{Alike, unlisted_means-alike, base_means-alike, apply_means-alike}
use Rattle.contribution.proofs.OrderOfSets.{union_means-alike, intersect_means-alike, except_means-alike, distinct_means-alike, limit_means-alike, provenance_means-alike}
use Rattle.contribution.proofs.SharedMembers.{Shared}
use Rattle.contribution.specs.HeldRows.{held_rows, StandAt}
use Rattle.contribution.specs.SameMeaning.{SameMeaning}
use Rattle.query_laws.specs.replaced.OverQueries.{over_queries, sub_over_queries, HasTable}
use Rattle.query_laws.proofs.KeptColumns.{Columns, kinds-over, shape-over}

-- ---- a query that has a table's rows, and no places

no_entry : (rows : Rows) (w : Witness) → StandAt [] rows w → w ≡ []
no_entry [] [] s = refl
no_entry [] (entry ∷ entries) s = absurd s
no_entry (rows ∷ more) w s = absurd s

-- without places each list is the one without entries
list-without_places : (p : Query) (db : Database) (env : List Row) (t : Row) (w : Witness) → shape p ≡ [] → IsIn w (witnesses p db env t) → w ≡ []
list-without_places p db env t w places h =
    let held = held_rows p db (Some env) in
    no_entry held w (subst (λ ps. StandAt ps held w) places (((all-at p db (Some env) env (record { same = refl })).all t).each w h).stand)

-- lists without entries, some where there is a row
one_list : (b : Bool) (ws : List Witness) → ((w : Witness) → IsIn w ws → w ≡ []) → (b ≡ true → ws ≢ []) → (ws ≢ [] → b ≡ true) →
    Shared (cond b ([] ∷ []) []) ws
one_list true ws empty some row =
    let found = some-in ws (some refl) in record {
      there = record { within = λ w h. elim h [ inl e ↦ subst (λ v. IsIn v ws) (empty found.0 found.1 ∙ e) found.1 | inr n ↦ absurd n ] };
      back = record { within = λ w h. inl (sym (empty w h)) };
    }
one_list false ws empty some row = record {
  there = record { within = λ w h. absurd h };
  back = record { within = λ w h. absurd (true≢false (sym (row (λ none. subst (IsIn w) none h)))) };
}

good-of_same : (o : Outcome Bag) (us : Bag) → SameRows o (Good us) → (vs : Bag) × (o ≡ Good vs) × SameBag vs us
good-of_same (Good vs) us s = (vs, refl, s)
good-of_same (Bad f) us s = absurd s

table-alike : (db : Database) (id : ℕ) (kinds : List Kind) (p : Query) (env : List Row) → HasTable db id kinds p →
    Alike (denote (Table id kinds) db env) (denote p db env)
table-alike db id kinds p env h =
    let found = good-of_same (meaning p db env) (db id) (h.rows env) in
    let vs = found.0 in
    let same : (t : Row) → member t vs ≡ member t (db id) = λ t. member-same_bag t vs (db id) found.2 in record {
      rows = subst (Agree (Good (db id))) (sym found.1) (agree_good (permuted-sym (permuted-from_same_bag vs (db id) found.2)));
      lists = λ t. one_list (member t (db id)) (witnesses p db env t) (λ w i. list-without_places p db env t w h.columns.places i)
          (λ e. (row-listed p db env vs t found.1).0 (same t ∙ e)) (λ some. sym (same t) ∙ (row-listed p db env vs t found.1).1 some);
    }

-- ---- nodes whose inputs have the same columns and places

with_sub-over : (kind : SubKind) (tested : Row → Outcome Value) {m n : Row → Means} {blank other : Witness} {s r : SubMeans} →
    blank ≡ other → ((u : Row) → Alike (m u) (n u)) → AlikeSubs s r →
    AlikeSubs (with_sub kind tested m blank s) (with_sub kind tested n other r)
with_sub-over kind tested {m} {n} {blank} {other} {s} {r} e a more =
    subst (λ b. AlikeSubs (with_sub kind tested m blank s) (with_sub kind tested n b r)) e (with_sub-alike kind tested blank a more)

join-over : (kind : JoinKind) (condition : Expr) (env : List Row) {left_blank other_left right_blank other_right : Witness} {left_width left_other right_width right_other : ℕ}
    {s r : SubMeans} {k l m n : Means} → left_blank ≡ other_left → right_blank ≡ other_right → left_width ≡ left_other → right_width ≡ right_other →
    AlikeSubs s r → Alike k l → Alike m n →
    Alike (join_means kind (condition_on condition env s) s.contributions (record { left = left_blank; right = right_blank; subs = s.blank }) left_width right_width k m)
    (join_means kind (condition_on condition env r) r.contributions (record { left = other_left; right = other_right; subs = r.blank }) left_other right_other l n)
join-over kind condition env {left_blank} {other_left} {right_blank} {other_right} {left_width} {left_other} {right_width} {right_other} {s} {r} {k} {l} {m} {n} e f g h a b c =
    subst (Alike (join_means kind (condition_on condition env s) s.contributions (record { left = left_blank; right = right_blank; subs = s.blank }) left_width right_width k m))
    (λ i. join_means kind (condition_on condition env r) r.contributions (record { left = e i; right = f i; subs = r.blank }) (g i) (h i) l n)
    (join_node kind condition env left_blank right_blank left_width right_width a b c)

-- ---- queries

module _ (at : ℕ → List Kind → Query) (db : Database) where
  abbrev Tables : Query → Type 0
  Tables q = EachTable (λ id kinds. HasTable db id kinds (at id kinds)) q

  abbrev SubTables : {m : _} → Row_of-Sublink m → Type 0
  SubTables subs = EachSubTable (λ id kinds. HasTable db id kinds (at id kinds)) subs

  columns-of : (q : Query) → Tables q → Columns at q
  columns-of q h = each_table-kept _ _ (λ id kinds has. has.columns) q h

  blank-over : (q : Query) → Tables q → all_empty (shape q) ≡ all_empty (shape (over_queries at q))
  blank-over q h = ap all_empty (sym (shape-over at q (columns-of q h)))

  width-over : (q : Query) → Tables q → width_of q ≡ width_of (over_queries at q)
  width-over q h = ap length (sym (kinds-over at q (columns-of q h)))

  mutual
    denote-over : (q : Query) (env : List Row) → Tables q → Alike (denote q db env) (denote (over_queries at q) db env)
    denote-over (Table id kinds) env h = table-alike db id kinds (at id kinds) env h
    denote-over Single env h = unlisted_means-alike (agree-refl (Good ([] ∷ [])))
    denote-over (BaseOf input places label) env h = base_means-alike places (denote-over input env h)
    denote-over (FilterOf input condition _ subs) env h = filter_node condition env (sub_denote-over subs env h.1) (denote-over input env h.0)
    denote-over (ProjectOf input items _ subs) env h = project_node items env (sub_denote-over subs env h.1) (denote-over input env h.0)
    denote-over (JoinOf kind left right condition _ subs) env h =
        join-over kind condition env (blank-over left h.0) (blank-over right h.1) (width-over left h.0) (width-over right h.1)
        (sub_denote-over subs env h.2) (denote-over left env h.0) (denote-over right env h.1)
    denote-over (ApplyOf kind left right) env h =
        subst₂ (λ width blank. Alike (denote (ApplyOf kind left right) db env)
        (apply_means kind width blank (denote (over_queries at left) db env) (λ u. denote (over_queries at right) db (u ∷ env))))
        (width-over right h.1) (blank-over right h.1)
        (apply_means-alike kind (width_of right) (all_empty (shape right)) (denote-over left env h.0) (λ u. denote-over right (u ∷ env) h.1))
    denote-over (UnionOf all left right) env h =
        subst₂ (λ blank other. Alike (denote (UnionOf all left right) db env)
        (union_means all blank other (denote (over_queries at left) db env) (denote (over_queries at right) db env)))
        (blank-over left h.0) (blank-over right h.1)
        (union_means-alike all (all_empty (shape left)) (all_empty (shape right)) (denote-over left env h.0) (denote-over right env h.1))
    denote-over (IntersectOf all left right) env h = intersect_means-alike all (denote-over left env h.0) (denote-over right env h.1)
    denote-over (ExceptOf all left right) env h =
        subst (λ blank. Alike (denote (ExceptOf all left right) db env)
        (except_means all blank (denote (over_queries at left) db env) (denote (over_queries at right) db env)))
        (blank-over right h.1) (except_means-alike all (all_empty (shape right)) (denote-over left env h.0) (denote-over right env h.1))
    denote-over (DistinctOf input) env h = distinct_means-alike (denote-over input env h)
    denote-over (AggregateOf input groups aggregates) env h =
        let functions = map (λ (aggregate : Aggr). aggregate.function) aggregates in
        subst (λ blank. Alike (denote (AggregateOf input groups aggregates) db env)
        (aggregate_means groups functions (arguments_on aggregates env) blank (denote (over_queries at input) db env)))
        (blank-over input h) (aggregate_means-alike groups functions (arguments_on aggregates env) (all_empty (shape input)) (denote-over input env h))
    denote-over (LimitOf input keys count) env h = limit_means-alike keys count (denote-over input env h)
    denote-over (ProvOf input) env h = provenance_means-alike (denote-over input env h)

    sub_denote-over : {m : _} (subs : Row_of-Sublink m) (env : List Row) → SubTables subs →
        AlikeSubs (sub_denote subs db env) (sub_denote (sub_over_queries at subs) db env)
    sub_denote-over end_of-Sublink env h = no_subs-alike
    sub_denote-over (more_of-Sublink kind tested query subs) env h =
        with_sub-over kind (optional_value tested env) (blank-over query h.0) (λ u. denote-over query (u ∷ env) h.0) (sub_denote-over subs env h.1)

-- ---- as the law says it

pub same_meaning-over : (at : ℕ → List Kind → Query) (q : Query) (db : Database) (env : List Row) →
    EachTable (λ id kinds. HasTable db id kinds (at id kinds)) q → SameMeaning (denote q db env) (denote (over_queries at q) db env)
same_meaning-over at q db env h =
    let a = denote-over at db q env h in
    record { rows = same_rows a.rows; lists = λ t. same_members (a.lists t) }
