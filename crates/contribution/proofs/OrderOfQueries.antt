-- Databases whose bags are the same give a query one meaning, sublinks included.
use Rattle.std.proofs.Common.{◌≡◌, ℕ, Bool, true, false, cond, List, [], ◌∷◌, ◌++◌, map, refl, ap, ◌∙◌, subst, subst₂}
use Rattle.null_logic.specs.Comparison.{compare_values}
use Rattle.null_logic.specs.Logic.{is_true, truth_not, value_of}
use Rattle.null_logic.specs.declared.compare.Compare.{Compare}
use Rattle.null_logic.specs.declared.truth.Truth.{Truth}
use Rattle.null_logic.specs.declared.truth.Truth.TheVariants.{True, False, Unknown}
use Rattle.perm_values.specs.Values.{is_null}
use Rattle.perm_values.specs.declared.value.Value.{Value}
use Rattle.perm_values.specs.declared.value.Value.TheVariants.{Boolean}
use Rattle.bag_algebra.proofs.BagLaws.{Permuted, nothing, onward, turn, joined, permuted-map, permuted-filter, permuted-from_same_bag, same_bag-from_permuted}
use Rattle.bag_algebra.specs.Bags.{Row, Bag, SameBag}
use Rattle.bag_algebra.specs.Expressions.{value}
use Rattle.bag_algebra.specs.Kinds.{shape, width_of}
use Rattle.bag_algebra.specs.Meaning.{Database, denote, sub_denote, optional_value, condition_on, items_on, arguments_on}
use Rattle.bag_algebra.specs.Means.{Means, Witness, SubMeans, no_subs, with_sub, some_of, all_of, cell, comparisons, is_some_row, scalar, sub_value, chosen, contribution_of, good_value, all_empty, filter_means, project_means, join_means}
use Rattle.bag_algebra.specs.Outcome.{Outcome, Good, Bad, and_then, both, both_then, each}
use Rattle.bag_algebra.specs.built.Patterns.{BaseOf, FilterOf, ProjectOf, JoinOf, ApplyOf, UnionOf, IntersectOf, ExceptOf, DistinctOf, AggregateOf, LimitOf, ProvOf}
use Rattle.bag_algebra.specs.declared.expr.Expr.{Expr}
use Rattle.bag_algebra.specs.declared.expr.Item.{Item}
use Rattle.bag_algebra.specs.declared.query.Aggr.{Aggr}
use Rattle.bag_algebra.specs.declared.query.JoinKind.{JoinKind}
use Rattle.bag_algebra.specs.declared.query.Query.{Query, Row_of-Sublink, more_of-Sublink, end_of-Sublink}
use Rattle.bag_algebra.specs.declared.query.Query.TheVariants.{Table, Single}
use Rattle.bag_algebra.specs.declared.query.SubKind.{SubKind}
use Rattle.bag_algebra.specs.declared.query.SubKind.TheVariants.{Exists, Any, All, Scalar}
use Rattle.contribution.proofs.Agreement.{Agree, agree_good, agree_bad, agree-refl}
use Rattle.bag_algebra.proofs.MembersByIndex.{in-from_contains, contains-from_in}
use Rattle.contribution.proofs.OrderOfGroups.{aggregate_means-alike}
use Rattle.contribution.proofs.OrderOfRows.{Alike, any-permuted, permuted-good_rows, unlisted_means-alike, base_means-alike, SameContributions, filter_means-alike, project_means-alike, join_means-alike, apply_means-alike}
use Rattle.contribution.proofs.OrderOfSets.{shared-either, union_means-alike, intersect_means-alike, except_means-alike, distinct_means-alike, limit_means-alike, provenance_means-alike}
use Rattle.contribution.proofs.SharedMembers.{Shared, shared-refl, shared-permuted, shared-flat_map, none_each, next_each}
use Rattle.bag_algebra.specs.TablesRead.{EachSubTable}
use Rattle.bag_algebra.specs.Rewriting.{SameRows}
use Rattle.contribution.specs.SameMeaning.{SameTables, SameMembers, SameMeaning}

-- ---- sublinks

pub is_some_row-permuted : {us vs : Bag} → Permuted us vs → is_some_row us ≡ is_some_row vs
is_some_row-permuted nothing = refl
is_some_row-permuted (onward u p) = refl
is_some_row-permuted (turn u v us) = refl
is_some_row-permuted (joined p q) = is_some_row-permuted p ∙ is_some_row-permuted q

several_permuted : (u : Row) {us vs : Bag} → Permuted us vs → scalar (u ∷ us) ≡ scalar (u ∷ vs)
several_permuted u nothing = refl
several_permuted u (onward v p) = refl
several_permuted u (turn v w us) = refl
several_permuted u (joined p q) = several_permuted u p ∙ several_permuted u q

pub scalar-permuted : {us vs : Bag} → Permuted us vs → scalar us ≡ scalar vs
scalar-permuted nothing = refl
scalar-permuted (onward u p) = several_permuted u p
scalar-permuted (turn u v us) = refl
scalar-permuted (joined p q) = scalar-permuted p ∙ scalar-permuted q

some_of-permuted : {ts us : List Truth} → Permuted ts us → some_of ts ≡ some_of us
some_of-permuted p = λ i. cond (any-permuted is_true p i) True (cond (any-permuted (λ t. is_null (value_of t)) p i) Unknown False)

all_of-permuted : {ts us : List Truth} → Permuted ts us → all_of ts ≡ all_of us
all_of-permuted p = λ i. cond (any-permuted (λ t. is_true (truth_not t)) p i) False (cond (any-permuted (λ t. is_null (value_of t)) p i) Unknown True)

comparisons-permuted : (c : Compare) (x : Value) {us vs : Bag} → Permuted us vs → Permuted (comparisons c x us) (comparisons c x vs)
comparisons-permuted c x p = permuted-map (λ row. compare_values c x (cell row)) p

pub sub_value-permuted : (kind : SubKind) (x : Value) {us vs : Bag} → Permuted us vs → sub_value kind x us ≡ sub_value kind x vs
sub_value-permuted Exists x p = ap (λ b. Good (Boolean b)) (is_some_row-permuted p)
sub_value-permuted (Any c) x p = ap (λ t. Good (value_of t)) (some_of-permuted (comparisons-permuted c x p))
sub_value-permuted (All c) x p = ap (λ t. Good (value_of t)) (all_of-permuted (comparisons-permuted c x p))
sub_value-permuted Scalar x p = scalar-permuted p

permuted-cond : (b d : Bool) {us vs xs ys : Bag} → b ≡ d → Permuted us vs → Permuted xs ys → Permuted (cond b us xs) (cond d vs ys)
permuted-cond b d {us} {vs} {xs} {ys} e p q = subst (λ c. Permuted (cond b us xs) (cond c vs ys)) e (alike b) where
  alike : (c : Bool) → Permuted (cond c us xs) (cond c vs ys)
  alike true = p
  alike false = q

pub chosen-permuted : (kind : SubKind) (x : Value) {us vs : Bag} → Permuted us vs → Permuted (chosen kind x us) (chosen kind x vs)
chosen-permuted Exists x p = p
chosen-permuted (Any c) x p =
    permuted-cond _ _ (ap is_true (some_of-permuted (comparisons-permuted c x p))) (permuted-filter (λ row. is_true (compare_values c x (cell row))) p) p
chosen-permuted (All c) x p =
    permuted-cond _ _ (ap (λ t. is_true (truth_not t)) (all_of-permuted (comparisons-permuted c x p)))
    (permuted-filter (λ row. is_true (truth_not (compare_values c x (cell row)))) p) p
chosen-permuted Scalar x p = p

pub contribution_of-alike : (blank : Witness) (kind : SubKind) (x : Value) {m n : Means} → Alike m n →
    Shared (contribution_of blank kind x m) (contribution_of blank kind x n)
contribution_of-alike blank kind x {m} {n} a =
    let p = permuted-good_rows a.rows in
    shared-either _ _ (is_some_row-permuted p) (shared-flat_map m.lists n.lists (shared-permuted (chosen-permuted kind x p)) a.lists) (shared-refl (blank ∷ []))

sub_answer-alike : (kind : SubKind) (x : Outcome Value) {o p : Outcome Bag} → Agree o p →
    both_then x o (sub_value kind) ≡ both_then x p (sub_value kind)
sub_answer-alike kind (Good x) (agree_good p) = sub_value-permuted kind x p
sub_answer-alike kind (Good x) (agree_bad f) = refl
sub_answer-alike kind (Bad g) (agree_good p) = refl
sub_answer-alike kind (Bad g) (agree_bad f) = refl

-- the sublinks of a node have the same values, and the same contributions
pub record AlikeSubs (s r : SubMeans) : Type 0 where
  pub answers : (u : Row) → s.answers u ≡ r.answers u
  pub contributions : SameContributions s.contributions r.contributions
  pub blank : s.blank ≡ r.blank

pub no_subs-alike : AlikeSubs no_subs no_subs
no_subs-alike = record { answers = λ u. refl; contributions = record { on = λ u. none_each }; blank = refl }

pub with_sub-alike : (kind : SubKind) (tested : Row → Outcome Value) {m n : Row → Means} (blank : Witness) {s r : SubMeans} →
    ((u : Row) → Alike (m u) (n u)) → AlikeSubs s r →
    AlikeSubs (with_sub kind tested m blank s) (with_sub kind tested n blank r)
with_sub-alike kind tested blank a more = record {
  answers = λ u i. both (λ v vs. v ∷ vs) (sub_answer-alike kind (tested u) (a u).rows i) (more.answers u i);
  contributions = record { on = λ u. next_each (contribution_of-alike blank kind (good_value (tested u)) (a u)) (more.contributions.on u) };
  blank = ap (λ w. blank ++ w) more.blank;
}

condition_on-alike : (condition : Expr) (env : List Row) {s r : SubMeans} → AlikeSubs s r →
    condition_on condition env s ≡ condition_on condition env r
condition_on-alike condition env a = λ i u. and_then (a.answers u i) (value condition u env)

items_on-alike : (items : List Item) (env : List Row) {s r : SubMeans} → AlikeSubs s r → items_on items env s ≡ items_on items env r
items_on-alike items env a = λ i u. and_then (a.answers u i) (λ answers. each (λ (item : Item). value item.expr u env answers) items)

pub filter_node : (condition : Expr) (env : List Row) {s r : SubMeans} {m n : Means} → AlikeSubs s r → Alike m n →
    Alike (filter_means (condition_on condition env s) s.contributions m) (filter_means (condition_on condition env r) r.contributions n)
filter_node condition env {s} {r} {m} {n} a b =
    subst (λ f. Alike (filter_means (condition_on condition env s) s.contributions m) (filter_means f r.contributions n)) (condition_on-alike condition env a)
    (filter_means-alike (condition_on condition env s) a.contributions b)

pub project_node : (items : List Item) (env : List Row) {s r : SubMeans} {m n : Means} → AlikeSubs s r → Alike m n →
    Alike (project_means (items_on items env s) s.contributions m) (project_means (items_on items env r) r.contributions n)
project_node items env {s} {r} {m} {n} a b =
    subst (λ f. Alike (project_means (items_on items env s) s.contributions m) (project_means f r.contributions n)) (items_on-alike items env a)
    (project_means-alike (items_on items env s) a.contributions b)

pub join_node : (kind : JoinKind) (condition : Expr) (env : List Row) (left_blank right_blank : Witness) (left_width right_width : ℕ) {s r : SubMeans} {k l m n : Means} →
    AlikeSubs s r → Alike k l → Alike m n →
    Alike (join_means kind (condition_on condition env s) s.contributions (record { left = left_blank; right = right_blank; subs = s.blank }) left_width right_width k m)
    (join_means kind (condition_on condition env r) r.contributions (record { left = left_blank; right = right_blank; subs = r.blank }) left_width right_width l n)
join_node kind condition env left_blank right_blank left_width right_width {s} {r} {k} {l} {m} {n} a b c =
    subst₂ (λ f blank. Alike (join_means kind (condition_on condition env s) s.contributions (record { left = left_blank; right = right_blank; subs = s.blank }) left_width right_width k m)
    (join_means kind f r.contributions (record { left = left_blank; right = right_blank; subs = blank }) left_width right_width l n))
    (condition_on-alike condition env a) a.blank
    (join_means-alike (condition_on condition env s) kind (record { left = left_blank; right = right_blank; subs = s.blank }) left_width right_width a.contributions b c)

-- ---- queries

-- the same bag for each table of the sublinks
abbrev SameSubTables : Database → Database → {m : _} → Row_of-Sublink m → Type 0
SameSubTables db other subs = EachSubTable (λ id kinds. SameBag (db id) (other id)) subs

mutual
  pub denote-alike : (q : Query) (db other : Database) → SameTables db other q → (env : List Row) → Alike (denote q db env) (denote q other env)
  denote-alike (Table id kinds) db other same env = unlisted_means-alike (agree_good (permuted-from_same_bag (db id) (other id) same))
  denote-alike Single db other same env = unlisted_means-alike (agree-refl (Good ([] ∷ [])))
  denote-alike (BaseOf input places label) db other same env = base_means-alike places (denote-alike input db other same env)
  denote-alike (FilterOf input condition _ subs) db other same env =
      let s = sub_denote-alike subs db other same.1 env in
      filter_node condition env s (denote-alike input db other same.0 env)
  denote-alike (ProjectOf input items _ subs) db other same env =
      let s = sub_denote-alike subs db other same.1 env in
      project_node items env s (denote-alike input db other same.0 env)
  denote-alike (JoinOf kind left right condition _ subs) db other same env =
      join_node kind condition env (all_empty (shape left)) (all_empty (shape right)) (width_of left) (width_of right)
      (sub_denote-alike subs db other same.2 env) (denote-alike left db other same.0 env) (denote-alike right db other same.1 env)
  denote-alike (ApplyOf kind left right) db other same env =
      apply_means-alike kind (width_of right) (all_empty (shape right)) (denote-alike left db other same.0 env) (λ u. denote-alike right db other same.1 (u ∷ env))
  denote-alike (UnionOf all left right) db other same env =
      union_means-alike all (all_empty (shape left)) (all_empty (shape right)) (denote-alike left db other same.0 env) (denote-alike right db other same.1 env)
  denote-alike (IntersectOf all left right) db other same env =
      intersect_means-alike all (denote-alike left db other same.0 env) (denote-alike right db other same.1 env)
  denote-alike (ExceptOf all left right) db other same env =
      except_means-alike all (all_empty (shape right)) (denote-alike left db other same.0 env) (denote-alike right db other same.1 env)
  denote-alike (DistinctOf input) db other same env = distinct_means-alike (denote-alike input db other same env)
  denote-alike (AggregateOf input groups aggregates) db other same env =
      aggregate_means-alike groups (map (λ (aggregate : Aggr). aggregate.function) aggregates) (arguments_on aggregates env) (all_empty (shape input)) (denote-alike input db other same env)
  denote-alike (LimitOf input keys count) db other same env = limit_means-alike keys count (denote-alike input db other same env)
  denote-alike (ProvOf input) db other same env = provenance_means-alike (denote-alike input db other same env)

  pub sub_denote-alike : {m : _} (subs : Row_of-Sublink m) (db other : Database) → SameSubTables db other subs → (env : List Row) →
      AlikeSubs (sub_denote subs db env) (sub_denote subs other env)
  sub_denote-alike end_of-Sublink db other same env = no_subs-alike
  sub_denote-alike (more_of-Sublink kind tested query subs) db other same env =
      with_sub-alike kind (optional_value tested env) (all_empty (shape query)) (λ u. denote-alike query db other same.0 (u ∷ env)) (sub_denote-alike subs db other same.1 env)

-- ---- as the law says it

pub same_rows : {o p : Outcome Bag} → Agree o p → SameRows o p
same_rows (agree_good p) = same_bag-from_permuted p
same_rows (agree_bad f) = refl

pub same_members : {X : Type 0} {xs ys : List X} → Shared xs ys → SameMembers xs ys
same_members {X} {xs} {ys} s = record {
  there = λ x h. contains-from_in x ys (s.there.within x (in-from_contains x xs h));
  back = λ x h. contains-from_in x xs (s.back.within x (in-from_contains x ys h));
}

pub same_meaning : (q : Query) (db other : Database) (env : List Row) → SameTables db other q → SameMeaning (denote q db env) (denote q other env)
same_meaning q db other env same =
    let a = denote-alike q db other same env in
    record { rows = same_rows a.rows; lists = λ t. same_members (a.lists t) }
