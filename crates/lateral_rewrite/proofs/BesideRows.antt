-- Queries that have each row beside each row that a right side has under it, and beside NULLs where it has none, as a left
-- dependent join does.
use Rattle.std.proofs.Common.{◌≡◌, ℕ, true, List, [], ◌∷◌, ◌++◌, map, refl, sym, ap, ◌∙◌, subst}
use Rattle.std.proofs.lemmas.Bool.{and_from}
use Rattle.perm_values.specs.declared.kind.Kind.{Kind}
use Rattle.bag_algebra.proofs.BagLaws.{member-same_bag}
use Rattle.bag_algebra.proofs.Members.{IsIn, in-map, from-map, in-member, member-in}
use Rattle.bag_algebra.proofs.Outcomes.{same_rows-itself}
use Rattle.bag_algebra.specs.Bags.{Row, Bag}
use Rattle.bag_algebra.specs.built.Openings.{rows-with_lists}
use Rattle.bag_algebra.specs.Fits.{TablesFit}
use Rattle.bag_algebra.specs.Kinds.{kinds_of, width_of}
use Rattle.bag_algebra.specs.Meaning.{Database, meaning}
use Rattle.bag_algebra.specs.Means.{good_rows, under}
use Rattle.bag_algebra.specs.Outcome.{Faults, Outcome, Good, Bad, and_then, mapped, gather}
use Rattle.bag_algebra.specs.Rewriting.{SameRows, is_plain}
use Rattle.bag_algebra.specs.TablesRead.{EachTable}
use Rattle.bag_algebra.specs.WellFormed.{WellFormed}
use Rattle.bag_algebra.specs.declared.query.JoinKind.TheVariants.{Left}
use Rattle.bag_algebra.specs.declared.query.Query.{Query}
use Rattle.contribution.proofs.GoodRows.{from-gather}
use Rattle.contribution.proofs.JoinMembers.{in-gather}
use Rattle.contribution.specs.Fitting.{Fitting}
use Rattle.query_laws.proofs.Outcomes.{over-gather, mapped-good, good-good}
use Rattle.query_laws.specs.Faults.{IsGood}
use Rattle.rewrite_sublink.proofs.Contributing.{padded_rows}
use Rattle.lateral_rewrite.specs.Dependent.{beside}

-- p is what the left dependent join is, up to the order of its rows
pub record IsBeside (left right p : Query) : Type 1 where
  pub kinds : kinds_of p ≡ kinds_of left ++ kinds_of right
  pub plain : is_plain left ≡ true → is_plain right ≡ true → is_plain p ≡ true
  pub tables : (P : ℕ → List Kind → Type 0) → EachTable P left → EachTable P right → EachTable P p
  pub formed : (outer : List (List Kind)) → WellFormed outer left → WellFormed (kinds_of left ∷ outer) right → WellFormed outer p
  pub bad : (db : Database) (env : List Row) (faults : Faults) → TablesFit db right → meaning left db env ≡ Bad faults → meaning p db env ≡ Bad faults
  pub rows : (outer : List (List Kind)) (db : Database) (env : List Row) → Fitting outer (beside left right) db env →
      SameRows (meaning (beside left right) db env) (meaning p db env)

-- ---- bags

pub good-bag : {X : Type 0} (o : Outcome X) → IsGood o → (x : X) × (o ≡ Good x)
good-bag (Good x) g = (x, refl)
good-bag (Bad faults) g = absurd g

module _ (width : ℕ) (right : Row → Outcome Bag) where
  abbrev pub beside_each : Row → Outcome Bag
  beside_each u = mapped (under Left width u) (right u)

  under-padded : (u : Row) (ks : Bag) → under Left width u ks ≡ map (λ k. u ++ k) (padded_rows width ks)
  under-padded u [] = refl
  under-padded u (k ∷ ks) = refl

  -- each row is there beside each row of the right side, or beside NULLs, and nothing else is
  pub record Besides (us bag : Bag) : Type 0 where
    pub there : (u k : Row) (ks : Bag) → IsIn u us → right u ≡ Good ks → IsIn k (padded_rows width ks) → IsIn (u ++ k) bag
    pub back : (y : Row) → IsIn y bag → (u : Row) × (k : Row) × (ks : Bag) × IsIn u us × (right u ≡ Good ks) × IsIn k (padded_rows width ks) × (u ++ k ≡ y)

  module _ (us : Bag) (goods : (u : Row) → IsIn u us → (ks : Bag) × (right u ≡ Good ks)) where
    gathered : (bag : Bag) × (gather beside_each us ≡ Good bag)
    gathered =
        good-bag (gather beside_each us)
        ((over-gather beside_each us).is_good (λ u h. mapped-good (under Left width u) (right u) (good-good (right u) (goods u h).0 (goods u h).1)))

    there : (u k : Row) (ks : Bag) → IsIn u us → right u ≡ Good ks → IsIn k (padded_rows width ks) → IsIn (u ++ k) gathered.0
    there u k ks h e i =
        in-gather beside_each (u ++ k) u us gathered.0 gathered.1 h
        (subst (λ o. IsIn (u ++ k) (good_rows (mapped (under Left width u) o))) (sym e)
        (subst (IsIn (u ++ k)) (sym (under-padded u ks)) (in-map (λ k. u ++ k) k (padded_rows width ks) i)))

    back : (y : Row) → IsIn y gathered.0 → (u : Row) × (k : Row) × (ks : Bag) × IsIn u us × (right u ≡ Good ks) × IsIn k (padded_rows width ks) × (u ++ k ≡ y)
    back y h =
        let found = from-gather beside_each y us (subst (λ o. IsIn y (good_rows o)) (sym gathered.1) h) in
        let u = found.0 in
        let ks = goods u found.1 in
        let here = subst (λ o. IsIn y (good_rows (mapped (under Left width u) o))) ks.1 found.2 in
        let k = from-map (λ k. u ++ k) y (padded_rows width ks.0) (subst (IsIn y) (under-padded u ks.0) here) in
        (u, k.0, ks.0, found.1, ks.1, k.1, k.2)

    pub besides : (bag : Bag) × (gather beside_each us ≡ Good bag) × Besides us bag
    besides = (gathered.0, gathered.1, record { there = there; back = back })

  same-besides : (us all : Bag) → Besides us all → (o : Outcome Bag) → SameRows (Good all) o → (bag : Bag) × (o ≡ Good bag) × Besides us bag
  same-besides us all b (Good bag) s = (
    bag,
    refl,
    record {
      there = λ u k ks h e i. member-in (u ++ k) bag (sym (member-same_bag (u ++ k) all bag s) ∙ in-member (u ++ k) all (b.there u k ks h e i));
      back = λ y h. b.back y (member-in y all (member-same_bag y all bag s ∙ in-member y bag h));
    },
  )
  same-besides us all b (Bad faults) s = absurd s

-- ---- queries

meaning-beside : (rows right : Query) (db : Database) (env : List Row) →
    meaning (beside rows right) db env ≡ and_then (meaning rows db env) (gather (beside_each (width_of right) (λ u. meaning right db (u ∷ env))))
meaning-beside rows right db env = rows-with_lists _ _

pub left-beside : (rows right : Query) → IsBeside rows right (beside rows right)
left-beside rows right = record {
  kinds = refl;
  plain = λ a b. and_from (is_plain rows) (is_plain right) a b;
  tables = λ P a b. (a, b);
  formed = λ outer a b. record { left = a; right = b; dependent = refl };
  bad = λ db env faults fits e. meaning-beside rows right db env ∙ ap (λ o. and_then o (gather (beside_each (width_of right) (λ u. meaning right db (u ∷ env))))) e;
  rows = λ outer db env fits. same_rows-itself (meaning (beside rows right) db env);
}

module _ {rows right p : Query} (is : IsBeside rows right p) {outer : List (List Kind)} {db : Database} {env : List Row} (fits : Fitting outer (beside rows right) db env)
    (us : Bag) (good : meaning rows db env ≡ Good us) (goods : (u : Row) → IsIn u us → (ks : Bag) × (meaning right db (u ∷ env) ≡ Good ks)) where
  abbrev right_under : Row → Outcome Bag
  right_under u = meaning right db (u ∷ env)

  pub answer-beside : (bag : Bag) × (meaning p db env ≡ Good bag) × Besides (width_of right) right_under us bag
  answer-beside =
      let made = besides (width_of right) right_under us goods in
      let join : meaning (beside rows right) db env ≡ Good made.0 =
      meaning-beside rows right db env ∙ ap (λ o. and_then o (gather (beside_each (width_of right) right_under))) good ∙ made.1 in
      same-besides (width_of right) right_under us made.0 made.2 (meaning p db env)
      (subst (λ o. SameRows o (meaning p db env)) join (is.rows outer db env fits))
