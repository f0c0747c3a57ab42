-- A row vanishes where each of its witness lists has a doomed row.
use Rattle.std.proofs.Common.{◌≡◌, ◌↔◌, ℕ, Bool, true, false, List, [], All, Option, IsTrue, refl, sym, ◌∙◌, subst}
use mathlib.Core.Bool.{true≢false}
use Rattle.bag_algebra.proofs.Members.{IsIn, in-member, member-in}
use Rattle.bag_algebra.proofs.MembersByIndex.{all-from_in, all-at}
use Rattle.bag_algebra.proofs.Outcomes.{same_good}
use Rattle.bag_algebra.specs.Bags.{Row, Bag, member}
use Rattle.bag_algebra.specs.Fits.{TablesFit}
use Rattle.bag_algebra.specs.Meaning.{Database, denote, meaning, witnesses}
use Rattle.bag_algebra.specs.Means.{Witness}
use Rattle.bag_algebra.specs.Outcome.{Good}
use Rattle.bag_algebra.specs.declared.expr.Expr.{Expr}
use Rattle.bag_algebra.specs.declared.query.Query.{Query}
use Rattle.query_facts.specs.monotone.Monotone.{is_monotone}
use Rattle.delete_impact.specs.vanishing.Doomed.{after_deletion, places_over, has_doomed}
use Rattle.delete_impact.specs.vanishing.Vanishing.{Vanishes}
use Rattle.delete_impact.proofs.KeptQueries.{KeptRows, kept-query, kept-rows}

module _ (q : Query) (id : ℕ) (condition : Option Expr) (db : Database) where
  pub kept-of : (env : List Row) (us : Bag) → is_monotone q ≡ true → TablesFit db q → meaning q db env ≡ Good us →
      KeptRows condition (places_over id q) (denote q db env).lists us (meaning q (after_deletion id condition db) env)
  kept-of env us m fits good =
      kept-rows condition (places_over id q) (denote q db env).lists (meaning q db env) (meaning q (after_deletion id condition db) env) us good
      (kept-query id condition db env q m fits)

  pub fewer-rows : (env : List Row) (us : Bag) → IsTrue (is_monotone q) → TablesFit db q → meaning q db env ≡ Good us →
      (vs : Bag) × (meaning q (after_deletion id condition db) env ≡ Good vs) × ((t : Row) → IsTrue (member t vs) → IsTrue (member t us))
  fewer-rows env us m fits good =
      let k = kept-of env us m fits good in
      (k.rows, k.good, λ t h. in-member t us (k.fewer t (member-in t k.rows h)))

  pub vanishing-rows : (t : Row) (us : Bag) → IsTrue (is_monotone q) → TablesFit db q → meaning q db [] ≡ Good us →
      Vanishes q id condition db t ↔ (IsTrue (member t us) × All (λ w. IsTrue (has_doomed condition (places_over id q) w)) (witnesses q db [] t))
  vanishing-rows t us m fits good =
      let k = kept-of [] us m fits good in (
        λ v. (
          subst (λ bag. IsTrue (member t bag)) (same_good _ _ (sym v.before.good ∙ good)) v.before.row,
          all-from_in (λ w. IsTrue (has_doomed condition (places_over id q) w)) (witnesses q db [] t)
              (λ w h. by_entry v w h (has_doomed condition (places_over id q) w) refl),
        ),
        λ p. record {
          before = record { bag = us; good = good; row = p.0 };
          after = λ a.
              let left = subst (IsIn t) (same_good _ _ (sym a.good ∙ k.good)) (member-in t a.bag a.row) in
              let spared = k.sparing.there t left in
              true≢false (sym (all-at (λ w. IsTrue (has_doomed condition (places_over id q) w)) (witnesses q db [] t) spared.0 p.1 spared.1) ∙ spared.2);
        },
      )
    where
      by_entry : Vanishes q id condition db t → (w : Witness) → IsIn w (witnesses q db [] t) → (b : Bool) → has_doomed condition (places_over id q) w ≡ b →
          IsTrue (has_doomed condition (places_over id q) w)
      by_entry v w h true e = e
      by_entry v w h false e =
          let k = kept-of [] us m fits good in
          absurd (v.after (record { bag = k.rows; good = k.good; row = in-member t k.rows (k.sparing.back t w h e) }))
