-- Which rows good outcomes and joins have: the converse of where they come from.
use Rattle.std.proofs.Common.{◌≡◌, ℕ, inl, inr, Bool, true, false, cond, List, [], ◌∷◌, ◌++◌, map, refl, sym, ap, ◌∙◌, subst, true≢false}
use Rattle.perm_values.specs.declared.value.Value.{Value}
use Rattle.bag_algebra.proofs.Members.{IsIn, in-map, in-append_left, in-append_right}
use Rattle.bag_algebra.specs.Bags.{Row, Bag, nulls}
use Rattle.bag_algebra.specs.Means.{good_rows, is_met, holds_of, kept, met_pairs, keeps_left, keeps_right, unmatched_left, unmatched_right, joined_rows}
use Rattle.bag_algebra.specs.Outcome.{Outcome, Good, Bad, mapped, both, gather}
use Rattle.bag_algebra.specs.declared.query.JoinKind.{JoinKind}
use Rattle.contribution.proofs.NoRowLost.{MadeBy, Joined, pair, left_alone, right_alone}
use Rattle.bag_algebra.proofs.Outcomes.{both-is}

-- a good gathering has the rows of each item
pub in-gather : {X : Type 0} (f : X → Outcome Bag) (t : Row) (x : X) (xs : List X) (all : Bag) → gather f xs ≡ Good all → IsIn x xs →
    IsIn t (good_rows (f x)) → IsIn t all
in-gather f t x [] all e h g = absurd h
in-gather f t x (y ∷ ys) all e h g =
    let parts = both-is (λ us vs. us ++ vs) (f y) (gather f ys) all e in
    let whole : parts.0 ++ parts.1 ≡ all = ap good_rows ((λ i. both (λ us vs. us ++ vs) (sym parts.2 i) (sym parts.3 i)) ∙ e) in
    subst (IsIn t) whole (elim h [
      | inl same ↦ in-append_left t parts.0 parts.1 (subst (λ o. IsIn t (good_rows o)) parts.2 (subst (λ z. IsIn t (good_rows (f z))) (sym same) g))
      | inr later ↦ in-append_right t parts.0 parts.1 (in-gather f t x ys parts.1 parts.3 later g)
    ])

kept-if : (u : Row) (b : Bool) → b ≡ true → IsIn u (cond b (u ∷ []) [])
kept-if u true e = inl refl
kept-if u false e = absurd (true≢false (sym e))

-- a row that meets the condition is kept
pub in-kept : (condition : Row → Outcome Value) (u : Row) → is_met (condition u) ≡ true → IsIn u (good_rows (kept condition u))
in-kept condition u met = by_value (condition u) met where
  by_value : (o : Outcome Value) → is_met o ≡ true → IsIn u (good_rows (mapped (λ v. cond (holds_of v) (u ∷ []) []) o))
  by_value (Good v) e = kept-if u (holds_of v) e
  by_value (Bad faults) e = absurd (true≢false (sym e))

module _ (condition : Row → Outcome Value) (us vs : Bag) (t : Row) where
  -- a pair that meets the condition is among those that do
  pub in-met_pairs : (pairs : Bag) → met_pairs condition us vs ≡ Good pairs → MadeBy condition us vs t → IsIn t pairs
  in-met_pairs pairs e m =
      let of_left : Row → Outcome Bag = λ u. gather (λ v. kept condition (u ++ v)) vs in
      let left = good-item of_left us pairs m.left m.in_left e in
      in-gather of_left t m.left us pairs e m.in_left (subst (λ o. IsIn t (good_rows o)) (sym left.1)
      (in-gather (λ v. kept condition (m.left ++ v)) t m.right vs left.0 left.1 m.in_right
      (subst (λ x. IsIn x (good_rows (kept condition (m.left ++ m.right)))) m.makes (in-kept condition (m.left ++ m.right) m.met))))
    where
      good-item : (f : Row → Outcome Bag) (xs : Bag) (all : Bag) (x : Row) → IsIn x xs → gather f xs ≡ Good all → (bag : Bag) × (f x ≡ Good bag)
      good-item f [] all x h e = absurd h
      good-item f (y ∷ ys) all x h e =
          let parts = both-is (λ us vs. us ++ vs) (f y) (gather f ys) all e in
          elim h [
            | inl same ↦ (parts.0, ap f (sym same) ∙ parts.2)
            | inr later ↦ good-item f ys parts.1 x later parts.3
          ]

  blanked-if : (keeps : Bool) (f : Row → Row) (bag : Bag) (u : Row) → keeps ≡ true → IsIn u bag → f u ≡ t → IsIn t (cond keeps (map f bag) [])
  blanked-if true f bag u e h makes = subst (λ x. IsIn x (map f bag)) makes (in-map f u bag h)
  blanked-if false f bag u e h makes = absurd (true≢false (sym e))

  module _ (kind : JoinKind) (left_width right_width : ℕ) where
    abbrev lefts : Bag
    lefts = cond (keeps_left kind) (map (λ u. u ++ nulls right_width) (unmatched_left condition us vs)) []

    abbrev rights : Bag
    rights = cond (keeps_right kind) (map (λ v. nulls left_width ++ v) (unmatched_right condition us vs)) []

    in-parts : (pairs : Bag) → met_pairs condition us vs ≡ Good pairs → Joined kind condition left_width right_width us vs t → IsIn t (pairs ++ lefts ++ rights)
    in-parts pairs e (pair m) = in-append_left t (pairs ++ lefts) rights (in-append_left t pairs lefts (in-met_pairs pairs e m))
    in-parts pairs e (left_alone keeps u here makes) =
        in-append_left t (pairs ++ lefts) rights
        (in-append_right t pairs lefts (blanked-if (keeps_left kind) (λ u. u ++ nulls right_width) (unmatched_left condition us vs) u keeps here makes))
    in-parts pairs e (right_alone keeps v here makes) =
        in-append_right t (pairs ++ lefts) rights (blanked-if (keeps_right kind) (λ v. nulls left_width ++ v) (unmatched_right condition us vs) v keeps here makes)

    -- the rows of a good join are those that a pair makes or an unmatched row of a kept side
    pub in-joined_rows : (bag : Bag) → joined_rows kind condition left_width right_width us vs ≡ Good bag → Joined kind condition left_width right_width us vs t → IsIn t bag
    in-joined_rows bag e j = by_pairs (met_pairs condition us vs) refl e where
      by_pairs : (o : Outcome Bag) → met_pairs condition us vs ≡ o → mapped (λ pairs. pairs ++ lefts ++ rights) o ≡ Good bag → IsIn t bag
      by_pairs (Good pairs) met e = subst (IsIn t) (ap good_rows e) (in-parts pairs met j)
      by_pairs (Bad faults) met e = absurd (cc e)
