-- Where just the rows stay that meet another row, a join that keeps unmatched left rows is an inner one of all rows.
use Rattle.std.proofs.Common.{◌≡◌, ℕ, Bool, true, false, cond, not, [], ◌∷◌, ◌++◌, filter, map, refl, sym, ap, ◌∙◌}
use Rattle.std.specs.List.{list_any}
use Rattle.perm_values.specs.declared.value.Value.{Value}
use Rattle.bag_algebra.specs.Bags.{Row, Bag}
use Rattle.bag_algebra.specs.Means.{holds_of, is_met, kept, met_pairs, joined_rows, unmatched_left}
use Rattle.bag_algebra.specs.Outcome.{Outcome, Good, Bad, mapped, both, gather}
use Rattle.bag_algebra.specs.declared.query.JoinKind.TheVariants.{Inner, Left}
use Rattle.bag_algebra.proofs.Truths.{left-false, right-false}

module _ (on : Row → Outcome Value) (calm : (x : Row) → (v : Value) × (on x ≡ Good v)) where
  not-kept : (x : Row) → is_met (on x) ≡ false → kept on x ≡ Good []
  not-kept x e = by_value (on x) (calm x).0 (calm x).1 e where
    by_holding : (b : Bool) → b ≡ false → cond b (x ∷ []) [] ≡ []
    by_holding true h = absurd (cc h)
    by_holding false h = refl

    by_value : (o : Outcome Value) (v : Value) → o ≡ Good v → is_met o ≡ false → mapped (λ w. cond (holds_of w) (x ∷ []) []) o ≡ Good []
    by_value (Good w) v g h = ap Good (by_holding (holds_of w) h)
    by_value (Bad faults) v g h = absurd (cc g)

  none-kept : (u : Row) (vs : Bag) → list_any (λ v. is_met (on (u ++ v))) vs ≡ false → gather (λ v. kept on (u ++ v)) vs ≡ Good []
  none-kept u [] e = refl
  none-kept u (v ∷ vs) e =
      λ i. both (λ y ys. y ++ ys) (not-kept (u ++ v) (left-false (is_met (on (u ++ v))) (list_any (λ w. is_met (on (u ++ w))) vs) e) i)
      (none-kept u vs (right-false (is_met (on (u ++ v))) (list_any (λ w. is_met (on (u ++ w))) vs) e) i)

  nothing-more : (o : Outcome Bag) → both (λ y ys. y ++ ys) (Good []) o ≡ o
  nothing-more (Good us) = refl
  nothing-more (Bad faults) = refl

  module _ (found : Row → Bool) (vs : Bag) (same : (u : Row) → found u ≡ list_any (λ v. is_met (on (u ++ v))) vs) where
    abbrev beside : Row → Outcome Bag
    beside u = gather (λ v. kept on (u ++ v)) vs

    one-met : (b : Bool) (u : Row) (us rest : Bag) → found u ≡ b → met_pairs on rest vs ≡ met_pairs on us vs →
        met_pairs on (cond b (u ∷ rest) rest) vs ≡ met_pairs on (u ∷ us) vs
    one-met true u us rest e h = ap (both (λ y ys. y ++ ys) (beside u)) h
    one-met false u us rest e h =
        h ∙ sym (nothing-more (met_pairs on us vs)) ∙ (λ i. both (λ y ys. y ++ ys) (sym (none-kept u vs (sym (same u) ∙ e)) i) (met_pairs on us vs))

    all-met : (us : Bag) → met_pairs on (filter found us) vs ≡ met_pairs on us vs
    all-met [] = refl
    all-met (u ∷ us) = one-met (found u) u us (filter found us) refl (all-met us)

    one-matched : (b : Bool) (u : Row) (rest : Bag) → found u ≡ b → unmatched_left on rest vs ≡ [] → unmatched_left on (cond b (u ∷ rest) rest) vs ≡ []
    one-matched true u rest e h = (λ i. cond (not ((sym (same u) ∙ e) i)) (u ∷ unmatched_left on rest vs) (unmatched_left on rest vs)) ∙ h
    one-matched false u rest e h = h

    none-unmatched : (us : Bag) → unmatched_left on (filter found us) vs ≡ []
    none-unmatched [] = refl
    none-unmatched (u ∷ us) = one-matched (found u) u (filter found us) refl (none-unmatched us)

    module _ (left_width right_width : ℕ) where
      pub forced-rows : (us : Bag) → joined_rows Left on left_width right_width (filter found us) vs ≡ joined_rows Inner on left_width right_width us vs
      forced-rows us =
          (λ i. mapped (λ pairs. pairs ++ map (λ u. u ++ Rattle.bag_algebra.specs.Bags.nulls right_width) (none-unmatched us i) ++ []) (all-met us i))
