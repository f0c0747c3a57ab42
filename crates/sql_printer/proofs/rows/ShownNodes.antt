-- Nodes over rows that are shown by others: filters and joins.
use Rattle.std.proofs.Common.{◌≡◌, ℕ, suc, ◌+◌, ◌-◌, ◌<◌, ◌≤◌, Bool, true, false, cond, not, nat_lt, ltb-true, ltb-false, List, [], ◌∷◌, ◌++◌, length, length-append, map, refl, sym, ap, subst, ◌∙◌, arith}
use Rattle.std.proofs.lemmas.List.{get_or_append_left}
use Rattle.std.specs.List.{list_any}
use Rattle.perm_values.specs.Rows.{value_at}
use Rattle.perm_values.specs.declared.kind.Kind.{Kind}
use Rattle.perm_values.specs.declared.value.Value.{Value}
use Rattle.perm_values.specs.declared.value.Value.TheVariants.{Null}
use Rattle.bag_algebra.specs.Bags.{Row, Bag, nulls}
use Rattle.bag_algebra.specs.Means.{holds_of, kept, is_met, keeps_left, keeps_right, unmatched_left, unmatched_right, met_pairs, joined_rows, under}
use Rattle.bag_algebra.specs.Outcome.{Outcome, Good, Bad, and_then, mapped, gather}
use Rattle.bag_algebra.specs.declared.query.JoinKind.{JoinKind}
use Rattle.query_laws.proofs.Joined.{length-nulls}
use Rattle.query_laws.proofs.SpineItems.{nulls-null}
use Rattle.sql_printer.proofs.rows.RelatedOutcomes.{Along, AlikeOutcomes, along-append, along-cond, along-map, any-along, filter-along, alike-mapped, alike-and_then, alike-gather}
use Rattle.sql_printer.proofs.rows.ShownRows.{Shown, shown_width, Spans, Ends, shown-length}

-- ---- what a condition keeps

module _ (R : Row → Row → Type 0) where
  kept-by : (b : Bool) (u v : Row) → R u v → Along R (cond b (u ∷ []) []) (cond b (v ∷ []) [])
  kept-by true u v r = (r, tt)
  kept-by false u v r = tt

  kept-same : (o : Outcome Value) (u v : Row) → R u v
      → AlikeOutcomes (Along R) (mapped (λ x. cond (holds_of x) (u ∷ []) []) o) (mapped (λ x. cond (holds_of x) (v ∷ []) []) o)
  kept-same (Good x) u v r = kept-by (holds_of x) u v r
  kept-same (Bad f) u v r = refl

  kept-alike : (f g : Row → Outcome Value) (u v : Row) → R u v → g v ≡ f u → AlikeOutcomes (Along R) (kept f u) (kept g v)
  kept-alike f g u v r same =
      subst (λ o. AlikeOutcomes (Along R) (kept f u) (mapped (λ x. cond (holds_of x) (v ∷ []) []) o)) (sym same) (kept-same (f u) u v r)

  pub filter-alike : (f g : Row → Outcome Value) → ((u v : Row) → R u v → g v ≡ f u) → (o p : Outcome Bag)
      → AlikeOutcomes (Along R) o p → AlikeOutcomes (Along R) (and_then o (gather (kept f))) (and_then p (gather (kept g)))
  filter-alike f g same o p s =
      alike-and_then (Along R) (Along R) (gather (kept f)) (gather (kept g))
      (λ us vs r. alike-gather R R (kept f) (kept g) (λ u v r. kept-alike f g u v r (same u v r)) us vs r) o p s

-- ---- rows beside rows

nulls-shown : (kinds : List Kind) → Shown kinds (nulls (length kinds)) (nulls (shown_width kinds))
nulls-shown [] = (refl, refl)
nulls-shown (kind ∷ kinds) = (refl, length-nulls (length (kind ∷ kinds)))

nulls-end : (kinds : List Kind) (start : ℕ) → Ends kinds start (nulls (length kinds)) (nulls (start + length kinds))
nulls-end kinds start = record {
  faces = record {
    wide = length-nulls (length kinds);
    there = λ place h. nulls-null (start + length kinds) (start + place) ∙ sym (nulls-null (length kinds) place);
  };
  count = length-nulls (start + length kinds);
}

-- what stands behind a row
value-behind : (v x : Row) (place : ℕ) → value_at (v ++ x) (length v + place) ≡ value_at x place
value-behind [] x place = let own : 0 + place ≡ place = omega arith in ap (value_at x) own
value-behind (y ∷ v) x place =
    let next : suc (length v) + place ≡ suc (length v + place) = omega arith in
    ap (value_at (y ∷ v ++ x)) next ∙ value-behind v x place

shown-same : (kinds : List Kind) (w x : Row) → Shown kinds w x → (place : ℕ) → place < length kinds → value_at x place ≡ value_at w place
shown-same [] w x s place h = absurd (omega (arith, h))
shown-same (kind ∷ kinds) w x s place h = ap (λ y. value_at y place) s.0

shown-wide : (kinds : List Kind) (w x : Row) → Shown kinds w x → length x ≡ shown_width kinds
shown-wide [] w x s = s.1
shown-wide (kind ∷ kinds) w x s = ap length s.0 ∙ s.1

module _ (left right : List Kind) (start : ℕ) (u v w x : Row) (own : Ends left start u v) (there : Shown right w x) where
  left-values : (place : ℕ) → place < length left → value_at (v ++ x) (start + place) ≡ value_at (u ++ w) place
  left-values place h =
      get_or_append_left v x Null (start + place) (omega (arith, h, own.count))
      ∙ own.faces.there place h
      ∙ sym (get_or_append_left u w Null place (omega (arith, h, own.faces.wide)))

  right-values : (place : ℕ) → place < length right → value_at (v ++ x) (start + (length left + place)) ≡ value_at (u ++ w) (length left + place)
  right-values place h =
      let count : length v ≡ start + length left = own.count in
      let behind : start + (length left + place) ≡ length v + place = omega (arith, count) in
      let before : length u + place ≡ length left + place = ap (λ n. n + place) own.faces.wide in
      ap (value_at (v ++ x)) behind ∙ value-behind v x place ∙ shown-same right w x there place h
      ∙ sym (value-behind u w place) ∙ ap (value_at (u ++ w)) before

  pair-values : (place : ℕ) → place < length (left ++ right) → (b : Bool) → nat_lt place (length left) ≡ b
      → value_at (v ++ x) (start + place) ≡ value_at (u ++ w) place
  pair-values place h true below = left-values place (ltb-true place (length left) below)
  pair-values place h false beyond =
      let past : length left ≤ place = ltb-false place (length left) beyond in
      let rest : length left + (place - length left) ≡ place = omega (arith, past) in
      let within : place - length left < length right = omega (arith, h, past, length-append left right) in
      subst (λ n. value_at (v ++ x) (start + n) ≡ value_at (u ++ w) n) rest (right-values (place - length left) within)

  pub pair-spans : Spans (left ++ right) start (start + length left + shown_width right) (u ++ w) (v ++ x)
  pair-spans = record {
    faces = record {
      wide = length-append u w ∙ (λ i. own.faces.wide i + shown-length right w x there i) ∙ sym (length-append left right);
      there = λ place h. pair-values place h (nat_lt place (length left)) refl;
    };
    count = length-append v x ∙ (λ i. own.count i + shown-wide right w x there i);
  }

-- ---- joins

module _ (left right : List Kind) (start : ℕ) where
  abbrev pub Left : Row → Row → Type 0
  Left = Ends left start

  abbrev pub Paired : Row → Row → Type 0
  Paired = Spans (left ++ right) start (start + length left + shown_width right)

  left-faces : (us vs : Bag) → Along Left us vs
      → Along Paired (map (λ u. u ++ nulls (length right)) us) (map (λ v. v ++ nulls (shown_width right)) vs)
  left-faces us vs s = along-map Left Paired (λ u. u ++ nulls (length right)) (λ v. v ++ nulls (shown_width right))
      (λ u v r. pair-spans left right start u v (nulls (length right)) (nulls (shown_width right)) r (nulls-shown right)) us vs s

  right-faces : (ws xs : Bag) → Along (Shown right) ws xs
      → Along Paired (map (λ w. nulls (length left) ++ w) ws) (map (λ x. nulls (start + length left) ++ x) xs)
  right-faces ws xs s = along-map (Shown right) Paired (λ w. nulls (length left) ++ w) (λ x. nulls (start + length left) ++ x)
      (λ w x r. pair-spans left right start (nulls (length left)) (nulls (start + length left)) w x (nulls-end left start) r) ws xs s

  module _ (f g : Row → Outcome Value) (same : (u v w x : Row) → Left u v → Shown right w x → g (v ++ x) ≡ f (u ++ w)) where
    pairs-alike : (us vs ws xs : Bag) → Along Left us vs → Along (Shown right) ws xs
        → AlikeOutcomes (Along Paired) (met_pairs f us ws) (met_pairs g vs xs)
    pairs-alike us vs ws xs s r =
        alike-gather Left Paired (λ u. gather (λ w. kept f (u ++ w)) ws) (λ v. gather (λ x. kept g (v ++ x)) xs)
        (λ u v own. alike-gather (Shown right) Paired (λ w. kept f (u ++ w)) (λ x. kept g (v ++ x))
        (λ w x there. kept-alike Paired f g (u ++ w) (v ++ x) (pair-spans left right start u v w x own there) (same u v w x own there)) ws xs r) us vs s

    unmatched_left-along : (us vs ws xs : Bag) → Along Left us vs → Along (Shown right) ws xs
        → Along Left (unmatched_left f us ws) (unmatched_left g vs xs)
    unmatched_left-along us vs ws xs s r =
        filter-along Left (λ u. not (list_any (λ w. is_met (f (u ++ w))) ws)) (λ v. not (list_any (λ x. is_met (g (v ++ x))) xs))
        (λ u v own. ap not (any-along (Shown right) (λ w. is_met (f (u ++ w))) (λ x. is_met (g (v ++ x)))
        (λ w x there. ap is_met (same u v w x own there)) ws xs r)) us vs s

    unmatched_right-along : (us vs ws xs : Bag) → Along Left us vs → Along (Shown right) ws xs
        → Along (Shown right) (unmatched_right f us ws) (unmatched_right g vs xs)
    unmatched_right-along us vs ws xs s r =
        filter-along (Shown right) (λ w. not (list_any (λ u. is_met (f (u ++ w))) us)) (λ x. not (list_any (λ v. is_met (g (v ++ x))) vs))
        (λ w x there. ap not (any-along Left (λ u. is_met (f (u ++ w))) (λ v. is_met (g (v ++ x)))
        (λ u v own. ap is_met (same u v w x own there)) us vs s)) ws xs r

    pub joined-alike : (kind : JoinKind) (us vs ws xs : Bag) → Along Left us vs → Along (Shown right) ws xs
        → AlikeOutcomes (Along Paired) (joined_rows kind f (length left) (length right) us ws) (joined_rows kind g (start + length left) (shown_width right) vs xs)
    joined-alike kind us vs ws xs s r =
        let lefts = cond (keeps_left kind) (map (λ u. u ++ nulls (length right)) (unmatched_left f us ws)) [] in
        let rights = cond (keeps_right kind) (map (λ w. nulls (length left) ++ w) (unmatched_right f us ws)) [] in
        let other_lefts = cond (keeps_left kind) (map (λ v. v ++ nulls (shown_width right)) (unmatched_left g vs xs)) [] in
        let other_rights = cond (keeps_right kind) (map (λ x. nulls (start + length left) ++ x) (unmatched_right g vs xs)) [] in
        alike-mapped (Along Paired) (Along Paired) (λ pairs. pairs ++ lefts ++ rights) (λ pairs. pairs ++ other_lefts ++ other_rights)
        (λ pairs others p. along-append Paired (pairs ++ lefts) rights (others ++ other_lefts) other_rights
        (along-append Paired pairs lefts others other_lefts p
        (along-cond Paired (keeps_left kind) (map (λ u. u ++ nulls (length right)) (unmatched_left f us ws))
        (map (λ v. v ++ nulls (shown_width right)) (unmatched_left g vs xs))
        (left-faces (unmatched_left f us ws) (unmatched_left g vs xs) (unmatched_left-along us vs ws xs s r))))
        (along-cond Paired (keeps_right kind) (map (λ w. nulls (length left) ++ w) (unmatched_right f us ws))
        (map (λ x. nulls (start + length left) ++ x) (unmatched_right g vs xs))
        (right-faces (unmatched_right f us ws) (unmatched_right g vs xs) (unmatched_right-along us vs ws xs s r))))
        (met_pairs f us ws) (met_pairs g vs xs) (pairs-alike us vs ws xs s r)

  -- ---- dependent joins

  under-along : (kind : JoinKind) (u v : Row) (ws xs : Bag) → Left u v → Along (Shown right) ws xs
      → Along Paired (under kind (length right) u ws) (under kind (shown_width right) v xs)
  under-along kind u v [] [] s r =
      along-cond Paired (keeps_left kind) ((u ++ nulls (length right)) ∷ []) ((v ++ nulls (shown_width right)) ∷ [])
      (pair-spans left right start u v (nulls (length right)) (nulls (shown_width right)) s (nulls-shown right), tt)
  under-along kind u v [] (x ∷ xs) s r = absurd r
  under-along kind u v (w ∷ ws) [] s r = absurd r
  under-along kind u v (w ∷ ws) (x ∷ xs) s r =
      along-map (Shown right) Paired (λ y. u ++ y) (λ y. v ++ y) (λ y z own. pair-spans left right start u v y z s own) (w ∷ ws) (x ∷ xs) r

  pub applied-alike : (kind : JoinKind) (f g : Row → Outcome Bag) → ((u v : Row) → Left u v → AlikeOutcomes (Along (Shown right)) (f u) (g v))
      → (o p : Outcome Bag) → AlikeOutcomes (Along Left) o p
      → AlikeOutcomes (Along Paired) (and_then o (gather (λ u. mapped (under kind (length right) u) (f u))))
      (and_then p (gather (λ v. mapped (under kind (shown_width right) v) (g v))))
  applied-alike kind f g same o p s =
      alike-and_then (Along Left) (Along Paired) (gather (λ u. mapped (under kind (length right) u) (f u)))
      (gather (λ v. mapped (under kind (shown_width right) v) (g v)))
      (λ us vs r. alike-gather Left Paired (λ u. mapped (under kind (length right) u) (f u)) (λ v. mapped (under kind (shown_width right) v) (g v))
      (λ u v own. alike-mapped (Along (Shown right)) (Along Paired) (under kind (length right) u) (under kind (shown_width right) v)
      (λ ws xs there. under-along kind u v ws xs own there) (f u) (g v) (same u v own)) us vs r) o p s
