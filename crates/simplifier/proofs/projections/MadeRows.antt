-- Filters and joins of rows that are made of others make what is made of the others' filters and joins.
use Rattle.std.proofs.Common.{◌≡◌, ℕ, Bool, true, false, cond, not, ◌||◌, [], ◌∷◌, ◌++◌, map, refl, sym, ap, ◌∙◌}
use Rattle.std.proofs.lemmas.List.{map-append}
use Rattle.std.specs.List.{list_any}
use Rattle.perm_values.specs.declared.value.Value.{Value}
use Rattle.bag_algebra.specs.Bags.{Row, Bag, nulls}
use Rattle.bag_algebra.specs.Means.{holds_of, is_met, kept, keeps_left, keeps_right, met_pairs, joined_rows, unmatched_left, unmatched_right}
use Rattle.bag_algebra.specs.Outcome.{Outcome, Good, Bad, and_then, mapped, both, both_then, gather}
use Rattle.bag_algebra.specs.declared.query.JoinKind.{JoinKind}
use Rattle.contribution.proofs.WhereGood.{Every, WhereGood}

-- ---- filters

module _ (make : Row → Row) where
  put-made : (b : Bool) (x : Row) → cond b (make x ∷ []) [] ≡ map make (cond b (x ∷ []) [])
  put-made true x = refl
  put-made false x = refl

  appended-made : (o p : Outcome Bag) →
      both (λ y ys. y ++ ys) (mapped (map make) o) (mapped (map make) p) ≡ mapped (map make) (both (λ y ys. y ++ ys) o p)
  appended-made (Good us) (Good vs) = ap Good (sym (map-append make us vs))
  appended-made (Good us) (Bad g) = refl
  appended-made (Bad f) (Good vs) = refl
  appended-made (Bad f) (Bad g) = refl

  module _ (condition lower : Row → Outcome Value) (same : (x : Row) → lower x ≡ condition (make x)) where
    kept-made : (x : Row) → kept condition (make x) ≡ mapped (map make) (kept lower x)
    kept-made x = ap (mapped (λ v. cond (holds_of v) (make x ∷ []) [])) (sym (same x)) ∙ by_case (lower x) where
      by_case : (o : Outcome Value) → mapped (λ v. cond (holds_of v) (make x ∷ []) []) o ≡ mapped (map make) (mapped (λ v. cond (holds_of v) (x ∷ []) []) o)
      by_case (Good v) = ap Good (put-made (holds_of v) x)
      by_case (Bad faults) = refl

    gather-made : (us : Bag) → gather (kept condition) (map make us) ≡ mapped (map make) (gather (kept lower) us)
    gather-made [] = refl
    gather-made (u ∷ us) =
        (λ i. both (λ y ys. y ++ ys) (kept-made u i) (gather-made us i)) ∙ appended-made (kept lower u) (gather (kept lower) us)

    pub filter-made : (o : Outcome Bag) → and_then (mapped (map make) o) (gather (kept condition)) ≡ mapped (map make) (and_then o (gather (kept lower)))
    filter-made (Good us) = gather-made us
    filter-made (Bad faults) = refl

-- ---- joins

module _ (P R : Row → Type 0) (f g make : Row → Row) (condition lower : Row → Outcome Value) (same : (x : Row) → lower x ≡ condition (make x))
    (pair : (u v : Row) → P u → R v → make (u ++ v) ≡ f u ++ g v) where
  pair-kept : (u v : Row) → P u → R v → kept condition (f u ++ g v) ≡ mapped (map make) (kept lower (u ++ v))
  pair-kept u v h k = ap (kept condition) (sym (pair u v h k)) ∙ kept-made make condition lower same (u ++ v)

  row-pairs : (u : Row) (vs : Bag) → P u → Every R vs →
      gather (λ v. kept condition (f u ++ v)) (map g vs) ≡ mapped (map make) (gather (λ v. kept lower (u ++ v)) vs)
  row-pairs u [] h k = refl
  row-pairs u (v ∷ vs) h k =
      (λ i. both (λ y ys. y ++ ys) (pair-kept u v h k.0 i) (row-pairs u vs h k.1 i))
      ∙ appended-made make (kept lower (u ++ v)) (gather (λ w. kept lower (u ++ w)) vs)

  all-pairs : (us vs : Bag) → Every P us → Every R vs → met_pairs condition (map f us) (map g vs) ≡ mapped (map make) (met_pairs lower us vs)
  all-pairs [] vs h k = refl
  all-pairs (u ∷ us) vs h k =
      (λ i. both (λ y ys. y ++ ys) (row-pairs u vs h.0 k i) (all-pairs us vs h.1 k i))
      ∙ appended-made make (gather (λ v. kept lower (u ++ v)) vs) (met_pairs lower us vs)

  pair-met : (u v : Row) → P u → R v → is_met (condition (f u ++ g v)) ≡ is_met (lower (u ++ v))
  pair-met u v h k = ap is_met (ap condition (sym (pair u v h k)) ∙ sym (same (u ++ v)))

  any-right : (u : Row) (vs : Bag) → P u → Every R vs →
      list_any (λ v. is_met (condition (f u ++ v))) (map g vs) ≡ list_any (λ v. is_met (lower (u ++ v))) vs
  any-right u [] h k = refl
  any-right u (v ∷ vs) h k = λ i. pair-met u v h k.0 i || any-right u vs h k.1 i

  any-left : (us : Bag) (v : Row) → Every P us → R v →
      list_any (λ u. is_met (condition (u ++ g v))) (map f us) ≡ list_any (λ u. is_met (lower (u ++ v))) us
  any-left [] v h k = refl
  any-left (u ∷ us) v h k = λ i. pair-met u v h.0 k i || any-left us v h.1 k i

  module _ (left_width right_width lower_left lower_right : ℕ) (right_empty : (u : Row) → P u → make (u ++ nulls lower_right) ≡ f u ++ nulls right_width)
      (left_empty : (v : Row) → R v → make (nulls lower_left ++ v) ≡ nulls left_width ++ g v) where
    one-left : (b : Bool) (u : Row) (us vs : Bag) → P u → map (λ t. t ++ nulls right_width) us ≡ map make (map (λ t. t ++ nulls lower_right) vs) →
        map (λ t. t ++ nulls right_width) (cond b (f u ∷ us) us) ≡ map make (map (λ t. t ++ nulls lower_right) (cond b (u ∷ vs) vs))
    one-left true u us vs h e = λ i. sym (right_empty u h) i ∷ e i
    one-left false u us vs h e = e

    one-right : (b : Bool) (v : Row) (us vs : Bag) → R v → map (λ t. nulls left_width ++ t) us ≡ map make (map (λ t. nulls lower_left ++ t) vs) →
        map (λ t. nulls left_width ++ t) (cond b (g v ∷ us) us) ≡ map make (map (λ t. nulls lower_left ++ t) (cond b (v ∷ vs) vs))
    one-right true v us vs h e = λ i. sym (left_empty v h) i ∷ e i
    one-right false v us vs h e = e

    left-alone : (us vs : Bag) → Every P us → Every R vs →
        map (λ t. t ++ nulls right_width) (unmatched_left condition (map f us) (map g vs)) ≡ map make (map (λ t. t ++ nulls lower_right) (unmatched_left lower us vs))
    left-alone [] vs h k = refl
    left-alone (u ∷ us) vs h k =
        (λ i. map (λ t. t ++ nulls right_width) (cond (not (any-right u vs h.0 k i)) (f u ∷ unmatched_left condition (map f us) (map g vs))
        (unmatched_left condition (map f us) (map g vs))))
        ∙ one-left (not (list_any (λ v. is_met (lower (u ++ v))) vs)) u (unmatched_left condition (map f us) (map g vs)) (unmatched_left lower us vs) h.0
        (left-alone us vs h.1 k)

    right-alone : (us vs : Bag) → Every P us → Every R vs →
        map (λ t. nulls left_width ++ t) (unmatched_right condition (map f us) (map g vs)) ≡ map make (map (λ t. nulls lower_left ++ t) (unmatched_right lower us vs))
    right-alone us [] h k = refl
    right-alone us (v ∷ vs) h k =
        (λ i. map (λ t. nulls left_width ++ t) (cond (not (any-left us v h k.0 i)) (g v ∷ unmatched_right condition (map f us) (map g vs))
        (unmatched_right condition (map f us) (map g vs))))
        ∙ one-right (not (list_any (λ u. is_met (lower (u ++ v))) us)) v (unmatched_right condition (map f us) (map g vs)) (unmatched_right lower us vs) k.0
        (right-alone us vs h k.1)

    if-made : (b : Bool) (us vs : Bag) → us ≡ map make vs → cond b us [] ≡ map make (cond b vs [])
    if-made true us vs e = e
    if-made false us vs e = refl

    parts-made : (o : Outcome Bag) (left right lefts rights : Bag) → left ≡ map make lefts → right ≡ map make rights →
        mapped (λ pairs. pairs ++ left ++ right) (mapped (map make) o) ≡ mapped (map make) (mapped (λ pairs. pairs ++ lefts ++ rights) o)
    parts-made (Good ps) left right lefts rights e d =
        ap Good ((λ i. map make ps ++ e i ++ d i) ∙ ap (λ xs. xs ++ map make rights) (sym (map-append make ps lefts)) ∙ sym (map-append make (ps ++ lefts) rights))
    parts-made (Bad faults) left right lefts rights e d = refl

    module _ (kind : JoinKind) where
      joined-made : (us vs : Bag) → Every P us → Every R vs →
          joined_rows kind condition left_width right_width (map f us) (map g vs) ≡ mapped (map make) (joined_rows kind lower lower_left lower_right us vs)
      joined-made us vs h k =
          ap (mapped (λ pairs. pairs
          ++ cond (keeps_left kind) (map (λ u. u ++ nulls right_width) (unmatched_left condition (map f us) (map g vs))) []
          ++ cond (keeps_right kind) (map (λ v. nulls left_width ++ v) (unmatched_right condition (map f us) (map g vs))) [])) (all-pairs us vs h k)
          ∙ parts-made (met_pairs lower us vs) _ _ _ _
          (if-made (keeps_left kind) _ (map (λ u. u ++ nulls lower_right) (unmatched_left lower us vs)) (left-alone us vs h k))
          (if-made (keeps_right kind) _ (map (λ v. nulls lower_left ++ v) (unmatched_right lower us vs)) (right-alone us vs h k))

      pub join-made : (o p : Outcome Bag) → WhereGood (Every P) o → WhereGood (Every R) p →
          both_then (mapped (map f) o) (mapped (map g) p) (joined_rows kind condition left_width right_width)
          ≡ mapped (map make) (both_then o p (joined_rows kind lower lower_left lower_right))
      join-made (Good us) (Good vs) h k = joined-made us vs h k
      join-made (Good us) (Bad faults) h k = refl
      join-made (Bad faults) (Good vs) h k = refl
      join-made (Bad faults) (Bad others) h k = refl
