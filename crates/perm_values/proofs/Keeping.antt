-- What a turn of the loop that moves the kept items to the front keeps.
use Rattle.std.proofs.Common.{◌≡◌, ◌⊎◌, inl, inr, subst, ℕ, ◌+◌, ◌<◌, ◌≤◌, Bool, true, false, cond, List, [], ◌∷◌, ◌++◌, length, take, drop, get_or, count_by, refl, sym, ap, ◌∙◌, arith, add-zero, length-take, drop-drop, append-nil}
use Rattle.std.proofs.lemmas.List.{take_more, take-set-le, take_more_set, take-set, drop-set-lt, get_or-drop, length-set}
use Rattle.std.proofs.Math.ListN.{set}
use Rattle.std.proofs.Math.Nat.{eq-or-lt_of_le}
use Rattle.std.proofs.lemmas.List.Edits.{swap_is, length-swap}
use Rattle.std.proofs.lemmas.List.Sums.{count_by_more_no, count_by_more_yes}
use Rattle.std.specs.List.{swap}
use Rattle.perm_values.specs.Marked.{unmarked}

-- the first `kept` items of `now` are those of the first `i` of `was` that stay, and behind place i nothing has moved
pub record Keeps {X : Type 0} (flags : List Bool) (was now : List X) (kept i : ℕ) : Type 0 where
  pub within : kept ≤ i
  pub long : length now ≡ length was
  pub front : take kept now ≡ unmarked (take i flags) (take i was)
  pub rest : drop i now ≡ drop i was
  pub counted : kept + count_by (λ flag. flag) (take i flags) ≡ i

pub unmarked-more : {X : Type 0} (flags : List Bool) (items : List X) (flag : Bool) (item : X) → length flags ≡ length items →
    unmarked (flags ++ flag ∷ []) (items ++ item ∷ []) ≡ unmarked flags items ++ cond flag [] (item ∷ [])
unmarked-more [] [] true item e = refl
unmarked-more [] [] false item e = refl
unmarked-more [] (x ∷ items) flag item e = absurd (omega arith)
unmarked-more (f ∷ flags) [] flag item e = absurd (omega arith)
unmarked-more (true ∷ flags) (x ∷ items) flag item e = unmarked-more flags items flag item (omega arith)
unmarked-more (false ∷ flags) (x ∷ items) flag item e = ap (λ l. x ∷ l) (unmarked-more flags items flag item (omega arith))

-- the item x goes to place k, and what stood there to place i
placed : {X : Type 0} (now : List X) (k i : ℕ) (x y : X) → k < length now → (k ≡ i) ⊎ (k < i) → (k ≡ i → y ≡ x) → take (k + 1) (set (set now k x) i y) ≡ take k now ++ x ∷ []
placed now k i x y h (inl e) same =
    let place : k < length (set now k x) = omega (arith, length-set now k x) in
    let last : y ≡ x = same e in
    subst (λ j. take (k + 1) (set (set now k x) j y) ≡ take k now ++ x ∷ []) e
    (take_more_set (set now k x) k y place ∙ ap (λ l. l ++ y ∷ []) (take-set now k x) ∙ ap (λ z. take k now ++ z ∷ []) last)
placed now k i x y h (inr l) same = take-set-le (k + 1) (set now k x) i y (omega arith) ∙ take_more_set now k x h

module _ {X : Type 0} (flags : List Bool) (was now : List X) (kept i : ℕ) (d : X) (k : Keeps flags was now kept i)
    (same_length : length flags ≡ length was) (in_range : i < length was) where
  -- the item that the turn looks at has not moved
  unmoved : get_or now i d ≡ get_or was i d
  unmoved =
      let here : get_or (drop i now) 0 d ≡ get_or (drop i was) 0 d = ap (λ l. get_or l 0 d) k.rest in
      let e : get_or now (i + 0) d ≡ get_or was (i + 0) d = sym (get_or-drop i now 0 d) ∙ here ∙ get_or-drop i was 0 d in
      rw add-zero at e

  more : unmarked (take (i + 1) flags) (take (i + 1) was) ≡ unmarked (take i flags) (take i was) ++ cond (get_or flags i false) [] (get_or was i d ∷ [])
  more =
      let flag_more = take_more flags i false (omega arith) in
      let item_more = take_more was i d in_range in
      let long : length (take i flags) ≡ length (take i was) = omega (arith, length-take i flags, length-take i was) in
      rw (flag_more, item_more) (unmarked-more (take i flags) (take i was) (get_or flags i false) (get_or was i d) long)

  rest_more : drop (i + 1) now ≡ drop (i + 1) was
  rest_more =
      let e : drop 1 (drop i now) ≡ drop 1 (drop i was) = ap (λ l. drop 1 l) k.rest in
      rw (drop-drop, drop-drop) at e

  -- a doomed item stays where it is
  skips : get_or flags i false ≡ true → Keeps flags was now kept (i + 1)
  skips doomed = record {
    within = omega (arith, k.within);
    long = k.long;
    front = rw (more, doomed) (k.front ∙ sym (append-nil _));
    rest = rest_more;
    counted = rw (count_by_more_yes (λ flag. flag) flags i false (omega arith) doomed) (omega (arith, k.counted));
  }

  -- another one goes to the place behind those that stay
  keeps : get_or flags i false ≡ false → Keeps flags was (swap now kept i) (kept + 1) (i + 1)
  keeps stays =
      let swapped = swap_is now kept i d (omega (arith, k.within, k.long)) (omega (arith, k.long)) in
      record {
        within = omega (arith, k.within);
        long = length-swap now kept i ∙ k.long;
        front = rw more (rw stays (rw (← swapped)
            (placed now kept i (get_or now i d) (get_or now kept d) (omega (arith, k.within, k.long)) (eq-or-lt_of_le k.within) (λ e. ap (λ j. get_or now j d) e)
            ∙ ap (λ l. l ++ get_or now i d ∷ []) k.front ∙ ap (λ x. unmarked (take i flags) (take i was) ++ x ∷ []) unmoved)));
        rest = rw (← swapped) (drop-set-lt (i + 1) (set now kept (get_or now i d)) i (get_or now kept d) (omega arith)
            ∙ drop-set-lt (i + 1) now kept (get_or now i d) (omega (arith, k.within)) ∙ rest_more);
        counted = rw (count_by_more_no (λ flag. flag) flags i false (omega arith) stays) (omega (arith, k.counted));
      }

pub Keeps-doomed : {X : Type 0} (flags : List Bool) (was now : List X) (kept i : ℕ) → Keeps flags was now kept i →
    length flags ≡ length was → i < length was → get_or flags i false ≡ true → Keeps flags was now kept (i + 1)
Keeps-doomed flags [] now kept i k same in_range doomed = absurd (omega arith)
Keeps-doomed flags (d ∷ was) now kept i k same in_range doomed = skips flags (d ∷ was) now kept i d k same in_range doomed

pub Keeps-staying : {X : Type 0} (flags : List Bool) (was now : List X) (kept i : ℕ) → Keeps flags was now kept i →
    length flags ≡ length was → i < length was → get_or flags i false ≡ false → Keeps flags was (swap now kept i) (kept + 1) (i + 1)
Keeps-staying flags [] now kept i k same in_range stays = absurd (omega arith)
Keeps-staying flags (d ∷ was) now kept i k same in_range stays = keeps flags (d ∷ was) now kept i d k same in_range stays
