-- The numbers of classes, one row after another.
use Rattle.std.proofs.Common.{◌≡◌, ◌≢◌, ℕ, zero, suc, ◌<◌, ◌≤◌, Bool, true, false, cond, nat_eq, ◌||◌, List, [], ◌∷◌, ◌++◌, map, length, get_or, Some, refl, sym, ap, subst, ◌∙◌, arith, true≢false}
use Rattle.std.proofs.lemmas.List.{map-append}
use Rattle.std.proofs.lemmas.Option.{slice_get_within, same_Some}
use Rattle.std.proofs.lemmas.Bool.{eq-eqb, ne_eqb}
use Rattle.std.specs.List.{list_any, slice_get}
use Rattle.indexmap.specs.IndexSet.{insert_key}
use Rattle.perm_values.specs.Rows.{same_row, picked}
use Rattle.bag_algebra.proofs.BagLaws.{same_row-is, same_row-refl, same_row-sym, member-once, keys-once}
use Rattle.bag_algebra.specs.Bags.{Row, Bag, count, member, once}
use Rattle.bag_algebra.specs.Means.{class_keys, class_of}
use Rattle.row_values.specs.Groups.{IsClassed, numbered}
use Rattle.row_values.proofs.Once.{once_more}

-- ---- one more row

any-turned : (key : Row) (keys : Bag) → list_any (same_row key) keys ≡ member key keys
any-turned key [] = refl
any-turned key (k ∷ keys) = λ i. same_row-sym key k i || any-turned key keys i

keys-more : (groups : List ℕ) (us : Bag) (u : Row) → class_keys groups (us ++ u ∷ []) ≡ insert_key same_row (class_keys groups us) (picked groups u)
keys-more [] us u = refl
keys-more (group ∷ groups) us u =
    let key = picked (group ∷ groups) u in
    let keys = map (picked (group ∷ groups)) us in
    ap once (map-append (picked (group ∷ groups)) us (u ∷ []))
    ∙ once_more keys key
    ∙ ap (λ b. cond b (once keys) (once keys ++ key ∷ [])) (sym (any-turned key (once keys) ∙ member-once key keys))

grown : (keys : Bag) (n : ℕ) (key new : Row) (b : Bool) → slice_get keys n ≡ Some key → slice_get (cond b keys (keys ++ new ∷ [])) n ≡ Some key
grown keys n key new true e = e
grown keys n key new false e = further keys n e
  where
    further : (keys : Bag) (n : ℕ) → slice_get keys n ≡ Some key → slice_get (keys ++ new ∷ []) n ≡ Some key
    further [] n e = absurd (cc e)
    further (k ∷ keys) zero e = e
    further (k ∷ keys) (suc n) e = further keys n e

same_head : {X : Type 0} (x y : X) (xs ys : List X) → x ∷ xs ≡ y ∷ ys → x ≡ y
same_head x y xs ys e = cc

same_tail : {X : Type 0} (x y : X) (xs ys : List X) → x ∷ xs ≡ y ∷ ys → xs ≡ ys
same_tail x y xs ys e = cc

no_item : {X : Type 0} (x : X) (xs : List X) → [] ≡ x ∷ xs → ⊥
no_item x xs e = cc

still_found : (f : Row → Row) (keys : Bag) (new : Row) (b : Bool) (numbers : List ℕ) (us : Bag) →
    map (slice_get keys) numbers ≡ map (λ u. Some (f u)) us → map (slice_get (cond b keys (keys ++ new ∷ []))) numbers ≡ map (λ u. Some (f u)) us
still_found f keys new b [] us e = e
still_found f keys new b (n ∷ numbers) [] e = absurd (no_item _ _ (sym e))
still_found f keys new b (n ∷ numbers) (u ∷ us) e =
    let here = grown keys n (f u) new b (same_head _ _ _ _ e) in
    let rest = still_found f keys new b numbers us (same_tail _ _ _ _ e) in
    λ i. here i ∷ rest i

pub classed-more : (groups : List ℕ) (us : Bag) (keys new : Bag) (numbers : List ℕ) (u : Row) (number : ℕ) → IsClassed groups us keys numbers →
    new ≡ insert_key same_row keys (picked groups u) → ((k : Row) × (slice_get new number ≡ Some k) × (same_row (picked groups u) k ≡ true)) →
    IsClassed groups (us ++ u ∷ []) new (numbers ++ number ∷ [])
classed-more groups us keys new numbers u number c e stored = record {
  classes = e ∙ ap (λ ks. insert_key same_row ks (picked groups u)) c.classes ∙ sym (keys-more groups us u);
  found =
      map-append (slice_get new) numbers (number ∷ [])
      ∙ (λ i. before i ++ here i ∷ [])
      ∙ sym (map-append (λ v. Some (picked groups v)) us (u ∷ []));
}
  where
    before : map (slice_get new) numbers ≡ map (λ v. Some (picked groups v)) us
    before = ap (λ ks. map (slice_get ks) numbers) e ∙ still_found (picked groups) keys (picked groups u) (list_any (same_row (picked groups u)) keys) numbers us c.found

    here : slice_get new number ≡ Some (picked groups u)
    here = stored.1 ∙ ap Some (sym (same_row-is (picked groups u) stored.0 stored.2))

-- ---- numbers are those of keys

pub numbers_within : (groups : List ℕ) (us keys : Bag) (numbers : List ℕ) → IsClassed groups us keys numbers → (i d : ℕ) → i < length numbers → get_or numbers i d < length keys
numbers_within groups us keys numbers c = each numbers us c.found
  where
    each : (ns : List ℕ) (vs : Bag) → map (slice_get keys) ns ≡ map (λ u. Some (picked groups u)) vs → (i d : ℕ) → i < length ns → get_or ns i d < length keys
    each [] vs e i d low = absurd (omega arith)
    each (n ∷ ns) [] e i d low = absurd (no_item _ _ (sym e))
    each (n ∷ ns) (v ∷ vs) e zero d low = slice_get_within keys n (picked groups v) (same_head _ _ _ _ e)
    each (n ∷ ns) (v ∷ vs) e (suc i) d low = each ns vs (same_tail _ _ _ _ e) i d (omega arith)

-- ---- each key stands at one place

counted : (keys : Bag) (n : ℕ) (key : Row) → slice_get keys n ≡ Some key → 0 < count key keys
counted [] n key e = absurd (cc e)
counted (k ∷ keys) zero key e = rw (ap (λ x. same_row x key) (same_Some k key e) ∙ same_row-refl key) (omega arith)
counted (k ∷ keys) (suc n) key e = by (same_row k key) (counted keys n key e)
  where
    by : (b : Bool) → 0 < count key keys → 0 < cond b (suc (count key keys)) (count key keys)
    by true h = omega arith
    by false h = h

fewer : (k key : Row) (keys : Bag) → count key (k ∷ keys) ≤ 1 → count key keys ≤ 1
fewer k key keys h = by (same_row k key) h
  where
    by : (b : Bool) → cond b (suc (count key keys)) (count key keys) ≤ 1 → count key keys ≤ 1
    by true h = omega arith
    by false h = h

twice : (k key : Row) (keys : Bag) (n : ℕ) → k ≡ key → slice_get keys n ≡ Some key → count key (k ∷ keys) ≤ 1 → ⊥
twice k key keys n e f h =
    let more = counted keys n key f in
    let most : suc (count key keys) ≤ 1 = rw (ap (λ x. same_row x key) e ∙ same_row-refl key) at h in
    omega arith

one_place : (keys : Bag) (n m : ℕ) (key : Row) → count key keys ≤ 1 → slice_get keys n ≡ Some key → slice_get keys m ≡ Some key → n ≡ m
one_place [] n m key h e f = absurd (cc e)
one_place (k ∷ keys) zero zero key h e f = refl
one_place (k ∷ keys) zero (suc m) key h e f = absurd (twice k key keys m (same_Some k key e) f h)
one_place (k ∷ keys) (suc n) zero key h e f = absurd (twice k key keys n (same_Some k key f) e h)
one_place (k ∷ keys) (suc n) (suc m) key h e f = ap suc (one_place keys n m key (fewer k key keys h) e f)

-- ---- the rows with a key's number are those of its class

pub numbered-is : (groups : List ℕ) (us keys : Bag) (numbers : List ℕ) (number : ℕ) (key : Row) → IsClassed groups us keys numbers →
    slice_get keys number ≡ Some key → numbered number numbers us ≡ class_of groups key us
numbered-is groups us keys numbers number key c at = rows numbers us c.found
  where
    single : count key keys ≤ 1
    single = subst (λ ks. count key ks ≤ 1) (sym c.classes) (keys-once groups us key)

    other : (n : ℕ) (v : Row) → slice_get keys n ≡ Some (picked groups v) → same_row (picked groups v) key ≡ false → n ≢ number
    other n v e f g =
        let k : Some (picked groups v) ≡ Some key = sym e ∙ ap (slice_get keys) g ∙ at in
        true≢false (sym (ap (λ x. same_row x key) (same_Some _ _ k) ∙ same_row-refl key) ∙ f)

    test : (n : ℕ) (v : Row) (b : Bool) → slice_get keys n ≡ Some (picked groups v) → same_row (picked groups v) key ≡ b → nat_eq n number ≡ b
    test n v true e f = eq-eqb n number (one_place keys n number key single (e ∙ ap Some (same_row-is (picked groups v) key f)) at)
    test n v false e f = ne_eqb n number (other n v e f)

    rows : (ns : List ℕ) (vs : Bag) → map (slice_get keys) ns ≡ map (λ u. Some (picked groups u)) vs → numbered number ns vs ≡ class_of groups key vs
    rows [] [] e = refl
    rows [] (v ∷ vs) e = absurd (no_item _ _ e)
    rows (n ∷ ns) [] e = absurd (no_item _ _ (sym e))
    rows (n ∷ ns) (v ∷ vs) e =
        let flag = test n v (same_row (picked groups v) key) (same_head _ _ _ _ e) refl in
        let rest = rows ns vs (same_tail _ _ _ _ e) in
        λ i. cond (flag i) (v ∷ rest i) (rest i)
