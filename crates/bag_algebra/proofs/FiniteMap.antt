-- A BTreeMap under numbers, seen as a finite map.
use Rattle.std.proofs.Common.{◌≡◌, ℕ, Bool, true, false, cond, List, [], ◌∷◌, Some, None, refl, sym, ap, ◌∙◌}
use Rattle.std.specs.BTreeMap.{is_at}
use Rattle.std.specs.Cmp.{nat_cmp_total, Equal-is, eq_by_cmp_equiv}
use Rattle.std.specs.FinMap as map
use Rattle.std.specs.FinMap.{FinMap, from_entries, get-from_entries, get-insert, get-remove, same_map, nat_cmp-IsAntisymmetric}
use Rattle.std.specs.FinMap.Entries.{find}
use Rattle.std.specs.Map.{lookup}
use Rattle.std.specs.Ordering.{nat_cmp, eq_by_cmp, is_eq}

find-lookup : {X : Type 0} (es : List (ℕ × X)) (q : ℕ) → find nat_cmp q es ≡ lookup (is_at (nat_cmp q)) es
find-lookup [] q = refl
find-lookup (e ∷ es) q = ap (cond (is_eq (nat_cmp q e.0)) (Some e.1)) (find-lookup es q)

pub get-view : {X : Type 0} (es : List (ℕ × X)) (q : ℕ) → map.get (from_entries {R = nat_cmp} es) q ≡ lookup (is_at (nat_cmp q)) es
get-view es q = get-from_entries nat_cmp_total es q ∙ find-lookup es q

turned : (q k : ℕ) → eq_by_cmp nat_cmp k q ≡ eq_by_cmp nat_cmp q k
turned q k = (eq_by_cmp_equiv nat_cmp_total).symm k q

-- what looks like an insertion from every key is one
pub insert-view : {X : Type 0} (new old : List (ℕ × X)) (k : ℕ) (v : X) →
    ((q : ℕ) → lookup (is_at (nat_cmp q)) new ≡ cond (is_at (nat_cmp k) q) (Some v) (lookup (is_at (nat_cmp q)) old)) →
    from_entries {R = nat_cmp} new ≡ map.insert (from_entries {R = nat_cmp} old) k v
insert-view new old k v updates =
    same_map nat_cmp_total nat_cmp-IsAntisymmetric (from_entries new) (map.insert (from_entries old) k v)
    (λ q. get-view new q ∙ updates q
    ∙ (λ i. cond (turned q k i) (Some v) (sym (get-view old q) i))
    ∙ sym (get-insert nat_cmp_total (from_entries old) k v q))

pub remove-view : {X : Type 0} (new old : List (ℕ × X)) (k : ℕ) →
    ((q : ℕ) → lookup (is_at (nat_cmp q)) new ≡ cond (is_at (nat_cmp k) q) None (lookup (is_at (nat_cmp q)) old)) →
    from_entries {R = nat_cmp} new ≡ map.remove (from_entries {R = nat_cmp} old) k
remove-view new old k updates =
    same_map nat_cmp_total nat_cmp-IsAntisymmetric (from_entries new) (map.remove (from_entries old) k)
    (λ q. get-view new q ∙ updates q
    ∙ (λ i. cond (turned q k i) None (sym (get-view old q) i))
    ∙ sym (get-remove nat_cmp_total (from_entries old) k q))

same_at : {X : Type 0} (m : FinMap nat_cmp X) (k : ℕ) (v : X) (q : ℕ) (b : Bool) → eq_by_cmp nat_cmp q k ≡ b → map.get m k ≡ Some v → cond b (Some v) (map.get m q) ≡ map.get m q
same_at m k v q true e h = sym (ap (map.get m) (nat_cmp-IsAntisymmetric q k ((Equal-is (nat_cmp q k)).0 e)) ∙ h)
same_at m k v q false e h = refl

-- what is there already isn't changed by its insertion
pub insert-same : {X : Type 0} (m : FinMap nat_cmp X) (k : ℕ) (v : X) → map.get m k ≡ Some v → map.insert m k v ≡ m
insert-same m k v h =
    same_map nat_cmp_total nat_cmp-IsAntisymmetric (map.insert m k v) m
    (λ q. get-insert nat_cmp_total m k v q ∙ same_at m k v q (eq_by_cmp nat_cmp q k) refl h)
