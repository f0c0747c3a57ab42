-- What has a name once an entry was added, changed or taken out.
use mathlib.Core.Bool.{true≢false}
use Rattle.std.proofs.Common.{◌≡◌, ◌≢◌, ◌⊎◌, inl, inr, ℕ, Bool, true, false, cond, List, [], ◌∷◌, ◌++◌, length, Option, Some, None, is_some, refl, sym, ap, ◌∙◌, nat_eq}
use Rattle.std.proofs.lemmas.List.{map-append}
use Rattle.std.proofs.lemmas.Map.{lookup-insert, lookup-set_value, lookup-remove_entry, keys-set_value, none_passes_from_lookup}
use Rattle.std.proofs.lemmas.Map.Keys.{IsDistinct-push}
use Rattle.std.proofs.lemmas.Map.Made.{is_some-lookup}
use Rattle.std.specs.Cmp.Lexicographic.{pointwise, nat_list_eq_equiv, bytes_decides}
use Rattle.std.specs.List.{insert, AllByRecursion, IsDistinct}
use Rattle.std.specs.Map.{lookup, set_value, remove_entry, keys_of}
use Rattle.perm_values.proofs.Steps.{none_is_some}
use Rattle.perm_catalog.specs.Changes.{named, changed}

abbrev same : List ℕ → List ℕ → Bool
same = pointwise nat_eq

equal : (name q : List ℕ) → same name q ≡ true → name ≡ q
equal name q = (bytes_decides name q).0

one_name : (name x y : List ℕ) → same name x ≡ true → same name y ≡ same x y
one_name name x y h = ap (λ n. same n y) (equal name x h)

-- ---- an entry changed in its place

set_value-by : {X : Type 0} (f : X → X) (v : X) (e : List ℕ × X) (test : List ℕ → Bool) (es more : List (List ℕ × X)) (b : Bool) →
    (lookup test es ≡ Some v → set_value test es (f v) ≡ more) → cond b (Some e.1) (lookup test es) ≡ Some v →
    cond b ((e.0, f v) ∷ es) (e ∷ set_value test es (f v)) ≡ cond b ((e.0, f e.1) ∷ es) (e ∷ more)
set_value-by f v e test es more true after h =
    let here : e.1 ≡ v = cc in
    ap (λ x. (e.0, f x) ∷ es) (sym here)
set_value-by f v e test es more false after h = ap (λ l. e ∷ l) (after h)

-- what is written to a look-up's value changes the entry in its place
pub set_value-changed : {X : Type 0} (f : X → X) (name : List ℕ) (v : X) (es : List (List ℕ × X)) → named es name ≡ Some v →
    set_value (pointwise nat_eq name) es (f v) ≡ changed f name es
set_value-changed f name v [] h = none_is_some h
set_value-changed f name v (e ∷ es) h =
    set_value-by f v e (same name) es (changed f name es) (same name e.0) (set_value-changed f name v es) h

pub named-changed : {X : Type 0} (f : X → X) (name q : List ℕ) (v : X) (es : List (List ℕ × X)) → named es name ≡ Some v →
    named (changed f name es) q ≡ cond (pointwise nat_eq name q) (Some (f v)) (named es q)
named-changed f name q v es h =
    ap (λ l. named l q) (sym (set_value-changed f name v es h))
    ∙ lookup-set_value nat_list_eq_equiv (same name) (one_name name) q (f v) es (ap is_some h)

pub keys-changed : {X : Type 0} (f : X → X) (name : List ℕ) (v : X) (es : List (List ℕ × X)) → named es name ≡ Some v →
    keys_of (changed f name es) ≡ keys_of es
keys-changed f name v es h = ap keys_of (sym (set_value-changed f name v es h)) ∙ keys-set_value (same name) es (f v)

-- ---- an entry added at the end

insert-end : {X : Type 0} (xs : List X) (x : X) → insert xs (length xs) x ≡ xs ++ x ∷ []
insert-end [] x = refl
insert-end (y ∷ ys) x = ap (λ l. y ∷ l) (insert-end ys x)

pub named-last : {X : Type 0} (name q : List ℕ) (v : X) (es : List (List ℕ × X)) → named es name ≡ None →
    named (es ++ (name, v) ∷ []) q ≡ cond (pointwise nat_eq name q) (Some v) (named es q)
named-last name q v es none =
    ap (λ l. named l q) (sym (insert-end es (name, v)))
    ∙ lookup-insert nat_list_eq_equiv name v q es (length es) (none_passes_from_lookup (same name) es none)

pub distinct-last : {X : Type 0} (name : List ℕ) (v : X) (es : List (List ℕ × X)) → named es name ≡ None →
    IsDistinct (pointwise nat_eq) (keys_of es) → IsDistinct (pointwise nat_eq) (keys_of (es ++ (name, v) ∷ []))
distinct-last name v es none distinct =
    rw (map-append (λ e. e.0) es ((name, v) ∷ []))
    (IsDistinct-push nat_list_eq_equiv (keys_of es) name distinct (sym (is_some-lookup (same name) es) ∙ ap is_some none))

-- ---- an entry taken out

pub named-without : {X : Type 0} (name q : List ℕ) (es : List (List ℕ × X)) → IsDistinct (pointwise nat_eq) (keys_of es) →
    named (remove_entry (pointwise nat_eq name) es) q ≡ cond (pointwise nat_eq name q) None (named es q)
named-without name q es distinct = lookup-remove_entry nat_list_eq_equiv (same name) (one_name name) q es distinct

all-pick : {X : Type 0} (P : List ℕ → Type 0) (b : Bool) (es fs : List (List ℕ × X)) → AllByRecursion P (keys_of es) →
    AllByRecursion P (keys_of fs) → AllByRecursion P (keys_of (cond b es fs))
all-pick P true es fs h k = h
all-pick P false es fs h k = k

all-without : {X : Type 0} (P : List ℕ → Type 0) (name : List ℕ) (es : List (List ℕ × X)) → AllByRecursion P (keys_of es) →
    AllByRecursion P (keys_of (remove_entry (pointwise nat_eq name) es))
all-without P name [] h = tt
all-without P name (e ∷ es) h = all-pick P (same name e.0) es (e ∷ remove_entry (same name) es) h.1 (h.0, all-without P name es h.1)

distinct-pick : {X : Type 0} (b : Bool) (es fs : List (List ℕ × X)) → IsDistinct same (keys_of es) → IsDistinct same (keys_of fs) →
    IsDistinct same (keys_of (cond b es fs))
distinct-pick true es fs h k = h
distinct-pick false es fs h k = k

pub distinct-without : {X : Type 0} (name : List ℕ) (es : List (List ℕ × X)) → IsDistinct (pointwise nat_eq) (keys_of es) →
    IsDistinct (pointwise nat_eq) (keys_of (remove_entry (pointwise nat_eq name) es))
unfolding IsDistinct
distinct-without name [] d = tt
distinct-without name (e ∷ es) d =
    distinct-pick (same name e.0) es (e ∷ remove_entry (same name) es) d.1
    (all-without (λ y. same e.0 y ≡ false) name es d.0, distinct-without name es d.1)

-- ---- where what is found comes from

-- it is what the change put at the name
pub record AtName {X : Type 0} (put : Option X) (name q : List ℕ) (x : X) : Type 0 where
  pub here : name ≡ q
  pub is : put ≡ Some x

-- it has another name, and was found before
pub record Elsewhere {X : Type 0} (before : Option X) (name q : List ℕ) (x : X) : Type 0 where
  pub apart : name ≢ q
  pub was : before ≡ Some x

found-by : {X : Type 0} (put before : Option X) (name q : List ℕ) (x : X) (b : Bool) → same name q ≡ b → cond b put before ≡ Some x →
    AtName put name q x ⊎ Elsewhere before name q x
found-by put before name q x true e h = inl (record { here = equal name q e; is = h })
found-by put before name q x false e h = inr (record { apart = λ s. absurd (true≢false (sym ((bytes_decides name q).1 s) ∙ e)); was = h })

pub found : {X : Type 0} (put before now : Option X) (name q : List ℕ) (x : X) → now ≡ cond (pointwise nat_eq name q) put before →
    now ≡ Some x → AtName put name q x ⊎ Elsewhere before name q x
found put before now name q x change h = found-by put before name q x (same name q) refl (sym change ∙ h)

apart-by : {X : Type 0} (put before : Option X) (name q : List ℕ) (b : Bool) → same name q ≡ b → name ≢ q → cond b put before ≡ before
apart-by put before name q true e apart = absurd (apart (equal name q e))
apart-by put before name q false e apart = refl

-- at another name nothing changes
pub found-apart : {X : Type 0} (put before now : Option X) (name q : List ℕ) → now ≡ cond (pointwise nat_eq name q) put before →
    name ≢ q → now ≡ before
found-apart put before now name q change apart = change ∙ apart-by put before name q (same name q) refl apart

pub found-here : {X : Type 0} (put before now : Option X) (name q : List ℕ) → now ≡ cond (pointwise nat_eq name q) put before →
    name ≡ q → now ≡ put
found-here put before now name q change here = change ∙ ap (λ b. cond b put before) ((bytes_decides name q).1 here)

same-or-not-by : (name q : List ℕ) (b : Bool) → same name q ≡ b → (name ≡ q) ⊎ (name ≢ q)
same-or-not-by name q true e = inl (equal name q e)
same-or-not-by name q false e = inr (λ s. absurd (true≢false (sym ((bytes_decides name q).1 s) ∙ e)))

pub same-or-not : (name q : List ℕ) → (name ≡ q) ⊎ (name ≢ q)
same-or-not name q = same-or-not-by name q (same name q) refl
