-- Comparisons, and IN as the OR of equalities.
use Rattle.std.proofs.Common.{◌≡◌, ◌↔◌, Bool, true, false, cond, not, ◌&&◌, ◌||◌, List, [], ◌∷◌, All, refl, sym, ap, ap₂, ◌∙◌}
use Rattle.std.proofs.lemmas.List.Elements.{All-nil, All-cons, All-head, All-tail}
use Rattle.std.specs.List.{list_any}
use Rattle.std.specs.Ordering.{ordering_reverse, is_eq}
use Rattle.std.specs.declared.cmp.Ordering.{Ordering}
use Rattle.std.specs.declared.cmp.Ordering.TheVariants as order
use Rattle.null_logic.specs.Comparison.{holds, compare_values, mirrored, in_list}
use Rattle.null_logic.specs.Logic.{truth_or, is_true, known}
use Rattle.null_logic.specs.declared.compare.Compare.{Compare}
use Rattle.null_logic.specs.declared.compare.Compare.TheVariants.{Equal, NotEqual, Less, LessEqual, Greater, GreaterEqual}
use Rattle.null_logic.specs.declared.truth.Truth.{Truth}
use Rattle.null_logic.specs.declared.truth.Truth.TheVariants.{True, False, Unknown}
use Rattle.perm_values.specs.ValueLaws.{value_cmp_total, value_ties}
use Rattle.perm_values.specs.Values.{same_value, value_cmp, is_null}
use Rattle.perm_values.specs.declared.value.Value.{Value}

holds-mirrored : (op : Compare) (o : Ordering) → holds op o ≡ holds (mirrored op) (ordering_reverse o)
holds-mirrored Equal order.Less = refl
holds-mirrored Equal order.Equal = refl
holds-mirrored Equal order.Greater = refl
holds-mirrored NotEqual order.Less = refl
holds-mirrored NotEqual order.Equal = refl
holds-mirrored NotEqual order.Greater = refl
holds-mirrored Less order.Less = refl
holds-mirrored Less order.Equal = refl
holds-mirrored Less order.Greater = refl
holds-mirrored LessEqual order.Less = refl
holds-mirrored LessEqual order.Equal = refl
holds-mirrored LessEqual order.Greater = refl
holds-mirrored Greater order.Less = refl
holds-mirrored Greater order.Equal = refl
holds-mirrored Greater order.Greater = refl
holds-mirrored GreaterEqual order.Less = refl
holds-mirrored GreaterEqual order.Equal = refl
holds-mirrored GreaterEqual order.Greater = refl

swapped : (m n h k : Bool) → h ≡ k → cond (m || n) Unknown (known h) ≡ cond (n || m) Unknown (known k)
swapped true true h k e = refl
swapped true false h k e = refl
swapped false true h k e = refl
swapped false false h k e = ap known e

pub compare_values-mirrored : (op : Compare) (a b : Value) → compare_values op a b ≡ compare_values (mirrored op) b a
compare_values-mirrored op a b =
    swapped (is_null a) (is_null b) (holds op (value_cmp a b)) (holds (mirrored op) (value_cmp b a))
    (holds-mirrored op (value_cmp a b) ∙ ap (holds (mirrored op)) (sym (value_cmp_total.antisymm b a)))

pub holds-equal : (o : Ordering) → holds Equal o ≡ is_eq o
holds-equal order.Less = refl
holds-equal order.Equal = refl
holds-equal order.Greater = refl

is_true-known : (h : Bool) → is_true (known h) ≡ h
is_true-known true = refl
is_true-known false = refl

pub beside_no_null : (m n h s : Bool) → h ≡ s → is_true (cond (m || n) Unknown (known h)) ≡ (not m && not n && s)
beside_no_null true true h s e = refl
beside_no_null true false h s e = refl
beside_no_null false true h s e = refl
beside_no_null false false h s e = is_true-known h ∙ e

pub equality-is_true : (a b : Value) → is_true (compare_values Equal a b) ≡ (not (is_null a) && not (is_null b) && same_value a b)
equality-is_true a b =
    beside_no_null (is_null a) (is_null b) (holds Equal (value_cmp a b)) (same_value a b) (holds-equal (value_cmp a b) ∙ sym (value_ties a b))

-- ---- IN

is_true-or : (s t : Truth) → is_true (truth_or s t) ≡ (is_true s || is_true t)
is_true-or True True = refl
is_true-or True False = refl
is_true-or True Unknown = refl
is_true-or False True = refl
is_true-or False False = refl
is_true-or False Unknown = refl
is_true-or Unknown True = refl
is_true-or Unknown False = refl
is_true-or Unknown Unknown = refl

pub in_list-is_true : (a : Value) (vs : List Value) → is_true (in_list a vs) ≡ list_any (λ v. is_true (compare_values Equal a v)) vs
in_list-is_true a [] = refl
in_list-is_true a (v ∷ vs) =
    is_true-or (compare_values Equal a v) (in_list a vs) ∙ ap (λ t. is_true (compare_values Equal a v) || t) (in_list-is_true a vs)

both_false : (s t : Truth) → truth_or s t ≡ False → (s ≡ False) × (t ≡ False)
both_false True True e = cc
both_false True False e = cc
both_false True Unknown e = cc
both_false False True e = cc
both_false False False e = (refl, refl)
both_false False Unknown e = cc
both_false Unknown True e = cc
both_false Unknown False e = cc
both_false Unknown Unknown e = cc

module _ (a : Value) where
  abbrev Differs : Value → Type 0
  Differs v = compare_values Equal a v ≡ False

  all_differ : (vs : List Value) → in_list a vs ≡ False → All Differs vs
  all_differ [] e = All-nil Differs
  all_differ (v ∷ vs) e =
      let both : (compare_values Equal a v ≡ False) × (in_list a vs ≡ False) = both_false (compare_values Equal a v) (in_list a vs) e in
      All-cons Differs v vs both.0 (all_differ vs both.1)

  none_equal : (vs : List Value) → All Differs vs → in_list a vs ≡ False
  none_equal [] h = refl
  none_equal (v ∷ vs) h = ap₂ truth_or (All-head Differs v vs h) (none_equal vs (All-tail Differs v vs h))

  pub in_list-false : (vs : List Value) → (in_list a vs ≡ False) ↔ All (λ v. compare_values Equal a v ≡ False) vs
  in_list-false vs = (all_differ vs, none_equal vs)
