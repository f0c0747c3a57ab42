-- The values of an argument, put into the classes one row after another.
use Rattle.std.proofs.Common.{◌≡◌, ◌≢◌, ℕ, zero, suc, ◌+◌, ◌<◌, Bool, true, false, cond, nat_eq, List, [], ◌∷◌, ◌++◌, map, length, get_or, refl, sym, ap, subst, ◌∙◌, arith, append-nil, All, min, take, length-take}
use Rattle.std.proofs.Math.ListN.{set}
use Rattle.std.proofs.lemmas.Bool.Decides.{nat_tests}
use Rattle.std.proofs.lemmas.List.{map-append, take_more, length-set, get_or-set_same, get_or-set_other}
use Rattle.std.proofs.lemmas.Bool.{eqb-true}
use Rattle.perm_values.specs.declared.value.Value.{Value}
use Rattle.perm_values.proofs.Lists.{taken}
use Rattle.bag_algebra.specs.Bags.{Row, Bag}
use Rattle.bag_algebra.specs.Means.{good_value}
use Rattle.bag_algebra.specs.Outcome.{Outcome, Good}
use Rattle.row_values.specs.Columns.{IsGoodOn, Distributes}
use Rattle.row_values.specs.Groups.{numbered}

pub good-more : {Y : Type 0} (f : Row → Outcome Y) (value : Row → Y) (us : Bag) (u : Row) → IsGoodOn f value us → f u ≡ Good (value u) → IsGoodOn f value (us ++ u ∷ [])
good-more f value [] u h e = (e, tt)
good-more f value (v ∷ us) u h e = (h.0, good-more f value us u h.1 e)

numbered-more : (number : ℕ) (numbers : List ℕ) (us : Bag) (n : ℕ) (u : Row) → length numbers ≡ length us →
    numbered number (numbers ++ n ∷ []) (us ++ u ∷ []) ≡ numbered number numbers us ++ cond (nat_eq n number) (u ∷ []) []
numbered-more number [] [] n u e = by (nat_eq n number)
  where
    by : (b : Bool) → cond b (u ∷ []) [] ≡ [] ++ cond b (u ∷ []) []
    by true = refl
    by false = refl
numbered-more number [] (v ∷ us) n u e = absurd (omega arith)
numbered-more number (m ∷ numbers) [] n u e = absurd (omega arith)
numbered-more number (m ∷ numbers) (v ∷ us) n u e = by (nat_eq m number) (numbered-more number numbers us n u (omega arith))
  where
    by : (b : Bool) → numbered number (numbers ++ n ∷ []) (us ++ u ∷ []) ≡ numbered number numbers us ++ cond (nat_eq n number) (u ∷ []) [] →
        cond b (v ∷ numbered number (numbers ++ n ∷ []) (us ++ u ∷ [])) (numbered number (numbers ++ n ∷ []) (us ++ u ∷ []))
        ≡ cond b (v ∷ numbered number numbers us) (numbered number numbers us) ++ cond (nat_eq n number) (u ∷ []) []
    by true h = ap (λ l. v ∷ l) h
    by false h = h

no_number : (a b : ℕ) → nat_eq a b ≡ false → b ≢ a
no_number a b e = grind (arith, nat_tests)

pub distributes-more : (f : Row → Outcome Value) (us : Bag) (numbers : List ℕ) (count : ℕ) (classes : List (List Value)) (u : Row) (n : ℕ) (v : Value) (class : List Value) →
    Distributes f us numbers count classes → length numbers ≡ length us → n < count → f u ≡ Good v → class ≡ get_or classes n [] ++ v ∷ [] →
    Distributes f (us ++ u ∷ []) (numbers ++ n ∷ []) count (set classes n class)
distributes-more f us numbers count classes u n v class d long low good e = record {
  good = good-more f (λ w. good_value (f w)) us u d.good (good ∙ ap Good (sym (ap good_value good)));
  long = length-set classes n class ∙ d.long;
  values = λ number h. by number h (nat_eq n number) refl;
}
  where
    more : (number : ℕ) (b : Bool) → nat_eq n number ≡ b →
        map (λ w. good_value (f w)) (numbered number (numbers ++ n ∷ []) (us ++ u ∷ [])) ≡ map (λ w. good_value (f w)) (numbered number numbers us) ++ cond b (v ∷ []) []
    more number true g =
        ap (map (λ w. good_value (f w))) (numbered-more number numbers us n u long ∙ ap (λ b. numbered number numbers us ++ cond b (u ∷ []) []) g)
        ∙ map-append (λ w. good_value (f w)) (numbered number numbers us) (u ∷ [])
        ∙ ap (λ x. map (λ w. good_value (f w)) (numbered number numbers us) ++ x ∷ []) (ap good_value good)
    more number false g =
        ap (map (λ w. good_value (f w))) (numbered-more number numbers us n u long ∙ ap (λ b. numbered number numbers us ++ cond b (u ∷ []) []) g)
        ∙ map-append (λ w. good_value (f w)) (numbered number numbers us) []

    by : (number : ℕ) → number < count → (b : Bool) → nat_eq n number ≡ b →
        get_or (set classes n class) number [] ≡ map (λ w. good_value (f w)) (numbered number (numbers ++ n ∷ []) (us ++ u ∷ []))
    by number h true g =
        let same = eqb-true n number g in
        ap (λ m. get_or (set classes n class) m []) (sym same)
        ∙ get_or-set_same classes n class [] (let k = d.long in omega arith)
        ∙ e ∙ ap (λ l. l ++ v ∷ []) (ap (λ m. get_or classes m []) same ∙ d.values number h)
        ∙ sym (more number true g)
    by number h false g =
        get_or-set_other classes n number class [] (no_number n number g) ∙ d.values number h ∙ sym (append-nil _) ∙ sym (more number false g)

pub distributes-taken : (f : Row → Outcome Value) (us : Bag) (numbers : List ℕ) (count : ℕ) (classes : List (List Value)) (i : ℕ) (u : Row) (v : Value) (class : List Value) →
    Distributes f (take i us) (take i numbers) count classes → length numbers ≡ length us → All (λ number. number < count) numbers → i < length us → u ≡ get_or us i u → f u ≡ Good v →
    class ≡ get_or classes (get_or numbers i 0) [] ++ v ∷ [] →
    Distributes f (take (i + 1) us) (take (i + 1) numbers) count (set classes (get_or numbers i 0) class)
distributes-taken f us numbers count classes i u v class d long within low is good e =
    subst (λ l. Distributes f l (take (i + 1) numbers) count (set classes (get_or numbers i 0) class)) (sym (taken us i u low is))
    (subst (λ l. Distributes f (take i us ++ u ∷ []) l count (set classes (get_or numbers i 0) class)) (sym (take_more numbers i 0 (omega arith)))
    (distributes-more f (take i us) (take i numbers) count classes u (get_or numbers i 0) v class d
    (length-take i numbers ∙ ap (min i) long ∙ sym (length-take i us)) (within i 0 (omega arith)) good e))

-- what a class becomes when a value is added
pub pushed : {count : ℕ} (classes : List (List Value)) (n : ℕ) (class : List Value) (v : Value) (new : List Value) → n < count → length classes ≡ count → class ≡ get_or classes n class →
    new ≡ class ++ v ∷ [] → new ≡ get_or classes n [] ++ v ∷ []
pushed classes n class v new low long is e = e ∙ ap (λ l. l ++ v ∷ []) (is ∙ default classes n class [] (omega arith))
  where
    default : {X : Type 0} (xs : List X) (n : ℕ) (d e : X) → n < length xs → get_or xs n d ≡ get_or xs n e
    default [] n d e low = absurd (omega arith)
    default (x ∷ xs) zero d e low = refl
    default (x ∷ xs) (suc n) d e low = default xs n d e (omega arith)
