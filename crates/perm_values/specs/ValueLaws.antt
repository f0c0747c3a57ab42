-- `same_value` decides equality, and `value_cmp` is a total order that is Equal exactly where it does.
use Rattle.std.specs.Prelude.{◌≡◌, ℕ, ℤ, pos, Bool, true, false, List, [], refl}
use Rattle.std.specs.Bool.{Decides}
use Rattle.std.specs.Cmp.{IsTotalOrder, IsEquivalence, on_total, then_total, nat_cmp_total, int_cmp_total, bool_cmp_total, decided, unsigned_ties, signed_Decides, booleans_Decides}
use Rattle.std.specs.Cmp.Lexicographic.{slice_cmp, lists_ties, nat_list_cmp_total, bytes_decides, pointwise_decides}
use Rattle.std.specs.Ordering.{nat_cmp, int_cmp, bool_cmp, on, then_cmp, ordering_then, eq_by_cmp}
use Rattle.std.specs.declared.cmp.Ordering.{Ordering}
use Rattle.std.specs.declared.cmp.Ordering.TheVariants.{Less, Equal, Greater}
use Rattle.std.proofs.Common.{sym, ap, subst}
use mathlib.Core.Bool.{true≢false}
use Rattle.perm_values.specs.Rows.{same_row}
use Rattle.perm_values.specs.Values.{same_value, rank, value_cmp}
use Rattle.perm_values.specs.declared.value.Value.{Value}
use Rattle.perm_values.specs.declared.value.Value.TheVariants.{Null, Integer, Text, Boolean}

differ : {P : Type 0} → false ≡ true → P
differ e = absurd (true≢false (sym e))

through : {X : Type 0} (make : X → Value) {t : Bool} {a b : X} → (make a ≡ make b → a ≡ b) → Decides t (a ≡ b) → Decides t (make a ≡ make b)
through make inner d = (λ e. ap make (d.0 e), λ e. d.1 (inner e))

pub value_decides : (x y : Value) → Decides (same_value x y) (x ≡ y)
value_decides Null Null = (λ e. refl, λ e. refl)
value_decides Null (Integer b) = (differ, λ e. cc)
value_decides Null (Text b) = (differ, λ e. cc)
value_decides Null (Boolean b) = (differ, λ e. cc)
value_decides (Integer a) Null = (differ, λ e. cc)
value_decides (Integer a) (Integer b) = through Integer (λ e. cc) (signed_Decides a b)
value_decides (Integer a) (Text b) = (differ, λ e. cc)
value_decides (Integer a) (Boolean b) = (differ, λ e. cc)
value_decides (Text a) Null = (differ, λ e. cc)
value_decides (Text a) (Integer b) = (differ, λ e. cc)
value_decides (Text a) (Text b) = through Text (λ e. cc) (bytes_decides a b)
value_decides (Text a) (Boolean b) = (differ, λ e. cc)
value_decides (Boolean a) Null = (differ, λ e. cc)
value_decides (Boolean a) (Integer b) = (differ, λ e. cc)
value_decides (Boolean a) (Text b) = (differ, λ e. cc)
value_decides (Boolean a) (Boolean b) = through Boolean (λ e. cc) (booleans_Decides a b)

pub row_decides : (u v : List Value) → Decides (same_row u v) (u ≡ v)
row_decides = pointwise_decides value_decides

pub same_value_equiv : IsEquivalence same_value
same_value_equiv = decided same_value value_decides

-- ---- the order, as four orders one after another

abbrev number : Value → ℤ
number Null = pos 0
number (Integer a) = a
number (Text a) = pos 0
number (Boolean a) = pos 0

abbrev letters : Value → List ℕ
letters Null = []
letters (Integer a) = []
letters (Text a) = a
letters (Boolean a) = []

abbrev truth : Value → Bool
truth Null = false
truth (Integer a) = false
truth (Text a) = false
truth (Boolean a) = a

abbrev by_parts : Value → Value → Ordering
by_parts = then_cmp (on rank nat_cmp) (then_cmp (on number int_cmp) (then_cmp (on letters (slice_cmp nat_cmp)) (on truth bool_cmp)))

then_equal : (o : Ordering) → ordering_then o Equal ≡ o
then_equal Less = refl
then_equal Equal = refl
then_equal Greater = refl

by_parts-is : (x y : Value) → by_parts x y ≡ value_cmp x y
by_parts-is Null Null = refl
by_parts-is Null (Integer b) = refl
by_parts-is Null (Text b) = refl
by_parts-is Null (Boolean b) = refl
by_parts-is (Integer a) Null = refl
by_parts-is (Integer a) (Integer b) = then_equal (int_cmp a b)
by_parts-is (Integer a) (Text b) = refl
by_parts-is (Integer a) (Boolean b) = refl
by_parts-is (Text a) Null = refl
by_parts-is (Text a) (Integer b) = refl
by_parts-is (Text a) (Text b) = then_equal (slice_cmp nat_cmp a b)
by_parts-is (Text a) (Boolean b) = refl
by_parts-is (Boolean a) Null = refl
by_parts-is (Boolean a) (Integer b) = refl
by_parts-is (Boolean a) (Text b) = refl
by_parts-is (Boolean a) (Boolean b) = refl

by_parts-total : IsTotalOrder by_parts
by_parts-total =
    then_total (on_total rank nat_cmp_total) (then_total (on_total number int_cmp_total)
    (then_total (on_total letters nat_list_cmp_total) (on_total truth bool_cmp_total)))

pub value_cmp_total : IsTotalOrder value_cmp
value_cmp_total =
    let e : by_parts ≡ value_cmp = λ i x y. by_parts-is x y i in
    subst IsTotalOrder e by_parts-total

boolean_ties : (a b : Bool) → same_value (Boolean a) (Boolean b) ≡ eq_by_cmp bool_cmp a b
boolean_ties true true = refl
boolean_ties true false = refl
boolean_ties false true = refl
boolean_ties false false = refl

pub value_ties : (x y : Value) → same_value x y ≡ eq_by_cmp value_cmp x y
value_ties Null Null = refl
value_ties Null (Integer b) = refl
value_ties Null (Text b) = refl
value_ties Null (Boolean b) = refl
value_ties (Integer a) Null = refl
value_ties (Integer a) (Integer b) = refl
value_ties (Integer a) (Text b) = refl
value_ties (Integer a) (Boolean b) = refl
value_ties (Text a) Null = refl
value_ties (Text a) (Integer b) = refl
value_ties (Text a) (Text b) = lists_ties nat_cmp unsigned_ties a b
value_ties (Text a) (Boolean b) = refl
value_ties (Boolean a) Null = refl
value_ties (Boolean a) (Integer b) = refl
value_ties (Boolean a) (Text b) = refl
value_ties (Boolean a) (Boolean b) = boolean_ties a b
