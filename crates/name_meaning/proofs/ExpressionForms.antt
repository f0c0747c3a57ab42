-- Each form of an expression, over parts that are made well formed.
use Rattle.std.specs.Prelude.{◌≡◌, ℕ, ◌≤◌, Bool, true, false, not, nat_eq, List, [], ◌∷◌, map, length, Option, Some, None}
use Rattle.std.proofs.Common.{refl, ap, sym, subst, arith, inl, inr}
use Rattle.std.specs.List.{list_any, AllByRecursion as Every}
use Rattle.null_logic.specs.declared.arith.Arith.{Arith}
use Rattle.null_logic.specs.declared.arith.Arith.TheVariants as arithmetic
use Rattle.null_logic.specs.declared.compare.Compare.{Compare}
use Rattle.null_logic.specs.declared.compare.Compare.TheVariants as comparison
use Rattle.null_logic.specs.declared.operator.Operator.{Operator}
use Rattle.null_logic.specs.declared.operator.Operator.TheVariants as x
use Rattle.null_logic.specs.declared.truth.Truth.{Truth}
use Rattle.perm_values.specs.declared.kind.Kind.{Kind}
use Rattle.perm_values.specs.declared.kind.Kind.TheVariants.{Integer, Text, Boolean}
use Rattle.bag_algebra.specs.built.Forms.{AllHave}
use Rattle.bag_algebra.specs.WellFormed.{HasKind, is_additive}
use Rattle.bag_algebra.specs.declared.expr.Expr.{Expr}
use Rattle.bag_algebra.specs.declared.expr.Expr.TheVariants.{Op, IsNull, IsTruth, Same}
use Rattle.sql_tree.specs.Regular.{IsConnective, IsFilled, IsSeveral, level_of}
use Rattle.bag_algebra.proofs.Truths.{left-false, right-false}
use Rattle.name_meaning.specs.Expressions.{first_of, second_of, negated_if, times}
use Rattle.name_meaning.specs.Meanings.{Surroundings, Part, settled}
use Rattle.name_meaning.specs.Operands.{operand, node, need_of, gives_of, operated}
use Rattle.name_meaning.specs.declared.need.Gives.{Gives}
use Rattle.name_meaning.specs.declared.need.Gives.TheVariants.{Always as always, Common as common}
use Rattle.name_meaning.specs.declared.need.Need.{Need}
use Rattle.name_meaning.specs.declared.need.Need.TheVariants.{OfKind as of_kind, Alike as alike, Free as free}
use Rattle.name_meaning.proofs.GoodMeant.{GoodMeant, GoodPart, GoodOperand, IsPlain, PlainOperand, HaveKinds, good-node, plain-node, given}
use Rattle.name_meaning.proofs.Holding.{op-holds, not-holds, negate-holds, negated-holds, times-holds, is_null-holds, is_truth-holds, same-holds, first-has, second-has, all-taken}
use Rattle.name_meaning.proofs.Needs.{taken, taken_kinds}

-- ---- the table of operators

need-compare : (op : Compare) → need_of (x.Compare op) false ≡ alike
need-compare comparison.Equal = refl
need-compare comparison.NotEqual = refl
need-compare comparison.Less = refl
need-compare comparison.LessEqual = refl
need-compare comparison.Greater = refl
need-compare comparison.GreaterEqual = refl

gives-compare : (op : Compare) → gives_of (x.Compare op) false ≡ always Boolean
gives-compare comparison.Equal = refl
gives-compare comparison.NotEqual = refl
gives-compare comparison.Less = refl
gives-compare comparison.LessEqual = refl
gives-compare comparison.Greater = refl
gives-compare comparison.GreaterEqual = refl

pub need-arith : (op : Arith) → need_of (x.Arith op) false ≡ of_kind Integer
need-arith arithmetic.Add = refl
need-arith arithmetic.Subtract = refl
need-arith arithmetic.Multiply = refl
need-arith arithmetic.Divide = refl
need-arith arithmetic.Remainder = refl

pub gives-arith : (op : Arith) → gives_of (x.Arith op) false ≡ always Integer
gives-arith arithmetic.Add = refl
gives-arith arithmetic.Subtract = refl
gives-arith arithmetic.Multiply = refl
gives-arith arithmetic.Divide = refl
gives-arith arithmetic.Remainder = refl

-- sums stand on level 7 of the table, and products on level 8
abbrev pub is_sum_level : Option ℕ → Bool
is_sum_level None = false
is_sum_level (Some level) = nat_eq level 7

pub level-additive : (op : Arith) → is_additive op ≡ is_sum_level (level_of op)
level-additive arithmetic.Add = refl
level-additive arithmetic.Subtract = refl
level-additive arithmetic.Multiply = refl
level-additive arithmetic.Divide = refl
level-additive arithmetic.Remainder = refl

-- ---- parts

operands-good : (here : Surroundings) (need : Need) (parts : List Part) → Every GoodPart parts → Every (GoodOperand here) (map (operand here need) parts)
operands-good here need [] h = tt
operands-good here need (part ∷ parts) h = (h.0.formed here, operands-good here need parts h.1)

abbrev pub any_aggregating : List Part → Bool
any_aggregating parts = list_any (λ (part : Part). part.aggregating) parts

operands-plain : (here : Surroundings) (need : Need) (parts : List Part) → Every GoodPart parts → any_aggregating parts ≡ false
    → Every PlainOperand (map (operand here need) parts)
operands-plain here need [] h e = tt
operands-plain here need (part ∷ parts) h e = (
  h.0.plain (left-false part.aggregating (any_aggregating parts) e) here,
  operands-plain here need parts h.1 (right-false part.aggregating (any_aggregating parts) e),
)

-- operands of one need, with what is made of them
pub good-alike : (here : Surroundings) (gives : Gives) (need : Need) (kind : Kind → Kind) (assembled : List Expr → Expr) (parts : List Part) → Every GoodPart parts
    → ((alike_kind : Kind) (own : Option Kind) → taken alike_kind need own ≡ kind alike_kind)
    → ((alike_kind : Kind) (rows : List (List Kind)) (subs : List Kind) (es : List Expr) → AllHave rows subs es (kind alike_kind) → length es ≡ length parts
    → HasKind rows subs (assembled es) (given gives alike_kind))
    → GoodMeant here (node gives assembled (map (operand here need) parts))
good-alike here gives need kind assembled parts good same made =
    good-node here gives assembled (map (operand here need) parts) (operands-good here need parts good)
    (λ alike_kind rows subs es h.
    let all = all-taken rows subs here need alike_kind (kind alike_kind) parts es (same alike_kind) h in
    made alike_kind rows subs es all.0 all.1)

pub plain-alike : (here : Surroundings) (gives : Gives) (need : Need) (assembled : List Expr → Expr) (parts : List Part) → Every GoodPart parts
    → any_aggregating parts ≡ false → IsPlain (node gives assembled (map (operand here need) parts))
plain-alike here gives need assembled parts good e =
    plain-node gives assembled (map (operand here need) parts) (operands-plain here need parts good e)

-- ---- operators

pub good-nots : (here : Surroundings) (count : ℕ) (part : Part) → GoodPart part
    → GoodMeant here (operated x.Not true (λ es. times x.Not count (first_of es)) here (part ∷ []))
good-nots here count part good = good-alike here (always Boolean) (of_kind Boolean) (λ k. Boolean) (λ es. times x.Not count (first_of es)) (part ∷ []) (good, tt)
    (λ k own. refl)
    (λ k rows subs es h l. times-holds rows subs x.Not Boolean (not-holds rows subs) count (first_of es) (first-has rows subs 0 es Boolean l h))

pub good-signs : (here : Surroundings) (count : ℕ) (part : Part) → GoodPart part
    → GoodMeant here (operated x.Negate true (λ es. times x.Negate count (first_of es)) here (part ∷ []))
good-signs here count part good = good-alike here (always Integer) (of_kind Integer) (λ k. Integer) (λ es. times x.Negate count (first_of es)) (part ∷ []) (good, tt)
    (λ k own. refl)
    (λ k rows subs es h l. times-holds rows subs x.Negate Integer (negate-holds rows subs) count (first_of es) (first-has rows subs 0 es Integer l h))

at_least_two : {X : Type 0} (xs : List X) → IsSeveral xs → 2 ≤ length xs
at_least_two [] h = absurd h
at_least_two (x ∷ []) h = absurd h
at_least_two (x ∷ y ∷ xs) h = omega arith

pub at_least_one : {X : Type 0} (xs : List X) → IsFilled xs → 1 ≤ length xs
at_least_one [] h = absurd h
at_least_one (x ∷ xs) h = omega arith

pub good-logic : (here : Surroundings) (op : Operator) (parts : List Part) → IsConnective op → IsSeveral parts → Every GoodPart parts
    → GoodMeant here (operated op false (Op op) here parts)
good-logic here op parts connective several good = chosen connective where
  some : (es : List Expr) → length es ≡ length parts → 2 ≤ length es
  some es l = let two = at_least_two parts several in omega (arith, l, two)

  chosen : IsConnective op → GoodMeant here (operated op false (Op op) here parts)
  chosen (inl is) = subst (λ o. GoodMeant here (operated o false (Op o) here parts)) (sym is)
      (good-alike here (always Boolean) (of_kind Boolean) (λ k. Boolean) (Op x.And) parts good (λ k own. refl)
      (λ k rows subs es h l. op-holds rows subs x.And es Boolean (record { number = some es l; parts = h; gives = refl })))
  chosen (inr is) = subst (λ o. GoodMeant here (operated o false (Op o) here parts)) (sym is)
      (good-alike here (always Boolean) (of_kind Boolean) (λ k. Boolean) (Op x.Or) parts good (λ k own. refl)
      (λ k rows subs es h l. op-holds rows subs x.Or es Boolean (record { number = some es l; parts = h; gives = refl })))

pub good-compared : (here : Surroundings) (op : Compare) (first second : Part) → GoodPart first → GoodPart second
    → GoodMeant here (operated (x.Compare op) false (Op (x.Compare op)) here (first ∷ second ∷ []))
good-compared here op first second f s =
    subst (λ gives. GoodMeant here (node gives (Op (x.Compare op)) (map (operand here (need_of (x.Compare op) false)) (first ∷ second ∷ [])))) (sym (gives-compare op))
    (good-alike here (always Boolean) (need_of (x.Compare op) false) (λ k. k) (Op (x.Compare op)) (first ∷ second ∷ []) (f, (s, tt))
    (λ k own. ap (λ need. taken k need own) (need-compare op))
    (λ k rows subs es h l. op-holds rows subs (x.Compare op) es Boolean (record { number = l; parts = record { shared = k; parts = h }; gives = refl })))

pub good-like : (here : Surroundings) (negated : Bool) (text pattern : Part) → GoodPart text → GoodPart pattern
    → GoodMeant here (operated x.Like false (λ es. negated_if negated (Op x.Like es)) here (text ∷ pattern ∷ []))
good-like here negated text pattern f s = good-alike here (always Boolean) (of_kind Text) (λ k. Text) (λ es. negated_if negated (Op x.Like es)) (text ∷ pattern ∷ []) (f, (s, tt))
    (λ k own. refl)
    (λ k rows subs es h l. negated-holds rows subs negated (Op x.Like es) (op-holds rows subs x.Like es Boolean (record { number = l; parts = h; gives = refl })))

pub good-between : (here : Surroundings) (negated : Bool) (part low high : Part) → GoodPart part → GoodPart low → GoodPart high
    → GoodMeant here (operated x.Between false (λ es. negated_if negated (Op x.Between es)) here (part ∷ low ∷ high ∷ []))
good-between here negated part low high f s t =
    good-alike here (always Boolean) alike (λ k. k) (λ es. negated_if negated (Op x.Between es)) (part ∷ low ∷ high ∷ []) (f, (s, (t, tt)))
    (λ k own. refl)
    (λ k rows subs es h l. negated-holds rows subs negated (Op x.Between es)
    (op-holds rows subs x.Between es Boolean (record { number = l; parts = record { shared = k; parts = h }; gives = refl })))

pub good-in_list : (here : Surroundings) (negated : Bool) (part : Part) (list : List Part) → GoodPart part → IsFilled list → Every GoodPart list
    → GoodMeant here (operated x.InList false (λ es. negated_if negated (Op x.InList es)) here (part ∷ list))
good-in_list here negated part list f filled s =
    good-alike here (always Boolean) alike (λ k. k) (λ es. negated_if negated (Op x.InList es)) (part ∷ list) (f, s)
    (λ k own. refl)
    (λ k rows subs es h l. negated-holds rows subs negated (Op x.InList es)
    (op-holds rows subs x.InList es Boolean (record { number = (let one = at_least_one list filled in omega (arith, one, l)); parts = record { shared = k; parts = h }; gives = refl })))

pub good-coalesce : (here : Surroundings) (list : List Part) → IsFilled list → Every GoodPart list
    → GoodMeant here (node common (Op x.Coalesce) (map (operand here alike) list))
good-coalesce here list filled s = good-alike here common alike (λ k. k) (Op x.Coalesce) list s (λ k own. refl)
    (λ k rows subs es h l. op-holds rows subs x.Coalesce es k
    (record { number = (let one = at_least_one list filled in omega (arith, one, l)); parts = h; gives = refl }))

pub good-null_if : (here : Surroundings) (first second : Part) → GoodPart first → GoodPart second
    → GoodMeant here (node common (Op x.NullIf) (operand here alike first ∷ operand here alike second ∷ []))
good-null_if here first second f s = good-alike here common alike (λ k. k) (Op x.NullIf) (first ∷ second ∷ []) (f, (s, tt)) (λ k own. refl)
    (λ k rows subs es h l. op-holds rows subs x.NullIf es k (record { number = l; parts = h; gives = refl }))

-- ---- tests

pub good-is_null : (here : Surroundings) (negated : Bool) (part : Part) → GoodPart part
    → GoodMeant here (node (always Boolean) (λ es. negated_if negated (IsNull (first_of es))) (operand here free part ∷ []))
good-is_null here negated part good = good-node here (always Boolean) (λ es. negated_if negated (IsNull (first_of es))) (operand here free part ∷ [])
    (good.formed here, tt) made where
      made : (kind : Kind) (rows : List (List Kind)) (subs : List Kind) (es : List Expr) → HaveKinds rows subs es (taken_kinds kind (operand here free part ∷ []))
          → HasKind rows subs (negated_if negated (IsNull (first_of es))) Boolean
      made kind rows subs [] h = absurd h
      made kind rows subs (e ∷ es) h = negated-holds rows subs negated (IsNull e) (is_null-holds rows subs e (settled (part.means here).kind Text) h.0)

pub good-is_truth : (here : Surroundings) (negated : Bool) (truth : Truth) (part : Part) → GoodPart part
    → GoodMeant here (node (always Boolean) (λ es. negated_if negated (IsTruth truth (first_of es))) (operand here (of_kind Boolean) part ∷ []))
good-is_truth here negated truth part good = good-alike here (always Boolean) (of_kind Boolean) (λ k. Boolean) (λ es. negated_if negated (IsTruth truth (first_of es)))
    (part ∷ []) (good, tt) (λ k own. refl)
    (λ k rows subs es h l. negated-holds rows subs negated (IsTruth truth (first_of es))
    (is_truth-holds rows subs truth (first_of es) (first-has rows subs 0 es Boolean l h)))

pub good-is_distinct : (here : Surroundings) (negated : Bool) (first second : Part) → GoodPart first → GoodPart second
    → GoodMeant here (node (always Boolean) (λ es. negated_if (not negated) (Same (first_of es) (second_of es))) (operand here alike first ∷ operand here alike second ∷ []))
good-is_distinct here negated first second f s = good-alike here (always Boolean) alike (λ k. k) (λ es. negated_if (not negated) (Same (first_of es) (second_of es)))
    (first ∷ second ∷ []) (f, (s, tt)) (λ k own. refl)
    (λ k rows subs es h l. negated-holds rows subs (not negated) (Same (first_of es) (second_of es))
    (same-holds rows subs (first_of es) (second_of es) k (first-has rows subs 1 es k l h) (second-has rows subs 0 es k l h)))
