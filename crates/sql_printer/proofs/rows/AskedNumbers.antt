-- The numbers that an expression asks for: those of the sublinks that it uses, each below the number of sublinks.
use Rattle.std.proofs.Common.{◌≡◌, ℕ, zero, suc, ◌+◌, ◌<◌, ◌≤◌, ◌≢◌, Bool, true, false, cond, ◌||◌, List, [], ◌∷◌, ◌++◌, length, Option, Some, None, refl, sym, ap, subst, ◌∙◌, true≢false, arith}
use Rattle.std.proofs.Math.Bool.{or_comm}
use Rattle.std.specs.Prelude.{nat_eq, slice_get}
use Rattle.std.specs.List.{list_any, range_with_len}
use Rattle.std.proofs.lemmas.Bool.Decides.{nat_tests}
use Rattle.null_logic.specs.declared.operator.Operator.TheVariants as op
use Rattle.perm_values.specs.declared.kind.Kind.{Kind}
use Rattle.perm_values.specs.declared.kind.Kind.TheVariants as kinds
use Rattle.bag_algebra.specs.WellFormed.{HasKind, PartsHave, StepsHave, ArmsHave}
use Rattle.bag_algebra.specs.built.Patterns.{OpOf, ChainOf, CaseOf, IsNullOf, IsTruthOf, SameOf}
use Rattle.bag_algebra.specs.declared.expr.Expr.{Expr, Row_of-Expr, Row_of-Arm, Row_of-ChainStep, more_of-Expr, end_of-Expr, more_of-Arm, end_of-Arm, more_of-ChainStep, end_of-ChainStep}
use Rattle.bag_algebra.specs.declared.expr.Expr.TheVariants.{Col, Lit, Sub}
use Rattle.bag_algebra.proofs.BagLaws.{any-append}
use Rattle.bag_algebra.proofs.Truths.{or_associates, or_false, or_true}
use Rattle.tree_texts.specs.expressions.Uses.{uses, parts_use, steps_use, arms_use}
use Rattle.query_texts.specs.clauses.Unused.{spare}
use Rattle.sql_printer.specs.rows.PrintedExpressions.{asked_in, asked_in_parts, asked_in_steps, asked_in_arms}

-- the number is one of these
abbrev pub asks : List ℕ → ℕ → Bool
asks numbers number = list_any (λ other. nat_eq other number) numbers

abbrev pub Below : ℕ → List ℕ → Type 0
Below count [] = Unit {0}
Below count (number ∷ numbers) = (number < count) × Below count numbers

pub asks-append : (number : ℕ) (numbers more : List ℕ) → asks (numbers ++ more) number ≡ (asks numbers number || asks more number)
asks-append number numbers more = any-append (λ other. nat_eq other number) numbers more

pub below-append : (count : ℕ) (numbers more : List ℕ) → Below count numbers → Below count more → Below count (numbers ++ more)
below-append count [] more h k = k
below-append count (number ∷ numbers) more h k = (h.0, below-append count numbers more h.1 k)

-- ---- what is used is asked for

mutual
  pub uses-asked : (number : ℕ) (e : Expr) → uses number e ≡ asks (asked_in e) number
  uses-asked number (Col level place) = refl
  uses-asked number (Lit v kind) = refl
  uses-asked number (OpOf op _ parts) = parts-asked number parts
  uses-asked number (ChainOf first _ steps) =
      (λ i. steps-asked number steps i || uses-asked number first i)
      ∙ or_comm (asks (asked_in_steps steps) number) (asks (asked_in first) number)
      ∙ sym (asks-append number (asked_in first) (asked_in_steps steps))
  uses-asked number (CaseOf _ arms otherwise) =
      (λ i. arms-asked number arms i || uses-asked number otherwise i) ∙ sym (asks-append number (asked_in_arms arms) (asked_in otherwise))
  uses-asked number (Sub other) = sym (or_false (nat_eq other number))
  uses-asked number (IsNullOf part) = uses-asked number part
  uses-asked number (IsTruthOf truth part) = uses-asked number part
  uses-asked number (SameOf first second) =
      (λ i. uses-asked number first i || uses-asked number second i) ∙ sym (asks-append number (asked_in first) (asked_in second))

  parts-asked : {m : _} (number : ℕ) (parts : Row_of-Expr m) → parts_use number parts ≡ asks (asked_in_parts parts) number
  parts-asked number end_of-Expr = refl
  parts-asked number (more_of-Expr part parts) =
      (λ i. uses-asked number part i || parts-asked number parts i) ∙ sym (asks-append number (asked_in part) (asked_in_parts parts))

  steps-asked : {m : _} (number : ℕ) (steps : Row_of-ChainStep m) → steps_use number steps ≡ asks (asked_in_steps steps) number
  steps-asked number end_of-ChainStep = refl
  steps-asked number (more_of-ChainStep operation part steps) =
      (λ i. uses-asked number part i || steps-asked number steps i) ∙ sym (asks-append number (asked_in part) (asked_in_steps steps))

  arms-asked : {m : _} (number : ℕ) (arms : Row_of-Arm m) → arms_use number arms ≡ asks (asked_in_arms arms) number
  arms-asked number end_of-Arm = refl
  arms-asked number (more_of-Arm condition arm arms) =
      (λ i. (uses-asked number condition i || uses-asked number arm i) || arms-asked number arms i)
      ∙ or_associates (asks (asked_in condition) number) (asks (asked_in arm) number) (asks (asked_in_arms arms) number)
      ∙ (λ i. asks (asked_in condition) number || sym (asks-append number (asked_in arm) (asked_in_arms arms)) i)
      ∙ sym (asks-append number (asked_in condition) (asked_in arm ++ asked_in_arms arms))

-- ---- what is asked for is there

abbrev some_kind : Option Kind → Type 0
some_kind None = Unit {0}
some_kind (Some kind) = ⊥

pub get-below : (xs : List Kind) (place : ℕ) (kind : Kind) → slice_get xs place ≡ Some kind → place < length xs
get-below [] place kind e = absurd (subst some_kind e tt)
get-below (x ∷ xs) zero kind e = omega arith
get-below (x ∷ xs) (suc place) kind e = omega (arith, get-below xs place kind e)

module _ (scopes : List (List Kind)) (subs : List Kind) where
  mutual
    pub asked-below : (e : Expr) (kind : Kind) → HasKind scopes subs e kind → Below (length subs) (asked_in e)
    asked-below (Col level place) kind h = tt
    asked-below (Lit v own) kind h = tt
    asked-below (OpOf op.And _ parts) kind h = parts-below parts kinds.Boolean h.parts
    asked-below (OpOf op.Or _ parts) kind h = parts-below parts kinds.Boolean h.parts
    asked-below (OpOf op.Not _ parts) kind h = parts-below parts kinds.Boolean h.parts
    asked-below (OpOf op.Negate _ parts) kind h = parts-below parts kinds.Integer h.parts
    asked-below (OpOf (op.Compare c) _ parts) kind h = parts-below parts h.parts.shared h.parts.parts
    asked-below (OpOf (op.Arith c) _ parts) kind h = absurd h
    asked-below (OpOf op.Like _ parts) kind h = parts-below parts kinds.Text h.parts
    asked-below (OpOf op.Between _ parts) kind h = parts-below parts h.parts.shared h.parts.parts
    asked-below (OpOf op.InList _ parts) kind h = parts-below parts h.parts.shared h.parts.parts
    asked-below (OpOf op.Coalesce _ parts) kind h = parts-below parts kind h.parts
    asked-below (OpOf op.NullIf _ parts) kind h = parts-below parts kind h.parts
    asked-below (ChainOf first _ steps) kind h =
        below-append (length subs) (asked_in first) (asked_in_steps steps) (asked-below first kinds.Integer h.first) (steps-below steps h.steps)
    asked-below (CaseOf _ arms otherwise) kind h =
        below-append (length subs) (asked_in_arms arms) (asked_in otherwise) (arms-below arms kind h.arms) (asked-below otherwise kind h.otherwise)
    asked-below (Sub number) kind h = (get-below subs number kind h, tt)
    asked-below (IsNullOf part) kind h = asked-below part h.parts.shared h.parts.parts
    asked-below (IsTruthOf truth part) kind h = asked-below part kinds.Boolean h.parts
    asked-below (SameOf first second) kind h =
        below-append (length subs) (asked_in first) (asked_in second)
        (asked-below first h.parts.shared h.parts.parts.0) (asked-below second h.parts.shared h.parts.parts.1)

    parts-below : {m : _} (parts : Row_of-Expr m) (kind : Kind) → PartsHave scopes subs parts kind → Below (length subs) (asked_in_parts parts)
    parts-below end_of-Expr kind h = tt
    parts-below (more_of-Expr part parts) kind h =
        below-append (length subs) (asked_in part) (asked_in_parts parts) (asked-below part kind h.0) (parts-below parts kind h.1)

    steps-below : {m : _} (steps : Row_of-ChainStep m) → StepsHave scopes subs steps → Below (length subs) (asked_in_steps steps)
    steps-below end_of-ChainStep h = tt
    steps-below (more_of-ChainStep operation part steps) h =
        below-append (length subs) (asked_in part) (asked_in_steps steps) (asked-below part kinds.Integer h.0) (steps-below steps h.1)

    arms-below : {m : _} (arms : Row_of-Arm m) (kind : Kind) → ArmsHave scopes subs arms kind → Below (length subs) (asked_in_arms arms)
    arms-below end_of-Arm kind h = tt
    arms-below (more_of-Arm condition arm arms) kind h =
        below-append (length subs) (asked_in condition) (asked_in arm ++ asked_in_arms arms) (asked-below condition kinds.Boolean h.condition)
        (below-append (length subs) (asked_in arm) (asked_in_arms arms) (asked-below arm kind h.arm) (arms-below arms kind h.others))

-- ---- those that aren't used

module _ (used : ℕ → Bool) where
  spared : (b : Bool) (number first : ℕ) (more : List ℕ) → asks more number ≡ true → asks (cond b more (first ∷ more)) number ≡ true
  spared true number first more e = e
  spared false number first more e = ap (λ a. nat_eq first number || a) e ∙ or_true (nat_eq first number)

  own-spared : (b : Bool) (number first : ℕ) (more : List ℕ) → b ≡ false → nat_eq first number ≡ true → asks (cond b more (first ∷ more)) number ≡ true
  own-spared true number first more e same = absurd (true≢false e)
  own-spared false number first more e same = ap (λ a. a || asks more number) same

  kept : (b : Bool) (limit first : ℕ) (more : List ℕ) → first < limit → Below limit more → Below limit (cond b more (first ∷ more))
  kept true limit first more h k = k
  kept false limit first more h k = (h, k)

  -- the first number, or one of those behind it
  first-or_later : (count start number : ℕ) (b : Bool) → nat_eq start number ≡ b → start ≤ number → number < start + suc count → used number ≡ false
      → (start + 1 ≤ number → number < start + 1 + count → asks (spare used (start + 1) (range_with_len (start + 1) count)) number ≡ true)
      → asks (spare used start (range_with_len start (suc count))) number ≡ true
  first-or_later count start number true here low high e later =
      let same : start ≡ number = grind (arith, nat_tests, here) in
      own-spared (used start) number start (spare used (start + 1) (range_with_len (start + 1) count)) (ap used same ∙ e) here
  first-or_later count start number false here low high e later =
      let apart : start ≢ number = grind (arith, nat_tests, here) in
      spared (used start) number start (spare used (start + 1) (range_with_len (start + 1) count))
      (later (omega (arith, low, apart)) (omega (arith, high)))

  -- each number that isn't used is spared
  pub idle-asks : (count start number : ℕ) → start ≤ number → number < start + count → used number ≡ false
      → asks (spare used start (range_with_len start count)) number ≡ true
  idle-asks zero start number low high e = absurd (omega (arith, low, high))
  idle-asks (suc count) start number low high e =
      first-or_later count start number (nat_eq start number) refl low high e (λ l h. idle-asks count (start + 1) number l h e)

  -- and each that is spared is below their count
  pub idle-below : (limit start count : ℕ) → start + count ≤ limit → Below limit (spare used start (range_with_len start count))
  idle-below limit start zero h = tt
  idle-below limit start (suc count) h = kept (used start) limit start (spare used (start + 1) (range_with_len (start + 1) count))
      (omega (arith, h)) (idle-below limit (start + 1) count (omega (arith, h)))
