-- A map of numbers, of which each row takes one.
use Rattle.std.proofs.Common.{◌≡◌, ℕ, ◌+◌, ◌-◌, Bool, true, false, cond, not, nat_lt, List, [], ◌∷◌, ◌++◌, Bor, Some, unwrap_or, refl, sym, ap, ◌∙◌, arith}
use Rattle.std.specs.Map.{lookup}
use mathlib.Core.Bool.{beq}
use Rattle.perm_values.specs.Rows.{same_row}
use Rattle.perm_values.proofs.Steps.{unwrap-cond}
use Rattle.bag_algebra.specs.Bags.{Row, Bag, count}
use Rattle.bag_algebra.proofs.BagLaws.{same_row-is}
use Rattle.row_nodes.specs.Marks.{Numbers, marks_by, is_over}
use Rattle.row_nodes.proofs.Flags.{marks-more, count-more}

abbrev number_in : List (Bor Row × ℕ) → Row → ℕ
number_in entries t = unwrap_or (lookup (λ (r : Bor Row). same_row t r.now) entries) 0

-- what a map has after an entry is put in
abbrev pub Put : List (Bor Row × ℕ) → List (Bor Row × ℕ) → Bor Row → ℕ → Type 0
Put old new r n = (q : Bor Row) → lookup (λ (s : Bor Row). same_row q.now s.now) new ≡ cond (same_row r.now q.now) (Some n) (lookup (λ (s : Bor Row). same_row q.now s.now) old)

pub numbers_none : (number : Row → ℕ) → ((t : Row) → number t ≡ 0) → Numbers [] number
numbers_none number e = record { numbers = λ t. sym (e t.now) }

pub numbers_put : (old new : List (Bor Row × ℕ)) (r : Bor Row) (n : ℕ) (before after : Row → ℕ) → Put old new r n → Numbers old before →
    ((t : Row) → cond (same_row r.now t) n (before t) ≡ after t) → Numbers new after
numbers_put old new r n before after p h e = record {
  numbers = λ t. ap (λ o. unwrap_or o 0) (p t) ∙ unwrap-cond _ (same_row r.now t.now) n ∙ ap (λ m. cond (same_row r.now t.now) n m) (h.numbers t) ∙ e t.now;
}

-- one more of a row
pub one_more : (us : Bag) (u : Row) (n : ℕ) → n ≡ count u us → (t : Row) → cond (same_row u t) (n + 1) (count t us) ≡ count t (us ++ u ∷ [])
one_more us u n e t = by (same_row u t) refl ∙ sym (count-more t us u)
  where
    by : (b : Bool) → same_row u t ≡ b → cond b (n + 1) (count t us) ≡ count t us + cond b 1 0
    by true f = ap (λ m. m + 1) (e ∙ ap (λ x. count x us) (same_row-is u t f))
    by false f = omega arith

-- the flags so far, and what is left of the other side's numbers
pub record Spends (common : Bool) (vs : Bag) (entries : List (Bor Row × ℕ)) (flags : List Bool) (us : Bag) : Type 0 where
  pub left : Numbers entries (λ t. count t vs - count t us)
  pub flags_so_far : flags ≡ marks_by (is_over common vs) us

differs : (b common : Bool) → not (beq b common) ≡ cond common (not b) b
differs true true = refl
differs true false = refl
differs false true = refl
differs false false = refl

module _ (common : Bool) (vs : Bag) (entries : List (Bor Row × ℕ)) (flags : List Bool) (us : Bag) (r : Bor Row) (n : ℕ)
    (s : Spends common vs entries flags us) (number : n ≡ number_in entries r.now) where
  is_left : n ≡ count r.now vs - count r.now us
  is_left = number ∙ s.left.numbers r

  flags_more : (flag : Bool) → flag ≡ not (beq (nat_lt 0 n) common) → flags ++ flag ∷ [] ≡ marks_by (is_over common vs) (us ++ r.now ∷ [])
  flags_more flag e = (λ i. s.flags_so_far i ++ (e ∙ differs (nat_lt 0 n) common ∙ at_row) i ∷ []) ∙ sym (marks-more (is_over common vs) us r.now)
    where
      less : nat_lt 0 n ≡ nat_lt (count r.now us) (count r.now vs)
      less = let e = is_left in grind arith

      at_row : cond common (not (nat_lt 0 n)) (nat_lt 0 n) ≡ is_over common vs us r.now
      at_row = ap (λ b. cond common (not b) b) less

  pub spends_one : (new : List (Bor Row × ℕ)) (m : ℕ) (flag : Bool) → Put entries new r m → m + 1 ≡ n → flag ≡ not (beq (nat_lt 0 n) common) →
      Spends common vs new (flags ++ flag ∷ []) (us ++ r.now ∷ [])
  spends_one new m flag p e f = record {
    left = numbers_put entries new r m _ _ p s.left (λ t. by t (same_row r.now t) refl);
    flags_so_far = flags_more flag f;
  }
    where
      by : (t : Row) (b : Bool) → same_row r.now t ≡ b → cond b m (count t vs - count t us) ≡ count t vs - count t (us ++ r.now ∷ [])
      by t true g =
          let k : n ≡ count t vs - count t us = is_left ∙ ap (λ x. count x vs - count x us) (same_row-is r.now t g) in
          let c : count t (us ++ r.now ∷ []) ≡ count t us + 1 = count-more t us r.now ∙ ap (λ b. count t us + cond b 1 0) g in
          omega arith
      by t false g =
          let c : count t (us ++ r.now ∷ []) ≡ count t us + 0 = count-more t us r.now ∙ ap (λ b. count t us + cond b 1 0) g in
          omega arith

  pub spends_none : (flag : Bool) → n ≡ 0 → flag ≡ not (beq (nat_lt 0 n) common) → Spends common vs entries (flags ++ flag ∷ []) (us ++ r.now ∷ [])
  spends_none flag e f = record {
    left = record { numbers = λ t. s.left.numbers t ∙ by t.now (same_row r.now t.now) refl };
    flags_so_far = flags_more flag f;
  }
    where
      by : (t : Row) (b : Bool) → same_row r.now t ≡ b → count t vs - count t us ≡ count t vs - count t (us ++ r.now ∷ [])
      by t true g =
          let k : n ≡ count t vs - count t us = is_left ∙ ap (λ x. count x vs - count x us) (same_row-is r.now t g) in
          let c : count t (us ++ r.now ∷ []) ≡ count t us + 1 = count-more t us r.now ∙ ap (λ b. count t us + cond b 1 0) g in
          omega arith
      by t false g =
          let c : count t (us ++ r.now ∷ []) ≡ count t us + 0 = count-more t us r.now ∙ ap (λ b. count t us + cond b 1 0) g in
          omega arith
