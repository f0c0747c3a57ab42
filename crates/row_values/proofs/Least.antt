-- The least value, or the greatest, is looked for from the right.
use Rattle.std.proofs.Common.{◌≡◌, ℕ, ◌+◌, ◌-◌, ◌<◌, ◌≤◌, Bool, true, false, cond, not, ◌&&◌, ◌||◌, nat_le, List, [], ◌∷◌, length, drop, ◌⊎◌, inl, inr, is_gt, refl, sym, ap, subst, ◌∙◌, arith}
use Rattle.std.proofs.lemmas.Bool.Decides.{nat_tests}
use Rattle.std.proofs.lemmas.List.{drop_more}
use Rattle.perm_values.specs.Rows.{value_at}
use Rattle.perm_values.specs.Values.{is_null}
use Rattle.perm_values.specs.declared.value.Value.{Value}
use Rattle.perm_values.specs.declared.value.Value.TheVariants.{Null}
use Rattle.bag_algebra.specs.Bags.{sorted, placed}
use Rattle.bag_algebra.specs.Means.{present}
use Rattle.row_values.specs.Foremost.{order_of, takes_over}

at_most : (a b : ℕ) → a ≤ b → nat_le a b ≡ true
at_most a b h = grind (arith, nat_tests)

above : (a b : ℕ) → b < a → nat_le a b ≡ false
above a b h = grind (arith, nat_tests)

abbrev ranked : Bool → List Value → ℕ → List Value
ranked greatest vs start = sorted (order_of greatest) (present (drop start vs))

-- there is no value yet, or the best one comes first
abbrev Leads : List Value → ℕ → List Value → Type 0
Leads vs best order = ((length vs ≤ best) × (order ≡ [])) ⊎ ((best < length vs) × ((rest : List Value) × (order ≡ value_at vs best ∷ rest)))

-- the place of the first among the values from `start` on
pub record IsForemost (greatest : Bool) (vs : List Value) (start best : ℕ) : Type 0 where
  pub leads : Leads vs best (ranked greatest vs start)

-- one value more at the front
pub one_more : (greatest : Bool) (vs : List Value) (at best : ℕ) → at < length vs → IsForemost greatest vs (at + 1) best →
    IsForemost greatest vs at (cond (takes_over greatest vs at best) at best)
one_more greatest vs at best low h = record { leads = by (is_null (value_at vs at)) refl h.leads }
  where
    front : (n : Bool) → is_null (value_at vs at) ≡ n →
        ranked greatest vs at ≡ sorted (order_of greatest) (cond (not n) (value_at vs at ∷ present (drop (at + 1) vs)) (present (drop (at + 1) vs)))
    front n e =
        ap (λ l. sorted (order_of greatest) (present l)) (drop_more vs at Null low)
        ∙ ap (λ b. sorted (order_of greatest) (cond (not b) (value_at vs at ∷ present (drop (at + 1) vs)) (present (drop (at + 1) vs)))) e

    test : (n m : Bool) → is_null (value_at vs at) ≡ n → nat_le (length vs) best ≡ m →
        cond (takes_over greatest vs at best) at best ≡ cond (not n && (m || not (is_gt (order_of greatest (value_at vs at) (value_at vs best))))) at best
    test n m e f = λ i. cond (not (e i) && (f i || not (is_gt (order_of greatest (value_at vs at) (value_at vs best))))) at best

    leads_at : (b : ℕ) (order : List Value) → cond (takes_over greatest vs at best) at best ≡ b → ranked greatest vs at ≡ order → Leads vs b order →
        Leads vs (cond (takes_over greatest vs at best) at best) (ranked greatest vs at)
    leads_at b order e f k = subst (λ c. Leads vs c (ranked greatest vs at)) (sym e) (subst (Leads vs b) (sym f) k)

    compared : (g : Bool) (w : Value) (rest order : List Value) → is_gt (order_of greatest (value_at vs at) w) ≡ g → best < length vs → w ≡ value_at vs best → order ≡ w ∷ rest →
        Leads vs (cond (true && (false || not g)) at best) (placed (order_of greatest) (value_at vs at) order)
    compared true w rest order e b is f =
        inr (
          b,
          (
            placed (order_of greatest) (value_at vs at) rest,
            ap (placed (order_of greatest) (value_at vs at)) f ∙ ap (λ g. cond g (w ∷ placed (order_of greatest) (value_at vs at) rest) (value_at vs at ∷ w ∷ rest)) e
                ∙ ap (λ x. x ∷ placed (order_of greatest) (value_at vs at) rest) is,
          ),
        )
    compared false w rest order e b is f =
        inr (
          low,
          (
            w ∷ rest,
            ap (placed (order_of greatest) (value_at vs at)) f ∙ ap (λ g. cond g (w ∷ placed (order_of greatest) (value_at vs at) rest) (value_at vs at ∷ w ∷ rest)) e,
          ),
        )

    by : (n : Bool) → is_null (value_at vs at) ≡ n → Leads vs best (ranked greatest vs (at + 1)) →
        Leads vs (cond (takes_over greatest vs at best) at best) (ranked greatest vs at)
    by true e k = leads_at best (ranked greatest vs (at + 1)) (test true (nat_le (length vs) best) e refl) (front true e) k
    by false e (inl p) =
        leads_at at (value_at vs at ∷ []) (test false true e (at_most (length vs) best p.0)) (front false e ∙ ap (placed (order_of greatest) (value_at vs at)) p.1)
        (inr (low, ([], refl)))
    by false e (inr p) =
        leads_at _ _ (test false false e (above (length vs) best p.0)) (front false e)
        (compared (is_gt (order_of greatest (value_at vs at) (value_at vs best))) (value_at vs best) p.1.0 (ranked greatest vs (at + 1)) refl p.0 refl p.1.1)

pub one_step : (greatest : Bool) (vs : List Value) (count behind best new : ℕ) → count ≡ length vs → behind < count → IsForemost greatest vs (length vs - behind) best →
    new ≡ cond (takes_over greatest vs (count - 1 - behind) best) (count - 1 - behind) best → IsForemost greatest vs (length vs - (behind + 1)) new
one_step greatest vs count behind best new long low h e =
    let at : count - 1 - behind ≡ length vs - (behind + 1) = omega arith in
    let start : length vs - behind ≡ count - 1 - behind + 1 = omega arith in
    subst (λ n. IsForemost greatest vs (length vs - (behind + 1)) n) (sym e)
    (subst (λ n. IsForemost greatest vs n (cond (takes_over greatest vs (count - 1 - behind) best) (count - 1 - behind) best)) at
    (one_more greatest vs (count - 1 - behind) best (omega arith) (subst (λ n. IsForemost greatest vs n best) start h)))
