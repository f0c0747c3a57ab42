-- The laws of set operations and Distinct.
use Rattle.std.proofs.Common.{◌≡◌, ℕ, zero, suc, ◌+◌, ◌-◌, ◌<◌, min, Bool, true, false, not, ◌&&◌, Decides, ◌++◌, filter, refl, sym, ap, subst, ◌∙◌, arith, true≢false}
use Rattle.bag_algebra.proofs.BagLaws.{count-append, member_decides, member-filter}
use Rattle.bag_algebra.specs.Bags.{Row, Bag, count, member, once, union_of, intersect_of, except_of}
use Rattle.bag_algebra.specs.Outcome.{Outcome, Good, mapped, both}
use Rattle.query_laws.specs.Holding.{InBag, HoldsOnce}
use Rattle.query_laws.specs.Nodes.{IsCombined, IsDistinct, in_either, in_left_alone}
use Rattle.query_laws.specs.Nodes as node
use Rattle.query_laws.proofs.Once.{holds_once-once}
use Rattle.query_laws.proofs.Outcomes.{good-good, both-unites, mapped-passes}
use Rattle.bag_algebra.proofs.SetCounts.{count-in_both, count-beyond}
use Rattle.bag_algebra.proofs.Outcomes.{same_good}

-- ---- set operations

both_decide : {P Q : Type 0} (a b : Bool) → Decides a P → Decides b Q → Decides (a && b) (P × Q)
both_decide true b d e = (λ h. (d.0 refl, e.0 h), λ h. e.1 h.1)
both_decide false b d e = (λ h. absurd (true≢false (sym h)), λ h. absurd (true≢false (sym (d.1 h.0))))

none_decides : (b : Bool) (n : ℕ) → Decides b (0 < n) → Decides (not b) (n ≡ 0)
none_decides true n d = (λ h. absurd (true≢false (sym h)), λ e. absurd (let more : 0 < n = d.0 refl in omega arith))
none_decides false zero d = (λ h. refl, λ e. refl)
none_decides false (suc n) d = absurd (true≢false (sym (d.1 (omega arith))))

module _ (many : ℕ → ℕ → ℕ) (some : ℕ → ℕ → Type 0) (f : Bool → Bag → Bag → Bag)
    (with_all : (us vs : Bag) (t : Row) → count t (f true us vs) ≡ many (count t us) (count t vs))
    (without_all : (us vs : Bag) → HoldsOnce (λ t. some (count t us) (count t vs)) (f false us vs)) where
  rows_of : (all : Bool) (a b : Outcome Bag) (us vs ts : Bag) → a ≡ Good us → b ≡ Good vs → both (f all) a b ≡ Good ts → f all us vs ≡ ts
  rows_of all a b us vs ts e k whole = same_good (f all us vs) ts ((λ i. both (f all) (sym e i) (sym k i)) ∙ whole)

  combined : (all : Bool) (a b : Outcome Bag) → IsCombined many some all a b (both (f all) a b)
  combined all a b = record {
    bad = both-unites (f all) a b;
    good = λ us vs e k. good-good (both (f all) a b) (f all us vs) (λ i. both (f all) (e i) (k i));
    with_all = λ us vs ts e k whole set t.
        ap (count t) (sym (rows_of all a b us vs ts e k whole)) ∙ ap (λ c. count t (f c us vs)) set ∙ with_all us vs t;
    without_all = λ us vs ts e k whole set.
        subst (λ ws. HoldsOnce (λ t. some (count t us) (count t vs)) ws) (ap (λ c. f c us vs) (sym set) ∙ rows_of all a b us vs ts e k whole) (without_all us vs);
  }

union-once : (us vs : Bag) → HoldsOnce (λ t. in_either (count t us) (count t vs)) (union_of false us vs)
union-once us vs =
    holds_once-once (λ t. in_either (count t us) (count t vs)) (us ++ vs)
    (λ t. subst (λ n. Decides (member t (us ++ vs)) (0 < n)) (count-append t us vs) (member_decides t (us ++ vs)))

intersect-once : (us vs : Bag) → HoldsOnce (λ t. node.in_both (count t us) (count t vs)) (intersect_of false us vs)
intersect-once us vs =
    holds_once-once (λ t. node.in_both (count t us) (count t vs)) (filter (λ u. member u vs) us)
    (λ t. subst (λ b. Decides b (node.in_both (count t us) (count t vs))) (sym (member-filter t (λ u. member u vs) us))
    (both_decide (member t us) (member t vs) (member_decides t us) (member_decides t vs)))

except-once : (us vs : Bag) → HoldsOnce (λ t. in_left_alone (count t us) (count t vs)) (except_of false us vs)
except-once us vs =
    holds_once-once (λ t. in_left_alone (count t us) (count t vs)) (filter (λ u. not (member u vs)) us)
    (λ t. subst (λ b. Decides b (in_left_alone (count t us) (count t vs))) (sym (member-filter t (λ u. not (member u vs)) us))
    (both_decide (member t us) (not (member t vs)) (member_decides t us) (none_decides (member t vs) (count t vs) (member_decides t vs))))

pub united : (all : Bool) (a b : Outcome Bag) → IsCombined ◌+◌ in_either all a b (both (union_of all) a b)
united = combined ◌+◌ in_either union_of (λ us vs t. count-append t us vs) union-once

pub intersected : (all : Bool) (a b : Outcome Bag) → IsCombined min node.in_both all a b (both (intersect_of all) a b)
intersected = combined min node.in_both intersect_of (λ us vs t. count-in_both t us vs) intersect-once

pub excepted : (all : Bool) (a b : Outcome Bag) → IsCombined ◌-◌ in_left_alone all a b (both (except_of all) a b)
excepted = combined ◌-◌ in_left_alone except_of (λ us vs t. count-beyond t us vs) except-once

pub distinct : (input : Outcome Bag) → IsDistinct input (mapped once input)
distinct input = record {
  bad = mapped-passes input once;
  good = λ us e. good-good (mapped once input) (once us) (ap (mapped once) e);
  rows = λ us ts e whole.
      subst (λ ws. HoldsOnce (λ t. InBag t us) ws) (same_good (once us) ts (sym (ap (mapped once) e) ∙ whole))
      (holds_once-once (λ t. InBag t us) us (λ t. member_decides t us));
}
