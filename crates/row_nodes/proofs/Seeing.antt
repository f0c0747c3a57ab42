-- Sets of borrowed rows, to which rows are added.
use Rattle.std.proofs.Common.{◌≡◌, Bool, true, false, cond, not, ◌&&◌, ◌||◌, List, [], ◌∷◌, ◌++◌, filter, Bor, refl, sym, ap, ◌∙◌, subst, true≢false}
use Rattle.std.specs.List.{list_any}
use mathlib.Core.Bool.{beq}
use Rattle.indexmap.specs.IndexSet.{insert_key}
use Rattle.perm_values.specs.Rows.{same_row}
use Rattle.bag_algebra.specs.Bags.{Row, Bag, member}
use Rattle.bag_algebra.proofs.BagLaws.{same_row-is, same_row-sym, any-append, member-append, member-filter}
use Rattle.row_nodes.specs.Marks.{Holds, marks_by, left_out, wanted}
use Rattle.row_nodes.proofs.Flags.{marks-more, filter-more}
use Rattle.bag_algebra.proofs.Truths.{or_false, or_true, not_not, and_true}

abbrev pub same_ref : Bor Row → Bor Row → Bool
same_ref r s = same_row r.now s.now

abbrev found : Row → List (Bor Row) → Bool
found t keys = list_any (λ (r : Bor Row). same_row t r.now) keys

found-inserted : (keys : List (Bor Row)) (r : Bor Row) (t : Row) (b s : Bool) → found r.now keys ≡ b → same_row t r.now ≡ s →
    found t (cond b keys (keys ++ r ∷ [])) ≡ (found t keys || s)
found-inserted keys r t false s e f = any-append _ keys (r ∷ []) ∙ ap (λ c. found t keys || c) (or_false (same_row t r.now) ∙ f)
found-inserted keys r t true false e f = sym (or_false (found t keys))
found-inserted keys r t true true e f = ap (λ x. found x keys) (same_row-is t r.now f) ∙ e ∙ sym (or_true (found t keys))

member-more : (t : Row) (us : Bag) (u : Row) → member t (us ++ u ∷ []) ≡ (member t us || same_row t u)
member-more t us u = member-append t us (u ∷ []) ∙ ap (λ b. member t us || b) (or_false (same_row u t) ∙ same_row-sym u t)

-- one more row
pub holds_more : (keys : List (Bor Row)) (us : Bag) (r : Bor Row) → Holds keys us → Holds (insert_key same_ref keys r) (us ++ r.now ∷ [])
holds_more keys us r h = record {
  members = λ t.
      found-inserted keys r t (found r.now keys) (same_row t r.now) refl refl
      ∙ ap (λ b. b || same_row t r.now) (h.members t) ∙ sym (member-more t us r.now);
}

pub holds_none : Holds [] []
holds_none = record { members = λ t. refl }

-- the flags so far, and the wanted rows so far in a set
pub record Sees (common : Bool) (vs : Bag) (keys : List (Bor Row)) (flags : List Bool) (us : Bag) : Type 0 where
  pub seen : Holds keys (filter (wanted common vs) us)
  pub flags_so_far : flags ≡ marks_by (left_out (wanted common vs)) us

module _ (common : Bool) (vs : Bag) (keys : List (Bor Row)) (flags : List Bool) (us : Bag) (s : Sees common vs keys flags us) where
  kept_filter : (u : Row) (b : Bool) → wanted common vs u ≡ b → filter (wanted common vs) (us ++ u ∷ []) ≡ filter (wanted common vs) us ++ cond b (u ∷ []) []
  kept_filter u b e = filter-more (wanted common vs) us u ∙ ap (λ b. filter (wanted common vs) us ++ cond b (u ∷ []) []) e

  pub sees_wanted : (r : Bor Row) → wanted common vs r.now ≡ true → Sees common vs (insert_key same_ref keys r) (flags ++ not (not (found r.now keys)) ∷ []) (us ++ r.now ∷ [])
  sees_wanted r e = record {
    seen = subst (Holds (insert_key same_ref keys r)) (sym (kept_filter r.now true e)) (holds_more keys (filter (wanted common vs) us) r s.seen);
    flags_so_far =
        (λ i. s.flags_so_far i ++ flag i ∷ []) ∙ sym (marks-more (left_out (wanted common vs)) us r.now);
  }
    where
      flag : not (not (found r.now keys)) ≡ (not (wanted common vs r.now) || member r.now us)
      flag = not_not (found r.now keys) ∙ s.seen.members r.now ∙ member-filter r.now (wanted common vs) us ∙ ap (λ b. member r.now us && b) e ∙ and_true (member r.now us)
          ∙ ap (λ b. not b || member r.now us) (sym e)

  pub sees_unwanted : (u : Row) → wanted common vs u ≡ false → Sees common vs keys (flags ++ true ∷ []) (us ++ u ∷ [])
  sees_unwanted u e = record {
    seen = subst (Holds keys) (sym (kept_filter u false e ∙ nil (filter (wanted common vs) us))) s.seen;
    flags_so_far = (λ i. s.flags_so_far i ++ flag i ∷ []) ∙ sym (marks-more (left_out (wanted common vs)) us u);
  }
    where
      nil : (l : Bag) → l ++ [] ≡ l
      nil [] = refl
      nil (x ∷ l) = ap (λ m. x ∷ m) (nil l)

      flag : true ≡ (not (wanted common vs u) || member u us)
      flag = ap (λ b. not b || member u us) (sym e)

-- whether a row is wanted, by a test of the other side
pub is_wanted : (held common : Bool) (vs : Bag) (u : Row) → held ≡ member u vs → beq held common ≡ true → wanted common vs u ≡ true
is_wanted true true vs u e f = sym e
is_wanted true false vs u e f = absurd (true≢false (sym f))
is_wanted false true vs u e f = absurd (true≢false (sym f))
is_wanted false false vs u e f = ap not (sym e)

pub is_unwanted : (held common : Bool) (vs : Bag) (u : Row) → held ≡ member u vs → beq held common ≡ false → wanted common vs u ≡ false
is_unwanted true true vs u e f = absurd (true≢false f)
is_unwanted true false vs u e f = ap not (sym e)
is_unwanted false true vs u e f = sym e
is_unwanted false false vs u e f = absurd (true≢false f)
