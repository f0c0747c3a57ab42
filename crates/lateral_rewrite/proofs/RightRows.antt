-- A right side that has under a row exactly the flattened lists of those rows of a sublink's query that contribute: padded by
-- NULLs these are the sublink's contributions on the row, flattened.
use Rattle.std.proofs.Common.{◌≡◌, ◌⊎◌, inl, inr, ℕ, Bool, true, false, cond, not, ◌||◌, List, [], ◌∷◌, filter, length, Contains, refl, sym, ap, ◌∙◌, subst, subst₂}
use Rattle.std.specs.List.{list_any}
use Rattle.perm_values.specs.declared.kind.Kind.{Kind}
use Rattle.perm_values.specs.declared.value.Value.{Value}
use Rattle.bag_algebra.proofs.Members.{IsIn, in-filter, from-filter, in-member}
use Rattle.bag_algebra.proofs.Outcomes.{same_good}
use Rattle.bag_algebra.specs.Bags.{Row, Bag, nulls}
use Rattle.bag_algebra.specs.Fits.{row_begins}
use Rattle.bag_algebra.specs.Kinds.{place_kinds, shape}
use Rattle.bag_algebra.specs.Meaning.{Database, witnesses}
use Rattle.bag_algebra.specs.Means.{Witness, flat, all_empty, cell, chosen}
use Rattle.bag_algebra.specs.Outcome.{Good}
use Rattle.bag_algebra.specs.declared.query.SubKind.{SubKind}
use Rattle.bag_algebra.specs.declared.query.Sublink.{Sublink}
use Rattle.contribution.proofs.SetsOfNodes.{from_any}
use Rattle.query_laws.proofs.Contributed.{in-chosen, chosen-is}
use Rattle.query_laws.specs.SublinkLists.{Contributes, by_row, by_no_row}
use Rattle.rewrite_core.proofs.JoinedOutcomes.{answer-listed}
use Rattle.rewrite_core.proofs.KeptRows.{blank-width, flat-all_empty, list-width}
use Rattle.rewrite_sublink.proofs.Contributing.{padded_rows}
use Rattle.rewrite_sublink.proofs.Steps.{SubsFitting, HasValue}
use Rattle.rewrite_sublink.proofs.SublinkRows as under
use Rattle.rewrite_sublink.proofs.TestValues.{passes_of, chosen-passing}

-- ---- which rows contribute

-- whether some row gives the sublink the value by which it chooses
abbrev pub decided : SubKind → Value → Bag → Bool
decided kind x vs = list_any (λ row. passes_of kind x (cell row)) vs

abbrev pub is_chosen : SubKind → Value → Bag → Row → Bool
is_chosen kind x vs row = not (decided kind x vs) || passes_of kind x (cell row)

in-picked : (d : Bool) (test : Row → Bool) (row : Row) (vs : Bag) → IsIn row vs → (not d || test row) ≡ true → IsIn row (cond d (filter test vs) vs)
in-picked true test row vs h e = in-filter test row vs h e
in-picked false test row vs h e = h

from-picked : (d : Bool) (test : Row → Bool) (row : Row) (vs : Bag) → IsIn row (cond d (filter test vs) vs) → IsIn row vs × ((not d || test row) ≡ true)
from-picked true test row vs h = from-filter test row vs h
from-picked false test row vs h = (h, refl)

-- where there is a row, one contributes
some-picked : (d : Bool) (test : Row → Bool) (vs : Bag) → list_any test vs ≡ d → (row : Row) → IsIn row vs → (other : Row) × IsIn other vs × ((not d || test other) ≡ true)
some-picked true test vs e row h = from_any test vs e
some-picked false test vs e row h = (row, h, refl)

-- ---- rows, or one of NULLs

in-padded : (width : ℕ) (ks : Bag) (k : Row) → IsIn k ks → IsIn k (padded_rows width ks)
in-padded width [] k h = absurd h
in-padded width (y ∷ ks) k h = h

nulls-padded : (width : ℕ) (ks : Bag) → ((k : Row) → IsIn k ks → ⊥) → IsIn (nulls width) (padded_rows width ks)
nulls-padded width [] none = inl refl
nulls-padded width (k ∷ ks) none = absurd (none k (inl refl))

from-padded : (width : ℕ) (ks : Bag) (k : Row) → IsIn k (padded_rows width ks) → IsIn k ks ⊎ (((y : Row) → IsIn y ks → ⊥) × (nulls width ≡ k))
from-padded width [] k (inl e) = inr ((λ y h. h), e)
from-padded width [] k (inr h) = absurd h
from-padded width (y ∷ ks) k h = inl h

no_rows : (vs : Bag) → ((row : Row) → IsIn row vs → ⊥) → [] ≡ vs
no_rows [] none = refl
no_rows (row ∷ vs) none = absurd (none row (inl refl))

-- ---- the right side

-- it has the flattened lists of the rows that contribute
pub record ChosenLists (kind : SubKind) (x : Value) (vs : Bag) (lists : Row → List Witness) (ks : Bag) : Type 0 where
  pub there : (row : Row) (w : Witness) → IsIn row vs → is_chosen kind x vs row ≡ true → Contains (lists row) w → IsIn (flat w) ks
  pub back : (k : Row) → IsIn k ks → (row : Row) × (w : Witness) × IsIn row vs × (is_chosen kind x vs row ≡ true) × Contains (lists row) w × (flat w ≡ k)

-- padded by NULLs it has the contributions of the sublink on b
pub record Contributions (db : Database) (env : List Row) (b : Row) (sub : Sublink) (width : ℕ) (ks : Bag) : Type 0 where
  pub there : (c : Witness) → Contributes db env b sub c → IsIn (flat c) (padded_rows width ks)
  pub back : (k : Row) → IsIn k (padded_rows width ks) → (c : Witness) × Contributes db env b sub c × (flat c ≡ k)

module _ {columns : List Kind} {outer : List (List Kind)} {db : Database} {env : List Row} {sub : Sublink} (f : SubsFitting columns outer (sub ∷ []) db env)
    (b : Row) (begins : row_begins b columns ≡ true) (v : HasValue db env sub b) where
  abbrev pub x : Value
  x = under.x f b begins v

  abbrev pub vs : Bag
  vs = under.vs f b begins v

  abbrev pub lists : Row → List Witness
  lists = witnesses sub.query db (b ∷ env)

  -- how wide a contribution is
  pub contribution-width : (c : Witness) → Contributes db env b sub c → length (flat c) ≡ length (place_kinds (shape sub.query))
  contribution-width c (by_row y bag row tested good chosen listed) = list-width (columns ∷ outer) sub.query db (b ∷ env) (under.inner f b begins v) row c listed
  contribution-width c (by_no_row none e) = ap (λ c. length (flat c)) (sym e) ∙ blank-width (shape sub.query)

  in-picked_of : (row : Row) → IsIn row vs → is_chosen sub.kind x vs row ≡ true → IsIn row (chosen sub.kind x vs)
  in-picked_of row h e =
      subst (IsIn row) (sym (chosen-passing sub.kind x vs)) (in-picked (decided sub.kind x vs) (λ row. passes_of sub.kind x (cell row)) row vs h e)

  module _ (width : ℕ) (width_is : length (place_kinds (shape sub.query)) ≡ width) (ks : Bag) (l : ChosenLists sub.kind x vs lists ks) where
    blank-is : nulls width ≡ flat (all_empty (shape sub.query))
    blank-is = ap nulls (sym width_is) ∙ sym (flat-all_empty (shape sub.query))

    there : (c : Witness) → Contributes db env b sub c → IsIn (flat c) (padded_rows width ks)
    there c (by_row y bag row tested good chosen_row listed) =
        let parts = under.parts f b begins v in
        let same_x : y ≡ x = same_good y x (sym tested ∙ parts.2) in
        let same_vs : bag ≡ vs = same_good bag vs (sym good ∙ parts.3) in
        let here : IsIn row (chosen sub.kind x vs) = subst₂ (λ y bag. IsIn row (chosen sub.kind y bag)) same_x same_vs (in-chosen y bag row sub.kind chosen_row) in
        let picked = from-picked (decided sub.kind x vs) (λ row. passes_of sub.kind x (cell row)) row vs (subst (IsIn row) (chosen-passing sub.kind x vs) here) in
        in-padded width ks (flat c) (l.there row c picked.0 picked.1 listed)
    there c (by_no_row none e) =
        let parts = under.parts f b begins v in
        let empty : vs ≡ [] = same_good vs [] (sym parts.3 ∙ none) in
        subst (λ k. IsIn k (padded_rows width ks)) (blank-is ∙ ap flat e)
        (nulls-padded width ks (λ k h. let row = l.back k h in subst (IsIn row.0) empty row.2))

    back : (k : Row) → IsIn k (padded_rows width ks) → (c : Witness) × Contributes db env b sub c × (flat c ≡ k)
    back k h = by_padded (from-padded width ks k h) where
      none_there : ((y : Row) → IsIn y ks → ⊥) → (row : Row) → IsIn row vs → ⊥
      none_there none row h =
          let other = some-picked (decided sub.kind x vs) (λ row. passes_of sub.kind x (cell row)) vs refl row h in
          let some = answer-listed sub.query db (b ∷ env) vs (under.parts f b begins v).3 other.0 (in-member other.0 vs other.1) in
          none (flat some.list) (l.there other.0 some.list other.1 other.2 some.is_list)

      by_padded : IsIn k ks ⊎ (((y : Row) → IsIn y ks → ⊥) × (nulls width ≡ k)) → (c : Witness) × Contributes db env b sub c × (flat c ≡ k)
      by_padded (inl h) =
          let row = l.back k h in
          let parts = under.parts f b begins v in (
            row.1,
            by_row x vs row.0 parts.2 parts.3 (chosen-is x vs row.0 sub.kind (in-picked_of row.0 row.2 row.3)) row.4,
            row.5,
          )
      by_padded (inr none) = (
        all_empty (shape sub.query),
        by_no_row ((under.parts f b begins v).3 ∙ ap Good (sym (no_rows vs (none_there none.0)))) refl,
        sym blank-is ∙ none.1,
      )

    pub contributions : Contributions db env b sub width ks
    contributions = record { there = there; back = back }
