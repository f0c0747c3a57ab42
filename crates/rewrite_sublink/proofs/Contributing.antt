-- Which candidates match: on bags alone. A sublink's rows vs have lists, and the rows rs stand beside these; where the rows
-- that pass a test decide, a candidate needs a matching row that passes it, else any matching row.
use Rattle.std.proofs.Common.{◌≡◌, ◌⊎◌, inl, inr, ℕ, Bool, true, false, cond, List, [], ◌∷◌, ◌++◌, filter, length, Contains, IsTrue, refl, sym, ap, ◌∙◌, subst, append-nil, true≢false}
use Rattle.std.specs.List.{list_any, flat_map, range_with_len}
use Rattle.perm_values.specs.Rows.{picked, same_row}
use Rattle.perm_values.specs.ValueLaws.{row_decides}
use Rattle.perm_values.specs.declared.kind.Kind.{Kind}
use Rattle.perm_values.specs.declared.value.Value.{Value}
use Rattle.perm_values.specs.declared.value.Value.TheVariants.{Null}
use Rattle.bag_algebra.proofs.Members.{IsIn, in-filter, from-filter, in-flat_map, from-flat_map, in-member, member-in}
use Rattle.bag_algebra.proofs.MembersByIndex.{in-from_contains, contains-from_in}
use Rattle.bag_algebra.specs.Bags.{Row, Bag, member, nulls}
use Rattle.bag_algebra.specs.Kinds.{place_kinds}
use Rattle.bag_algebra.specs.Means.{Witness, flat, all_empty, cell, is_some_row}
use Rattle.bag_algebra.specs.declared.place.Place.{Place}
use Rattle.contribution.proofs.SetsOfNodes.{any_in, from_any}
use Rattle.query_laws.proofs.Joined.{length-nulls}
use Rattle.rewrite_core.proofs.KeptRows.{nulls-of_rewriting, blank-width}
use Rattle.rewrite_core.proofs.Places.{at-between}
use Rattle.rewrite_core.specs.rewritings.Rewritten.{Beside}

-- the rows, or one row of NULLs
abbrev pub padded_rows : ℕ → Bag → Bag
padded_rows width [] = nulls width ∷ []
padded_rows width (r ∷ rs) = r ∷ rs

-- those with the candidate behind so many columns
abbrev pub matching_rows : Row → (own count width : ℕ) → Bag → Bag
matching_rows candidate own count width rs = filter (λ r. same_row candidate (picked (range_with_len own count) r)) (padded_rows width rs)

pub some_row : (xs : Bag) (x : Row) → IsIn x xs → is_some_row xs ≡ true
some_row [] x h = absurd h
some_row (y ∷ ys) x h = refl

pub from-some_row : (xs : Bag) → is_some_row xs ≡ true → (x : Row) × IsIn x xs
from-some_row [] h = absurd (true≢false (sym h))
from-some_row (y ∷ ys) h = (y, inl refl)

module _ (passes : Value → Bool) (kinds : List Kind) (places : List Place) (vs rs : Bag) (lists : Row → List Witness) (b : Beside lists vs rs) (own count width : ℕ)
    (own_is : length kinds ≡ own) (count_is : length (place_kinds places) ≡ count) (width_is : width ≡ length (kinds ++ place_kinds places))
    (wide : (v : Row) → IsIn v vs → length v ≡ own) (long : (v : Row) (w : Witness) → Contains (lists v) w → length (flat w) ≡ count)
    (first : (v more : Row) → IsIn v vs → passes (cell (v ++ more)) ≡ passes (cell v)) where
  abbrev pub picks : Row → Bool
  picks row = passes (cell row)

  -- the contributions, where d says whether some row passes
  abbrev pub contributions : Bool → List Witness
  contributions d = cond (is_some_row vs) (flat_map lists (cond d (filter picks vs) vs)) (all_empty places ∷ [])

  abbrev pub found : Row → Bag
  found candidate = matching_rows candidate own count width rs

  abbrev pub is_candidate : Bool → Row → Bool
  is_candidate d candidate = cond d (list_any picks (found candidate)) (is_some_row (found candidate))

  -- ---- what stands among the rows

  behind : (v more : Row) → length v ≡ own → length more ≡ count → picked (range_with_len own count) (v ++ more) ≡ more
  behind v more e f =
      ap (λ xs. picked (range_with_len own count) (v ++ xs)) (sym (append-nil more)) ∙ at-between Null v more [] own count e f

  nulls-are : nulls width ≡ nulls (length kinds) ++ flat (all_empty places)
  nulls-are = nulls-of_rewriting kinds places width width_is

  nulls-behind : picked (range_with_len own count) (nulls width) ≡ flat (all_empty places)
  nulls-behind =
      ap (picked (range_with_len own count)) nulls-are
      ∙ behind (nulls (length kinds)) (flat (all_empty places)) (length-nulls (length kinds) ∙ own_is) (blank-width places ∙ count_is)

  -- a row and one of its lists
  record Listed (x : Row) : Type 0 where
    origin : Row
    list : Witness
    here : IsIn origin vs
    listed : Contains (lists origin) list
    whole : origin ++ flat list ≡ x

  listed-row : (x : Row) → IsTrue (member x rs) → Listed x
  listed-row x h =
      let r = b.back x h in
      record { origin = r.origin; list = r.list; here = member-in r.origin vs r.row; listed = r.is_list; whole = r.whole }

  no_rows : (us : Bag) → ((v : Row) → IsIn v us → ⊥) → us ≡ []
  no_rows [] none = refl
  no_rows (u ∷ us) none = absurd (none u (inl refl))

  from-padded_of : (xs : Bag) → xs ≡ rs → (x : Row) → IsIn x (padded_rows width xs) → Listed x ⊎ ((vs ≡ []) × (nulls width ≡ x))
  from-padded_of [] e x (inl same) =
      inr (
        no_rows vs (λ v h.
            let some = b.covers v (in-member v vs h) in
            subst (λ us. IsIn (v ++ flat some.list) us) (sym e)
            (member-in (v ++ flat some.list) rs (b.there v some.list (in-member v vs h) some.is_list))),
        same,
      )
  from-padded_of [] e x (inr h) = absurd h
  from-padded_of (y ∷ ys) e x h = inl (listed-row x (in-member x rs (subst (IsIn x) e h)))

  from-padded : (x : Row) → IsIn x (padded_rows width rs) → Listed x ⊎ ((vs ≡ []) × (nulls width ≡ x))
  from-padded x h = from-padded_of rs refl x h

  in-padded_of : (xs : Bag) (x : Row) → IsIn x xs → IsIn x (padded_rows width xs)
  in-padded_of [] x h = absurd h
  in-padded_of (y ∷ ys) x h = h

  nulls-padded_of : (xs : Bag) → xs ≡ rs → vs ≡ [] → IsIn (nulls width) (padded_rows width xs)
  nulls-padded_of [] e none = inl refl
  nulls-padded_of (y ∷ ys) e none =
      let r = b.back y (in-member y rs (subst (IsIn y) e (inl refl))) in
      absurd (subst (λ us. IsIn r.origin us) none (member-in r.origin vs r.row))

  in-found : (candidate x : Row) → IsIn x (padded_rows width rs) → candidate ≡ picked (range_with_len own count) x → IsIn x (found candidate)
  in-found candidate x h e =
      in-filter (λ r. same_row candidate (picked (range_with_len own count) r)) x (padded_rows width rs) h
      ((row_decides candidate (picked (range_with_len own count) x)).1 e)

  -- ---- a candidate that matches is a contribution

  contributed-list : (d : Bool) (v : Row) (w : Witness) → IsIn v vs → (d ≡ true → picks v ≡ true) → Contains (lists v) w → IsIn w (contributions d)
  contributed-list d v w h p c =
      subst (λ some. IsIn w (cond some (flat_map lists (cond d (filter picks vs) vs)) (all_empty places ∷ []))) (sym (some_row vs v h))
      (in-flat_map lists w v (cond d (filter picks vs) vs) (chosen d p) (in-from_contains w (lists v) c))
    where
      chosen : (d : Bool) → (d ≡ true → picks v ≡ true) → IsIn v (cond d (filter picks vs) vs)
      chosen true p = in-filter picks v vs h (p refl)
      chosen false p = h

  blank-contributed : (d : Bool) → vs ≡ [] → IsIn (all_empty places) (contributions d)
  blank-contributed d none =
      subst (λ some. IsIn (all_empty places) (cond some (flat_map lists (cond d (filter picks vs) vs)) (all_empty places ∷ []))) (sym (ap is_some_row none)) (inl refl)

  pub from-candidate : (d : Bool) → list_any picks vs ≡ d → (candidate : Row) → is_candidate d candidate ≡ true →
      (w : Witness) × IsIn w (contributions d) × (flat w ≡ candidate)
  from-candidate d e candidate h = by_row (row_of d h) where
    row_of : (d : Bool) → is_candidate d candidate ≡ true → (x : Row) × IsIn x (found candidate) × (d ≡ true → picks x ≡ true)
    row_of true h = let r = from_any picks (found candidate) h in (r.0, r.1, λ same. r.2)
    row_of false h = let r = from-some_row (found candidate) h in (r.0, r.1, λ same. absurd (true≢false (sym same)))

    by_origin : (x : Row) → (d ≡ true → picks x ≡ true) → candidate ≡ picked (range_with_len own count) x → Listed x ⊎ ((vs ≡ []) × (nulls width ≡ x)) →
        (w : Witness) × IsIn w (contributions d) × (flat w ≡ candidate)
    by_origin x p same (inl l) = (
      l.list,
      contributed-list d l.origin l.list l.here (λ t. sym (first l.origin (flat l.list) l.here) ∙ ap picks l.whole ∙ p t) l.listed,
      sym (behind l.origin (flat l.list) (wide l.origin l.here) (long l.origin l.list l.listed)) ∙ ap (picked (range_with_len own count)) l.whole ∙ sym same,
    )
    by_origin x p same (inr none) = (
      all_empty places,
      blank-contributed d none.0,
      sym nulls-behind ∙ ap (picked (range_with_len own count)) none.1 ∙ sym same,
    )

    by_row : (x : Row) × IsIn x (found candidate) × (d ≡ true → picks x ≡ true) → (w : Witness) × IsIn w (contributions d) × (flat w ≡ candidate)
    by_row r =
        let here = from-filter (λ r. same_row candidate (picked (range_with_len own count) r)) r.0 (padded_rows width rs) r.1 in
        by_origin r.0 r.2 ((row_decides candidate (picked (range_with_len own count) r.0)).0 here.1) (from-padded r.0 here.0)

  -- ---- and a contribution matches

  pub in-candidate : (d : Bool) → list_any picks vs ≡ d → (w : Witness) → IsIn w (contributions d) → is_candidate d (flat w) ≡ true
  in-candidate d e w h = by_rows (is_some_row vs) refl h where
    met : (d : Bool) (x : Row) → IsIn x (found (flat w)) → (d ≡ true → picks x ≡ true) → is_candidate d (flat w) ≡ true
    met true x h p = any_in picks x (found (flat w)) h (p refl)
    met false x h p = some_row (found (flat w)) x h

    chosen-row : (d : Bool) (v : Row) → IsIn v (cond d (filter picks vs) vs) → IsIn v vs × (d ≡ true → picks v ≡ true)
    chosen-row true v h = let r = from-filter picks v vs h in (r.0, λ same. r.1)
    chosen-row false v h = (h, λ same. absurd (true≢false (sym same)))

    by_list : (v : Row) → IsIn v vs → (d ≡ true → picks v ≡ true) → Contains (lists v) w → is_candidate d (flat w) ≡ true
    by_list v h p c =
        let there = member-in (v ++ flat w) rs (b.there v w (in-member v vs h) c) in
        met d (v ++ flat w)
        (in-found (flat w) (v ++ flat w) (in-padded_of rs (v ++ flat w) there) (sym (behind v (flat w) (wide v h) (long v w c))))
        (λ t. first v (flat w) h ∙ p t)

    no_row : (us : Bag) → is_some_row us ≡ false → us ≡ []
    no_row [] e = refl
    no_row (u ∷ us) e = absurd (true≢false e)

    undecided : (d : Bool) → list_any picks vs ≡ d → vs ≡ [] → d ≡ true → ⊥
    undecided d e none t = true≢false (sym t ∙ sym e ∙ ap (list_any picks) none)

    by_rows : (some : Bool) → is_some_row vs ≡ some → IsIn w (cond some (flat_map lists (cond d (filter picks vs) vs)) (all_empty places ∷ [])) →
        is_candidate d (flat w) ≡ true
    by_rows true f g =
        let found = from-flat_map lists w (cond d (filter picks vs) vs) g in
        let row = chosen-row d found.0 found.1 in
        by_list found.0 row.0 row.1 (contains-from_in w (lists found.0) found.2)
    by_rows false f (inl same) =
        let none = no_row vs f in
        met d (nulls width)
        (in-found (flat w) (nulls width) (nulls-padded_of rs refl none) (ap flat (sym same) ∙ sym nulls-behind))
        (λ t. absurd (undecided d e none t))
    by_rows false f (inr h) = absurd h
