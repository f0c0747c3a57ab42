-- The rows of joins of rewritings without the columns that stand there twice, how wide they are, and tests of their columns.
use Rattle.std.proofs.Common.{◌≡◌, ℕ, zero, suc, ◌+◌, ◌≤◌, List, [], ◌∷◌, ◌++◌, length, Contains, IsTrue, append_assoc, length-append, refl, sym, ap, ◌∙◌, arith}
use Rattle.std.proofs.lemmas.List.FromFn.{length-range_with_len}
use Rattle.std.specs.List.{range_with_len}
use Rattle.perm_values.specs.Rows.{picked, same_row}
use Rattle.perm_values.specs.declared.kind.Kind.{Kind}
use Rattle.perm_values.specs.declared.kind.Kind.TheVariants as kind
use Rattle.perm_values.specs.declared.value.Value.TheVariants.{Null, Boolean}
use Rattle.bag_algebra.proofs.Members.{member-in}
use Rattle.bag_algebra.specs.Bags.{Row, Bag, member, nulls}
use Rattle.bag_algebra.specs.Expressions.{value}
use Rattle.bag_algebra.specs.Kinds.{kinds_of, kinds_in, width_of, shape, place_kinds}
use Rattle.bag_algebra.specs.Meaning.{Database, meaning, witnesses}
use Rattle.bag_algebra.specs.Means.{Witness, Held, Empty, flat, all_empty}
use Rattle.bag_algebra.specs.Outcome.{Good}
use Rattle.bag_algebra.specs.WellFormed.{HasKind}
use Rattle.bag_algebra.specs.declared.place.Place.{Place}
use Rattle.bag_algebra.specs.declared.query.Query.{Query}
use Rattle.contribution.proofs.QueryKinds.{rows_have-kinds, lists_fit-places}
use Rattle.contribution.proofs.RowKinds.{RowFits, flat-fits, all_empty-fits, row_fits-length}
use Rattle.contribution.proofs.WhereGood.{each-in}
use Rattle.contribution.specs.Fitting.{Fitting}
use Rattle.contribution.proofs.SameTests.{tests-value, conjunction-formed}
use Rattle.rewrite_core.proofs.Places.{at-between, at-kept, within-range}
use Rattle.rewrite_core.specs.rewritings.KeptColumns.{kept_places, same_as_first}

-- ---- widths

module _ (outer : List (List Kind)) (q : Query) (db : Database) (env : List Row) (fitting : Fitting outer q db env) where
  pub row-width : (us : Bag) (t : Row) → meaning q db env ≡ Good us → IsTrue (member t us) → length t ≡ width_of q
  row-width us t good h =
      row_fits-length t (kinds_of q) (each-in (RowFits (kinds_of q)) t us (rows_have-kinds outer q db env us fitting good) (member-in t us h)).fit

  pub list-width : (t : Row) (w : Witness) → Contains (witnesses q db env t) w → length (flat w) ≡ length (place_kinds (shape q))
  list-width t w c = row_fits-length (flat w) (place_kinds (shape q)) (flat-fits (lists_fit-places outer q db env t w fitting c)).fit

pub blank-width : (places : List Place) → length (flat (all_empty places)) ≡ length (place_kinds places)
blank-width places = row_fits-length (flat (all_empty places)) (place_kinds places) (flat-fits (all_empty-fits places)).fit

pub nulls-append : (n m : ℕ) → nulls (n + m) ≡ nulls n ++ nulls m
nulls-append zero m = ap nulls (omega arith)
nulls-append (suc n) m =
    let next : suc n + m ≡ suc (n + m) = omega arith in
    ap nulls next ∙ ap (λ row. Null ∷ row) (nulls-append n m)

pub flat-all_empty : (places : List Place) → flat (all_empty places) ≡ nulls (length (place_kinds places))
flat-all_empty [] = refl
flat-all_empty (place ∷ places) =
    ap (λ row. nulls (length place.kinds) ++ row) (flat-all_empty places)
    ∙ sym (nulls-append (length place.kinds) (length (place_kinds places)))
    ∙ ap nulls (sym (length-append place.kinds (place_kinds places)))

-- the NULLs of a rewriting: as wide as the query, and then nothing at every place
pub nulls-of_rewriting : (kinds : List Kind) (places : List Place) (width : ℕ) → width ≡ length (kinds ++ place_kinds places) →
    nulls width ≡ nulls (length kinds) ++ flat (all_empty places)
nulls-of_rewriting kinds places width e =
    ap nulls (e ∙ length-append kinds (place_kinds places))
    ∙ nulls-append (length kinds) (length (place_kinds places))
    ∙ ap (λ row. nulls (length kinds) ++ row) (sym (flat-all_empty places))

-- ---- rows

pub flat-append : (v w : Witness) → flat (v ++ w) ≡ flat v ++ flat w
flat-append [] w = refl
flat-append (Held row ∷ entries) w = ap (λ more. row ++ more) (flat-append entries w) ∙ sym (append_assoc row (flat entries) (flat w))
flat-append (Empty width ∷ entries) w = ap (λ more. nulls width ++ more) (flat-append entries w) ∙ sym (append_assoc (nulls width) (flat entries) (flat w))

-- a row and its list, then what is left out, then another list: the row beside both lists
pub kept-row : (t out : Row) (l r : Witness) (kept left_out last all : ℕ) → length (t ++ flat l) ≡ kept → length out ≡ left_out → length (flat r) ≡ last →
    kept + left_out + last ≡ all →
    picked (kept_places kept left_out all) (t ++ flat l ++ out ++ flat r) ≡ t ++ flat (l ++ r)
kept-row t out l r kept left_out last all e f g h =
    at-kept Null (t ++ flat l) out (flat r) kept left_out all e f
    (length-append (t ++ flat l ++ out) (flat r) ∙ (λ i. (length-append (t ++ flat l) out ∙ (λ j. e j + f j)) i + g i) ∙ h)
    ∙ append_assoc t (flat l) (flat r)
    ∙ ap (λ row. t ++ row) (sym (flat-append l r))

-- so it is of their kinds
pub kept-kinds : (first out last : List Kind) (kept left_out : ℕ) → length first ≡ kept → length out ≡ left_out →
    kinds_in (first ++ out ++ last) (kept_places kept left_out (length (first ++ out ++ last))) ≡ first ++ last
kept-kinds first out last kept left_out e f = at-kept kind.Text first out last kept left_out (length (first ++ out ++ last)) e f refl

-- ---- the test that columns are the same

module _ (count from : ℕ) where
  abbrev firsts : List ℕ
  firsts = range_with_len 0 count

  abbrev others : List ℕ
  others = range_with_len from count

  as_many : length firsts ≡ length others
  as_many = length-range_with_len 0 count ∙ sym (length-range_with_len from count)

  pub same-value : (env : List Row) (first middle other last : Row) → length first ≡ count → length (first ++ middle) ≡ from → length other ≡ count →
      value (same_as_first count from) (first ++ middle ++ (other ++ last)) env [] ≡ Good (Boolean (same_row first other))
  same-value env first middle other last e f g =
      let row = first ++ middle ++ (other ++ last) in
      tests-value row env [] 0 firsts others as_many
      ∙ (λ i. Good (Boolean (same_row
      ((ap (picked firsts) (append_assoc first middle (other ++ last)) ∙ at-between Null [] first (middle ++ (other ++ last)) 0 count refl e) i)
      (at-between Null (first ++ middle) other last from count f g i))))

  pub same-formed : (outer : List (List Kind)) (first middle last : List Kind) → length first ≡ count → length (first ++ middle) ≡ from →
      HasKind ((first ++ middle ++ (first ++ last)) ∷ outer) [] (same_as_first count from) kind.Boolean
  same-formed outer first middle last e f =
      let kinds = first ++ middle ++ (first ++ last) in
      let wide : length kinds ≡ from + (count + length last) =
      length-append (first ++ middle) (first ++ last) ∙ (λ i. f i + (length-append first last ∙ ap (λ n. n + length last) e) i) in
      let long : count ≤ from = omega (arith, e, f, length-append first middle) in
      conjunction-formed kinds outer [] 0 kinds refl firsts others
      (within-range (length kinds) 0 count (omega (arith, wide, long)))
      (within-range (length kinds) from count (omega (arith, wide)))
      (ap (λ ks. kinds_in ks firsts) (append_assoc first middle (first ++ last))
      ∙ at-between kind.Text [] first (middle ++ (first ++ last)) 0 count refl e
      ∙ sym (at-between kind.Text (first ++ middle) first last from count f e))
