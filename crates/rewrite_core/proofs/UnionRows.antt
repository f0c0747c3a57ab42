-- The rows of both rewritings, each with NULLs at the other's provenance columns, are a rewriting of the union.
use Rattle.std.proofs.Common.{◌≡◌, ◌↔◌, ℕ, ◌+◌, ◌-◌, ◌≤◌, inl, inr, Bool, true, List, [], ◌∷◌, ◌++◌, map, length, slice_index_or, Contains, refl, sym, ap, ◌∙◌, subst, subst₂, append-nil, append_assoc, arith, length-append}
use Rattle.std.proofs.lemmas.List.Elements.{Contains-append_left, Contains-append_right}
use Rattle.std.proofs.lemmas.List.{map-id}
use Rattle.std.specs.List.{range_with_len}
use Rattle.perm_values.specs.declared.kind.Kind.{Kind}
use Rattle.perm_values.specs.declared.kind.Kind.TheVariants.{Text}
use Rattle.perm_values.specs.declared.value.Value.TheVariants.{Null}
use Rattle.bag_algebra.proofs.Members.{IsIn, from-append, from-map, in-append_left, in-append_right, in-map, in-member}
use Rattle.bag_algebra.proofs.TablesRead.{each_table-kept}
use Rattle.bag_algebra.proofs.Widths.{place_kinds-append}
use Rattle.bag_algebra.specs.Bags.{Row, Bag, nulls, union_of}
use Rattle.bag_algebra.specs.built.Openings.{Union-is, rows-with_lists}
use Rattle.bag_algebra.specs.Fits.{TablesFit, env_fits}
use Rattle.bag_algebra.specs.Kinds.{kinds_in, kinds_of, place_kinds, shape, width_of}
use Rattle.bag_algebra.specs.Meaning.{Database, meaning, witnesses}
use Rattle.bag_algebra.specs.Means.{Witness, all_empty, flat, good_rows}
use Rattle.bag_algebra.specs.Outcome.{Outcome, Good, Bad, both, both_then, mapped}
use Rattle.bag_algebra.specs.built.Patterns.{UnionOf, ProvOf}
use Rattle.bag_algebra.specs.Rewriting.{IsRewrite, SameSet, is_plain}
use Rattle.bag_algebra.specs.TablesRead.{EachTable, tables_read}
use Rattle.bag_algebra.specs.WellFormed.{WellFormed}
use Rattle.bag_algebra.specs.declared.query.Query.{Query}
use Rattle.bag_algebra.specs.declared.query.Query.TheVariants.{Union}
use Rattle.contribution.proofs.ListedRows.{only_rows}
use Rattle.contribution.proofs.SetMembers.{in-union}
use Rattle.contribution.specs.Fitting.{Fitting}
use Rattle.contribution.proofs.NodeQueries.{plain-projected}
use Rattle.contribution.proofs.Padding.{formed-padded, kinds_of-padded, meaning-padded}
use Rattle.contribution.specs.NullItems.{padded_row}
use Rattle.bag_algebra.proofs.Truths.{both-true}
use Rattle.rewrite_core.proofs.FlatRows.{Flattened, flattened}
use Rattle.rewrite_core.proofs.NodeRows.{Made, rewritten-over_both}
use Rattle.rewrite_core.proofs.Places.{within-range}
use Rattle.rewrite_core.proofs.KeptRows.{flat-append, list-width, flat-all_empty}
use Rattle.rewrite_core.proofs.RowColumns.{behind, between, row-width, width-provenance, width-rewriting}
use Rattle.rewrite_core.proofs.RuleRows.{beside-from_rewrite, rows-from_beside}
use Rattle.rewrite_core.specs.UnionColumns.{items_behind, padded_behind, provenance_kinds}
use Rattle.rewrite_core.specs.rewritings.Rewritten.{Beside}
use Rattle.query_laws.proofs.NodeLists.{union-lists}
use Rattle.query_laws.specs.ListsOfNodes.{UnionList, from_left, from_right}
use Rattle.query_laws.specs.SublinkLists.{InAnswer}
use Rattle.bag_algebra.proofs.MembersByIndex.{in-from_contains}

both-of_mapped : {X Y Z W V : Type 0} (make : Z → W → V) (first : X → Z) (second : Y → W) (o : Outcome X) (s : Outcome Y) →
    both make (mapped first o) (mapped second s) ≡ both_then o s (λ x y. Good (make (first x) (second y)))
both-of_mapped make first second (Good x) (Good y) = refl
both-of_mapped make first second (Good x) (Bad g) = refl
both-of_mapped make first second (Bad f) (Good y) = refl
both-of_mapped make first second (Bad f) (Bad g) = refl

both-then : {X Y Z : Type 0} (make : X → Y → Z) (o : Outcome X) (s : Outcome Y) → both make o s ≡ both_then o s (λ x y. Good (make x y))
both-then make (Good x) (Good y) = refl
both-then make (Good x) (Bad g) = refl
both-then make (Bad f) (Good y) = refl
both-then make (Bad f) (Bad g) = refl

same_good : {X : Type 0} {x y : X} → Good x ≡ Good y → x ≡ y
same_good e = cc

-- ---- first columns, and those behind them

module _ {X : Type 0} (other : X) (u f : List X) (n : ℕ) (first : length u ≡ n) where
  front : map (λ place. slice_index_or (u ++ f) place other) (range_with_len 0 n) ≡ u
  front = ap (λ count. map (λ place. slice_index_or (u ++ f) place other) (range_with_len 0 count)) (sym first) ∙ between other [] u f 0 refl

  rest : (width : ℕ) → length (u ++ f) ≡ width → map (λ place. slice_index_or (u ++ f) place other) (range_with_len n (width - n)) ≡ f
  rest width e =
      let count : width - n ≡ length f = omega (arith, length-append u f) in
      ap (λ count. map (λ place. slice_index_or (u ++ f) place other) (range_with_len n count)) count ∙ behind other u f n first

-- a row of so many columns, the first of them so many, with NULLs behind those
abbrev row_behind : ℕ → ℕ → List Kind → Row → Row
row_behind width first [] = λ row. row
row_behind width first (kind ∷ kinds) = padded_row (range_with_len 0 first) (length (kind ∷ kinds)) (range_with_len first (width - first))

padded-is : (u f : Row) (n width : ℕ) (kinds : List Kind) → length u ≡ n → length (u ++ f) ≡ width → row_behind width n kinds (u ++ f) ≡ u ++ nulls (length kinds) ++ f
padded-is u f n width [] first whole = ap (λ row. row ++ f) (sym (append-nil u))
padded-is u f n width (kind ∷ kinds) first whole = λ i. front Null u f n first i ++ nulls (length (kind ∷ kinds)) ++ rest Null u f n first width whole i

padded-kinds : (q : Query) (own more : List Kind) (n : ℕ) (kinds : List Kind) → kinds_of q ≡ own ++ more → length own ≡ n →
    kinds_of (padded_behind q n kinds) ≡ own ++ kinds ++ more
padded-kinds q own more n [] e first = e ∙ ap (λ own. own ++ more) (sym (append-nil own))
padded-kinds q own more n (kind ∷ kinds) e first =
    kinds_of-padded q (range_with_len 0 n) (kind ∷ kinds) (range_with_len n (width_of q - n))
    ∙ (λ i. kinds_in (e i) (range_with_len 0 n) ++ (kind ∷ kinds) ++ kinds_in (e i) (range_with_len n (length (e i) - n)))
    ∙ (λ i. front Text own more n first i ++ (kind ∷ kinds) ++ rest Text own more n first (length (own ++ more)) refl i)

padded-plain : (q : Query) (n : ℕ) (kinds : List Kind) → is_plain (padded_behind q n kinds) ≡ is_plain q
padded-plain q n [] = refl
padded-plain q n (kind ∷ kinds) = plain-projected q (items_behind q n (kind ∷ kinds))

padded-tables : (P : ℕ → List Kind → Type 0) (q : Query) (n : ℕ) (kinds : List Kind) → EachTable P q → EachTable P (padded_behind q n kinds)
padded-tables P q n [] each = each
padded-tables P q n (kind ∷ kinds) each = (each, tt)

padded-formed : (outer : List (List Kind)) (q : Query) (n : ℕ) (kinds : List Kind) → n ≤ width_of q → WellFormed outer q → WellFormed outer (padded_behind q n kinds)
padded-formed outer q n [] within formed = formed
padded-formed outer q n (kind ∷ kinds) within formed =
    formed-padded q (range_with_len 0 n) (kind ∷ kinds) (range_with_len n (width_of q - n)) (within-range (width_of q) 0 n (omega arith))
    (within-range (width_of q) n (width_of q - n) (omega arith)) outer formed

padded-meaning : (db : Database) (env : List Row) (q : Query) (n : ℕ) (kinds : List Kind) →
    meaning (padded_behind q n kinds) db env ≡ mapped (map (row_behind (width_of q) n kinds)) (meaning q db env)
padded-meaning db env q n [] = same (meaning q db env) where
  same : (o : Outcome Bag) → o ≡ mapped (map (λ row. row)) o
  same (Good bag) = ap Good (sym (map-id bag))
  same (Bad faults) = refl
padded-meaning db env q n (kind ∷ kinds) = meaning-padded q (range_with_len 0 n) (kind ∷ kinds) (range_with_len n (width_of q - n)) db env

module _ (q r : Query) (given : IsRewrite q r) (outer : List (List Kind)) (formed : WellFormed outer q) where
  provenance-are : provenance_kinds q r ≡ place_kinds (shape q)
  provenance-are =
      (λ i. kinds_in (given.kinds outer formed i) (range_with_len (width_of q) (width-provenance q r given outer formed i)))
      ∙ behind Text (kinds_of q) (place_kinds (shape q)) (width_of q) refl

module _ (all : Bool) (left left_rewriting right right_rewriting : Query) (left_given : IsRewrite left left_rewriting) (right_given : IsRewrite right right_rewriting) where
  abbrev node : Query
  node = UnionOf all left right

  abbrev left_side : Query
  left_side = padded_behind left_rewriting (width_of left_rewriting) (provenance_kinds right right_rewriting)

  abbrev right_side : Query
  right_side = padded_behind right_rewriting (width_of right) (provenance_kinds left left_rewriting)

  abbrev pub rewriting : Query
  rewriting = UnionOf true left_side right_side

  module _ (outer : List (List Kind)) (formed : WellFormed outer node) where
    left_added : provenance_kinds left left_rewriting ≡ place_kinds (shape left)
    left_added = provenance-are left left_rewriting left_given outer formed.left_side

    right_added : provenance_kinds right right_rewriting ≡ place_kinds (shape right)
    right_added = provenance-are right right_rewriting right_given outer formed.right_side

    left-kinds : kinds_of left_side ≡ (kinds_of left ++ place_kinds (shape left)) ++ place_kinds (shape right)
    left-kinds =
        padded-kinds left_rewriting (kinds_of left_rewriting) [] (width_of left_rewriting) (provenance_kinds right right_rewriting) (sym (append-nil (kinds_of left_rewriting))) refl
        ∙ append-nil (kinds_of left_rewriting ++ provenance_kinds right right_rewriting)
        ∙ (λ i. left_given.kinds outer formed.left_side i ++ right_added i)

    right-kinds : kinds_of right_side ≡ (kinds_of left ++ place_kinds (shape left)) ++ place_kinds (shape right)
    right-kinds =
        padded-kinds right_rewriting (kinds_of right) (place_kinds (shape right)) (width_of right) (provenance_kinds left left_rewriting) (right_given.kinds outer formed.right_side) refl
        ∙ (λ i. sym formed.same_kinds i ++ left_added i ++ place_kinds (shape right))

    kinds-rewriting : kinds_of rewriting ≡ kinds_of node ++ place_kinds (shape node)
    kinds-rewriting =
        left-kinds ∙ append_assoc (kinds_of left) (place_kinds (shape left)) (place_kinds (shape right))
        ∙ ap (λ kinds. kinds_of left ++ kinds) (sym (place_kinds-append (shape left) (shape right)))

    formed-rewriting : WellFormed outer rewriting
    formed-rewriting =
        let longer = width-rewriting right right_rewriting right_given outer formed.right_side in
        record {
          left_side = padded-formed outer left_rewriting (width_of left_rewriting) (provenance_kinds right right_rewriting) (omega arith) (left_given.formed outer formed.left_side);
          right_side = padded-formed outer right_rewriting (width_of right) (provenance_kinds left left_rewriting) (omega arith) (right_given.formed outer formed.right_side);
          same_kinds = left-kinds ∙ sym right-kinds;
        }

    module _ (db : Database) (env : List Row) (tables : TablesFit db node) (fitting : env_fits env outer ≡ true) where
      left-fits : Fitting outer left db env
      left-fits = record { formed = formed.left_side; tables = tables.0; outer_rows = fitting }

      right-fits : Fitting outer right db env
      right-fits = record { formed = formed.right_side; tables = tables.1; outer_rows = fitting }

      listed : (t : Row) (w : Witness) → Contains (witnesses node db env t) w ↔ (InAnswer node db env t × UnionList left right db env t w)
      listed t w =
          subst (λ n. Contains (witnesses n db env t) w ↔ (InAnswer n db env t × UnionList left right db env t w)) (Union-is all left right)
          (union-lists db env t w left right all)

      abbrev pad_left : Row → Row
      pad_left = row_behind (width_of left_rewriting) (width_of left_rewriting) (provenance_kinds right right_rewriting)

      abbrev pad_right : Row → Row
      pad_right = row_behind (width_of right_rewriting) (width_of right) (provenance_kinds left left_rewriting)

      meaning-node : meaning node db env ≡ both_then (meaning left db env) (meaning right db env) (λ us vs. Good (union_of all us vs))
      meaning-node = rows-with_lists _ _ ∙ both-then (union_of all) (meaning left db env) (meaning right db env)

      meaning-rewriting : meaning rewriting db env ≡ both_then (meaning left_rewriting db env) (meaning right_rewriting db env) (λ xs ys. Good (map pad_left xs ++ map pad_right ys))
      meaning-rewriting =
          rows-with_lists _ _
          ∙ (λ i. both (union_of true) (padded-meaning db env left_rewriting (width_of left_rewriting) (provenance_kinds right right_rewriting) i)
          (padded-meaning db env right_rewriting (width_of right) (provenance_kinds left left_rewriting) i))
          ∙ both-of_mapped (union_of true) (map pad_left) (map pad_right) (meaning left_rewriting db env) (meaning right_rewriting db env)

      module _ (us xs vs ys : Bag) (left_good : meaning left db env ≡ Good us) (right_good : meaning right db env ≡ Good vs)
          (b : Beside (witnesses left db env) us xs) (d : Beside (witnesses right db env) vs ys) where
        left-padded : (u : Row) (l : Witness) → IsIn u us → Contains (witnesses left db env u) l → pad_left (u ++ flat l) ≡ u ++ flat (l ++ all_empty (shape right))
        left-padded u l i c =
            let row : length (u ++ flat l) ≡ width_of left_rewriting =
            length-append u (flat l) ∙ (λ k. row-width outer left db env left-fits us left_good u i k + list-width outer left db env left-fits u l c k)
            ∙ sym (width-rewriting left left_rewriting left_given outer formed.left_side) in
            ap pad_left (sym (append-nil (u ++ flat l)))
            ∙ padded-is (u ++ flat l) [] (width_of left_rewriting) (width_of left_rewriting) (provenance_kinds right right_rewriting) row (ap length (append-nil (u ++ flat l)) ∙ row)
            ∙ append-nil ((u ++ flat l) ++ nulls (length (provenance_kinds right right_rewriting)))
            ∙ append_assoc u (flat l) (nulls (length (provenance_kinds right right_rewriting)))
            ∙ ap (λ kinds. u ++ (flat l ++ nulls (length kinds))) right_added
            ∙ ap (λ more. u ++ (flat l ++ more)) (sym (flat-all_empty (shape right)))
            ∙ ap (λ more. u ++ more) (sym (flat-append l (all_empty (shape right))))

        right-padded : (v : Row) (r : Witness) → IsIn v vs → Contains (witnesses right db env v) r → pad_right (v ++ flat r) ≡ v ++ flat (all_empty (shape left) ++ r)
        right-padded v r i c =
            let row : length (v ++ flat r) ≡ width_of right_rewriting =
            length-append v (flat r) ∙ (λ k. row-width outer right db env right-fits vs right_good v i k + list-width outer right db env right-fits v r c k)
            ∙ sym (width-rewriting right right_rewriting right_given outer formed.right_side) in
            padded-is v (flat r) (width_of right) (width_of right_rewriting) (provenance_kinds left left_rewriting) (row-width outer right db env right-fits vs right_good v i) row
            ∙ ap (λ kinds. v ++ nulls (length kinds) ++ flat r) left_added
            ∙ ap (λ first. v ++ first ++ flat r) (sym (flat-all_empty (shape left)))
            ∙ append_assoc v (flat (all_empty (shape left))) (flat r)
            ∙ ap (λ more. v ++ more) (sym (flat-append (all_empty (shape left)) r))

        abbrev lefts : Flattened (witnesses left db env) us xs
        lefts = flattened (witnesses left db env) us xs b

        abbrev rights : Flattened (witnesses right db env) vs ys
        rights = flattened (witnesses right db env) vs ys d

        -- a row with a list is in its answer
        left_in : (t : Row) (l : Witness) → Contains (witnesses left db env t) l → IsIn t us
        left_in t l c = subst (λ o. IsIn t (good_rows o)) left_good ((only_rows left db env).row t l (in-from_contains l (witnesses left db env t) c))

        right_in : (t : Row) (r : Witness) → Contains (witnesses right db env t) r → IsIn t vs
        right_in t r c = subst (λ o. IsIn t (good_rows o)) right_good ((only_rows right db env).row t r (in-from_contains r (witnesses right db env t) c))

        there : (t : Row) (w : Witness) → UnionList left right db env t w → IsIn (t ++ flat w) (map pad_left xs ++ map pad_right ys)
        there t w (from_left l c e) =
            let i = left_in t l c in
            in-append_left (t ++ flat w) (map pad_left xs) (map pad_right ys)
            (subst (λ z. IsIn z (map pad_left xs)) (left-padded t l i c ∙ ap (λ w. t ++ flat w) e) (in-map pad_left (t ++ flat l) xs (lefts.there t l i c)))
        there t w (from_right r c e) =
            let i = right_in t r c in
            in-append_right (t ++ flat w) (map pad_left xs) (map pad_right ys)
            (subst (λ z. IsIn z (map pad_right ys)) (right-padded t r i c ∙ ap (λ w. t ++ flat w) e) (in-map pad_right (t ++ flat r) ys (rights.there t r i c)))

        answer : (t : Row) → IsIn t (union_of all us vs) → InAnswer node db env t
        answer t i =
            record { bag = union_of all us vs; good = meaning-node ∙ (λ k. both_then (left_good k) (right_good k) (λ us vs. Good (union_of all us vs))); row = in-member t (union_of all us vs) i }

        back : (z : Row) → IsIn z (map pad_left xs ++ map pad_right ys) → (t : Row) × (w : Witness) × IsIn t (union_of all us vs) × Contains (witnesses node db env t) w × (t ++ flat w ≡ z)
        back z h = elim (from-append z (map pad_left xs) (map pad_right ys) h) [
          | inl g ↦
              let origin = from-map pad_left z xs g in
              let row = lefts.back origin.0 origin.1 in
              let here = in-union all row.0 us vs (inl row.2) in (
                row.0,
                row.1 ++ all_empty (shape right),
                here,
                (listed row.0 (row.1 ++ all_empty (shape right))).1 (answer row.0 here, from_left row.1 row.3 refl),
                sym (left-padded row.0 row.1 row.2 row.3) ∙ ap pad_left row.4 ∙ origin.2,
              )
          | inr g ↦
              let origin = from-map pad_right z ys g in
              let row = rights.back origin.0 origin.1 in
              let here = in-union all row.0 us vs (inr row.2) in (
                row.0,
                all_empty (shape left) ++ row.1,
                here,
                (listed row.0 (all_empty (shape left) ++ row.1)).1 (answer row.0 here, from_right row.1 row.3 refl),
                sym (right-padded row.0 row.1 row.2 row.3) ∙ ap pad_right row.4 ∙ origin.2,
              )
        ]

        rows : Flattened (witnesses node db env) (union_of all us vs) (map pad_left xs ++ map pad_right ys)
        rows = record { there = λ t w i c. there t w ((listed t w).0 c).1; back = back }

        made : Made node rewriting db env (Good (union_of all us vs)) (Good (map pad_left xs ++ map pad_right ys))
        made = record {
          faults = tt;
          rows = λ ts zs e f. subst₂ (Flattened (witnesses node db env)) (same_good e) (same_good f) rows;
        }

      same_rows : SameSet (meaning (ProvOf node) db env) (meaning rewriting db env)
      same_rows =
          rows-from_beside node rewriting db env
          (rewritten-over_both node rewriting db env left left_rewriting right right_rewriting (λ us vs. Good (union_of all us vs)) (λ xs ys. Good (map pad_left xs ++ map pad_right ys))
          meaning-node meaning-rewriting (beside-from_rewrite left left_rewriting db env left_given outer formed.left_side tables.0 fitting)
          (beside-from_rewrite right right_rewriting db env right_given outer formed.right_side tables.1 fitting) made)

  rewrite-UnionOf : IsRewrite node rewriting
  rewrite-UnionOf = record {
    plain = both-true _ _ (padded-plain left_rewriting (width_of left_rewriting) (provenance_kinds right right_rewriting) ∙ left_given.plain)
        (padded-plain right_rewriting (width_of right) (provenance_kinds left left_rewriting) ∙ right_given.plain);
    kinds = λ outer formed. kinds-rewriting outer formed;
    formed = λ outer formed. formed-rewriting outer formed;
    tables = (
      padded-tables _ left_rewriting (width_of left_rewriting) (provenance_kinds right right_rewriting)
          (each_table-kept _ _ (λ id kinds h. Contains-append_left (tables_read left) (tables_read right) _ h) left_rewriting left_given.tables),
      padded-tables _ right_rewriting (width_of right) (provenance_kinds left left_rewriting)
          (each_table-kept _ _ (λ id kinds h. Contains-append_right (tables_read left) (tables_read right) _ h) right_rewriting right_given.tables),
    );
    rows = λ outer db env formed tables fitting. same_rows outer formed db env tables fitting;
  }

  pub rewrite-Union : IsRewrite (Union all left right) rewriting
  rewrite-Union = subst (λ n. IsRewrite n rewriting) (sym (Union-is all left right)) rewrite-UnionOf
