-- The pairs with the rows of a side that stand in none of them: their form, their faults, and which rows they are.
use Rattle.std.proofs.Common.{◌≡◌, ◌⊎◌, inl, inr, ℕ, ◌+◌, true, not, cond, List, [], ◌∷◌, ◌++◌, map, length, refl, sym, ap, ◌∙◌, subst, length-append, true≢false}
use Rattle.std.specs.Prelude.{⊤}
use Rattle.std.specs.List.{list_any, range_with_len}
use Rattle.perm_values.specs.Rows.{picked, same_row}
use Rattle.perm_values.specs.ValueLaws.{row_decides}
use Rattle.perm_values.specs.declared.kind.Kind.{Kind}
use Rattle.perm_values.specs.declared.kind.Kind.TheVariants as kind
use Rattle.perm_values.specs.declared.value.Value.{Value}
use Rattle.perm_values.specs.declared.value.Value.TheVariants.{Boolean, Null}
use Rattle.bag_algebra.proofs.Members.{IsIn, from-filter, from-map, in-filter, in-map}
use Rattle.bag_algebra.proofs.TruthValues.{holds-boolean}
use Rattle.bag_algebra.proofs.Truths.{both-true, left-true, right-true}
use Rattle.bag_algebra.specs.Bags.{Row, Bag, nulls, once}
use Rattle.bag_algebra.specs.built.Openings.{rows-with_lists}
use Rattle.bag_algebra.specs.built.Patterns.{DistinctOf}
use Rattle.bag_algebra.specs.ColumnItems.{column_items}
use Rattle.bag_algebra.specs.Kinds.{kinds_in, kinds_of, width_of}
use Rattle.bag_algebra.specs.Meaning.{Database, meaning, condition_on}
use Rattle.bag_algebra.specs.Means.{good_rows, is_met, joined_rows, keeps_left, keeps_right, kept, no_subs, unmatched_left, unmatched_right, holds_of}
use Rattle.bag_algebra.specs.Outcome.{Faults, Outcome, Good, Bad, both, both_then, gather, mapped}
use Rattle.bag_algebra.specs.Rewriting.{is_plain}
use Rattle.bag_algebra.specs.TablesRead.{EachTable}
use Rattle.bag_algebra.specs.WellFormed.{WellFormed}
use Rattle.bag_algebra.specs.declared.query.JoinKind.TheVariants.{Left}
use Rattle.bag_algebra.specs.declared.query.Query.{Query}
use Rattle.contribution.proofs.BagMembers.{from-once, in-once}
use Rattle.contribution.proofs.ColumnQueries.{formed-columns, kinds_of-columns, meaning-columns}
use Rattle.contribution.proofs.JoinMembers.{in-joined_rows}
use Rattle.contribution.proofs.NodeQueries.{formed-pairs, meaning-pairs, plain-pairs, plain-projected}
use Rattle.contribution.proofs.NoRowLost.{Joined, pair, left_alone, right_alone, from-joined_rows}
use Rattle.contribution.proofs.SameTests.{conjunction-formed, tests-value}
use Rattle.contribution.proofs.SetsOfRows.{Included}
use Rattle.query_laws.proofs.Joined.{same_parts, length-nulls}
use Rattle.query_laws.proofs.PairedLists.{none-pass, none_passes}
use Rattle.rewrite_core.proofs.KeptRows.{nulls-append}
use Rattle.rewrite_sublink.proofs.joins.PairColumns.{Widths, arranged, as_many, five, length-five, pair-columns, pair-within, pair_width, part-within, row-columns, row-within}
use Rattle.rewrite_sublink.specs.joins.ByParts.{columns_of_pair, is_part, marked, places_in_pair, row_width, with_alone}
use Rattle.rewrite_sublink.specs.declared.joins.sides.Side.{Side}

-- ---- the words

-- the first set has no fault that isn't in the second
abbrev pub Within : Faults → Outcome Bag → Type 0
Within f (Good bag) = ⊤
Within f (Bad g) = Included g f

-- a row of the side's rewriting: its own columns, and its provenance
pub record RowParts (side : Side) (x : Row) : Type 0 where
  pub own : Row
  pub added : Row
  pub own_is : length own ≡ side.own
  pub added_is : length added ≡ side.added
  pub whole : own ++ added ≡ x

-- a pair, of which a row of the side is a part
pub record PairParts (side : Side) (xs : Bag) (z : Row) : Type 0 where
  pub before : Row
  pub own : Row
  pub between : Row
  pub added : Row
  pub behind : Row
  pub widths : Widths side before own between added behind
  pub whole : five before own between added behind ≡ z
  pub part : IsIn (own ++ added) xs

-- the row beside NULLs
abbrev pub blanked : Side → (own added : Row) → Row
blanked side own added = five (nulls side.before) own (nulls side.between) added (nulls side.behind)

-- a row of the side that is a part of no pair, beside NULLs
pub record IsAlone (side : Side) (xs zs : Bag) (y : Row) : Type 0 where
  pub own : Row
  pub added : Row
  pub own_is : length own ≡ side.own
  pub added_is : length added ≡ side.added
  pub row : IsIn (own ++ added) xs
  pub unpaired : (before between behind : Row) → Widths side before own between added behind → IsIn (five before own between added behind) zs → ⊥
  pub whole : blanked side own added ≡ y

-- ---- rows

-- rows of two parts are the same where the parts are
pub parts_same : (u v w x : Row) → length u ≡ length w → u ++ v ≡ w ++ x → (u ≡ w) × (v ≡ x)
parts_same u v w x long e =
    let both = sym (same_parts u w v x long) ∙ (row_decides (u ++ v) (w ++ x)).1 e in
    ((row_decides u w).0 (left-true (same_row u w) (same_row v x) both), (row_decides v x).0 (right-true (same_row u w) (same_row v x) both))

nulls-of_parts : (side : Side) → nulls (pair_width side) ≡ five (nulls side.before) (nulls side.own) (nulls side.between) (nulls side.added) (nulls side.behind)
nulls-of_parts side =
    nulls-append (side.before + side.own + side.between + side.added) side.behind
    ∙ (λ i. (nulls-append (side.before + side.own + side.between) side.added
    ∙ (λ j. (nulls-append (side.before + side.own) side.between
    ∙ (λ k. nulls-append side.before side.own k ++ nulls side.between)) j ++ nulls side.added)) i ++ nulls side.behind)

nulls-widths : (side : Side) → Widths side (nulls side.before) (nulls side.own) (nulls side.between) (nulls side.added) (nulls side.behind)
nulls-widths side = record {
  before_is = length-nulls side.before;
  own_is = length-nulls side.own;
  between_is = length-nulls side.between;
  added_is = length-nulls side.added;
  behind_is = length-nulls side.behind;
}

gather-good : {X Y : Type 0} (f : X → Outcome (List Y)) → ((x : X) → (ys : List Y) × (f x ≡ Good ys)) → (xs : List X) → (all : List Y) × (gather f xs ≡ Good all)
gather-good f good [] = ([], refl)
gather-good f good (x ∷ xs) =
    let first = good x in
    let rest = gather-good f good xs in
    (first.0 ++ rest.0, λ i. both (λ ys zs. ys ++ zs) (first.1 i) (rest.1 i))

module _ (side : Side) (rewriting pairs : Query) where
  abbrev rows : Query
  rows = marked side rewriting pairs

  abbrev order : List ℕ
  order = columns_of_pair side

  abbrev firsts : List ℕ
  firsts = range_with_len 0 (row_width side)

  abbrev others : List ℕ
  others = places_in_pair (row_width side) side

  pub plain-alone : is_plain rewriting ≡ true → is_plain pairs ≡ true → is_plain (with_alone side rewriting pairs) ≡ true
  plain-alone row_plain pair_plain =
      plain-projected rows (column_items (kinds_of rows) order)
      ∙ plain-pairs Left (DistinctOf rewriting) pairs (is_part side)
      ∙ both-true _ _ row_plain pair_plain

  pub tables-alone : (P : ℕ → List Kind → Type 0) → EachTable P rewriting → EachTable P pairs → EachTable P (with_alone side rewriting pairs)
  tables-alone P of_row of_pair = ((of_row, of_pair, tt), tt)

  -- ---- kinds

  module _ (a o b g c : List Kind) (w : Widths side a o b g c) (row_kinds : kinds_of rewriting ≡ o ++ g) (pair_kinds : kinds_of pairs ≡ five a o b g c) where
    pub kinds-alone : kinds_of (with_alone side rewriting pairs) ≡ kinds_of pairs
    kinds-alone =
        kinds_of-columns rows order
        ∙ (λ i. kinds_in (row_kinds i ++ pair_kinds i) order)
        ∙ arranged kind.Text side o g a o b g c w.own_is w.added_is w
        ∙ sym pair_kinds

    wide : length (kinds_of rewriting ++ kinds_of pairs) ≡ row_width side + pair_width side
    wide =
        length-append (kinds_of rewriting) (kinds_of pairs)
        ∙ (λ i. (ap length row_kinds ∙ length-append o g ∙ (λ j. w.own_is j + w.added_is j)) i + (ap length pair_kinds ∙ length-five side a o b g c w) i)

    same-kinds : kinds_in (kinds_of rewriting ++ kinds_of pairs) firsts ≡ kinds_in (kinds_of rewriting ++ kinds_of pairs) others
    same-kinds =
        (λ i. kinds_in (row_kinds i ++ pair_kinds i) firsts)
        ∙ row-columns kind.Text side o g a o b g c w.own_is w.added_is w
        ∙ sym (pair-columns kind.Text side o g a o b g c w.own_is w.added_is w)
        ∙ (λ i. kinds_in (sym row_kinds i ++ sym pair_kinds i) others)

    pub formed-alone : (outer : List (List Kind)) → WellFormed outer rewriting → WellFormed outer pairs → WellFormed outer (with_alone side rewriting pairs)
    formed-alone outer row_formed pair_formed =
        let kinds = kinds_of rewriting ++ kinds_of pairs in
        formed-columns rows order (pair-within side (length kinds) wide) outer
        (formed-pairs Left (DistinctOf rewriting) pairs (is_part side) outer row_formed pair_formed
        (conjunction-formed kinds outer [] 0 kinds refl firsts others (row-within side (length kinds) wide) (part-within side (length kinds) wide) same-kinds))

  module _ (db : Database) (env : List Row) where
    abbrev on : Row → Outcome Value
    on = condition_on (is_part side) env no_subs

    abbrev joined : Bag → Bag → Outcome Bag
    joined = joined_rows Left on (width_of rewriting) (width_of pairs)

    meaning-once : meaning (DistinctOf rewriting) db env ≡ mapped once (meaning rewriting db env)
    meaning-once = rows-with_lists _ _

    meaning-alone : meaning (with_alone side rewriting pairs) db env ≡
        mapped (map (picked order)) (both_then (mapped once (meaning rewriting db env)) (meaning pairs db env) joined)
    meaning-alone =
        meaning-columns rows order db env
        ∙ ap (mapped (map (picked order))) (meaning-pairs Left (DistinctOf rewriting) pairs (is_part side) db env
        ∙ ap (λ o. both_then o (meaning pairs db env) joined) meaning-once)

    -- ---- faults

    pub bad-alone : (f : Faults) → meaning pairs db env ≡ Bad f → Within f (meaning rewriting db env) → meaning (with_alone side rewriting pairs) db env ≡ Bad f
    bad-alone f bad within =
        meaning-alone
        ∙ ap (λ o. mapped (map (picked order)) (both_then (mapped once (meaning rewriting db env)) o joined)) bad
        ∙ by_rows (meaning rewriting db env) within
      where
        by_rows : (o : Outcome Bag) → Within f o → mapped (map (picked order)) (both_then (mapped once o) (Bad f) joined) ≡ Bad f
        by_rows (Good xs) within = refl
        by_rows (Bad g) within = ap (λ faults. Bad faults) within.whole

    -- ---- rows

    on-is : (u : Row) → on u ≡ Good (Boolean (same_row (picked firsts u) (picked others u)))
    on-is u = tests-value u env [] 0 firsts others (as_many side)

    met-where : (u : Row) → is_met (on u) ≡ same_row (picked firsts u) (picked others u)
    met-where u = ap is_met (on-is u) ∙ holds-boolean (same_row (picked firsts u) (picked others u))

    joined-good : (xs zs : Bag) → (bag : Bag) × (joined xs zs ≡ Good bag)
    joined-good xs zs =
        let kept-good : (u : Row) → (bag : Bag) × (kept on u ≡ Good bag) = λ u. (_, ap (mapped (λ v. cond (holds_of v) (u ∷ []) [])) (on-is u)) in
        let found = gather-good (λ x. gather (λ z. kept on (x ++ z)) zs) (λ x. gather-good (λ z. kept on (x ++ z)) (λ z. kept-good (x ++ z)) zs) xs in (
          _,
          ap (mapped (λ found. found
              ++ cond (keeps_left Left) (map (λ x. x ++ nulls (width_of pairs)) (unmatched_left on xs zs)) []
              ++ cond (keeps_right Left) (map (λ z. nulls (width_of rewriting) ++ z) (unmatched_right on xs zs)) [])) found.1,
        )

    module _ (o g a p b h c : Row) (own_is : length o ≡ side.own) (added_is : length g ≡ side.added) (w : Widths side a p b h c) where
      -- whether the row is the side's part of the pair
      met-parts : is_met (on ((o ++ g) ++ five a p b h c)) ≡ same_row (o ++ g) (p ++ h)
      met-parts =
          met-where ((o ++ g) ++ five a p b h c)
          ∙ (λ i. same_row (row-columns Null side o g a p b h c own_is added_is w i) (pair-columns Null side o g a p b h c own_is added_is w i))

      moved : picked order ((o ++ g) ++ five a p b h c) ≡ five a o b g c
      moved = arranged Null side o g a p b h c own_is added_is w

    module _ (xs zs : Bag) (wide : width_of pairs ≡ pair_width side) (row_parts : (x : Row) → IsIn x xs → RowParts side x)
        (pair_parts : (z : Row) → IsIn z zs → PairParts side xs z) where
      -- the rows, as they are
      pub record AllRows (bag : Bag) : Type 0 where
        pub paired : (z : Row) → IsIn z zs → IsIn z bag
        pub alone : (y : Row) → IsAlone side xs zs y → IsIn y bag
        pub back : (y : Row) → IsIn y bag → IsIn y zs ⊎ IsAlone side xs zs y

      blank-moved : (o g : Row) → length o ≡ side.own → length g ≡ side.added → picked order ((o ++ g) ++ nulls (width_of pairs)) ≡ blanked side o g
      blank-moved o g own_is added_is =
          ap (λ row. picked order ((o ++ g) ++ row)) (ap nulls wide ∙ nulls-of_parts side)
          ∙ moved o g (nulls side.before) (nulls side.own) (nulls side.between) (nulls side.added) (nulls side.behind) own_is added_is (nulls-widths side)

      module _ (found : Bag) (is_found : joined (once xs) zs ≡ Good found) where
        in_found : (j : Row) → Joined Left on (width_of rewriting) (width_of pairs) (once xs) zs j → IsIn (picked order j) (map (picked order) found)
        in_found j h =
            in-map (picked order) j found (in-joined_rows on (once xs) zs j Left (width_of rewriting) (width_of pairs) found is_found h)

        there-paired : (z : Row) → IsIn z zs → IsIn z (map (picked order) found)
        there-paired z i =
            let k = pair_parts z i in
            let row = k.own ++ k.added in
            let met : is_met (on (row ++ z)) ≡ true =
            ap (λ z. is_met (on (row ++ z))) (sym k.whole)
            ∙ met-parts k.own k.added k.before k.own k.between k.added k.behind k.widths.own_is k.widths.added_is k.widths
            ∙ (row_decides row row).1 refl in
            let is : picked order (row ++ z) ≡ z =
            ap (λ z. picked order (row ++ z)) (sym k.whole)
            ∙ moved k.own k.added k.before k.own k.between k.added k.behind k.widths.own_is k.widths.added_is k.widths
            ∙ k.whole in
            subst (λ y. IsIn y (map (picked order) found)) is
            (in_found (row ++ z) (pair (record { left = row; right = z; in_left = in-once row xs k.part; in_right = i; makes = refl; met = met })))

        there-alone : (y : Row) → IsAlone side xs zs y → IsIn y (map (picked order) found)
        there-alone y k =
            let row = k.own ++ k.added in
            let none : (z : Row) → IsIn z zs → is_met (on (row ++ z)) ≡ true → ⊥ = λ z i met.
            let q = pair_parts z i in
            let same = parts_same k.own k.added q.own q.added (k.own_is ∙ sym q.widths.own_is) ((row_decides row (q.own ++ q.added)).0
            (sym (met-parts k.own k.added q.before q.own q.between q.added q.behind k.own_is k.added_is q.widths)
            ∙ ap (λ z. is_met (on (row ++ z))) q.whole ∙ met)) in
            k.unpaired q.before q.between q.behind
            (record {
              before_is = q.widths.before_is;
              own_is = k.own_is;
              between_is = q.widths.between_is;
              added_is = k.added_is;
              behind_is = q.widths.behind_is;
            })
            (subst (λ z. IsIn z zs) (sym q.whole ∙ (λ i. five q.before (sym same.0 i) q.between (sym same.1 i) q.behind)) i) in
            subst (λ y. IsIn y (map (picked order) found)) (blank-moved k.own k.added k.own_is k.added_is ∙ k.whole)
            (in_found (row ++ nulls (width_of pairs))
            (left_alone refl row
            (in-filter (λ x. not (list_any (λ z. is_met (on (x ++ z))) zs)) row (once xs) (in-once row xs k.row)
            (none-pass (λ z. is_met (on (row ++ z))) zs none)) refl))

        from-joined : (j : Row) → Joined Left on (width_of rewriting) (width_of pairs) (once xs) zs j → IsIn (picked order j) zs ⊎ IsAlone side xs zs (picked order j)
        from-joined j (pair m) =
            let r = row_parts m.left (from-once m.left xs m.in_left) in
            let q = pair_parts m.right m.in_right in
            let is : (r.own ++ r.added) ++ five q.before q.own q.between q.added q.behind ≡ m.left ++ m.right = λ i. r.whole i ++ q.whole i in
            let same = parts_same r.own r.added q.own q.added (r.own_is ∙ sym q.widths.own_is) ((row_decides (r.own ++ r.added) (q.own ++ q.added)).0
            (sym (met-parts r.own r.added q.before q.own q.between q.added q.behind r.own_is r.added_is q.widths)
            ∙ ap (λ j. is_met (on j)) is ∙ m.met)) in
            let made : m.right ≡ picked order j =
            sym q.whole
            ∙ (λ i. five q.before (sym same.0 i) q.between (sym same.1 i) q.behind)
            ∙ sym (moved r.own r.added q.before q.own q.between q.added q.behind r.own_is r.added_is q.widths)
            ∙ ap (picked order) (is ∙ m.makes) in
            inl (subst (λ z. IsIn z zs) made m.in_right)
        from-joined j (left_alone keeps x here makes) =
            let kept_row = from-filter (λ x. not (list_any (λ z. is_met (on (x ++ z))) zs)) x (once xs) here in
            let r = row_parts x (from-once x xs kept_row.0) in
            inr (record {
              own = r.own;
              added = r.added;
              own_is = r.own_is;
              added_is = r.added_is;
              row = subst (λ x. IsIn x xs) (sym r.whole) (from-once x xs kept_row.0);
              unpaired = λ before between behind w i.
                  none_passes (λ z. is_met (on (x ++ z))) (five before r.own between r.added behind) zs kept_row.1 i
                  (ap (λ x. is_met (on (x ++ five before r.own between r.added behind))) (sym r.whole)
                  ∙ met-parts r.own r.added before r.own between r.added behind r.own_is r.added_is w
                  ∙ (row_decides (r.own ++ r.added) (r.own ++ r.added)).1 refl);
              whole =
                  sym (blank-moved r.own r.added r.own_is r.added_is)
                  ∙ ap (λ x. picked order (x ++ nulls (width_of pairs))) r.whole
                  ∙ ap (picked order) makes;
            })
        from-joined j (right_alone keeps y here makes) = absurd (true≢false (sym keeps))

        back-found : (y : Row) → IsIn y (map (picked order) found) → IsIn y zs ⊎ IsAlone side xs zs y
        back-found y i =
            let origin = from-map (picked order) y found i in
            subst (λ y. IsIn y zs ⊎ IsAlone side xs zs y) origin.2
            (from-joined origin.0 (from-joined_rows Left on (width_of rewriting) (width_of pairs) (once xs) zs origin.0
            (subst (λ o. IsIn origin.0 (good_rows o)) (sym is_found) origin.1)))

      pub good-alone : meaning rewriting db env ≡ Good xs → meaning pairs db env ≡ Good zs →
          (bag : Bag) × (meaning (with_alone side rewriting pairs) db env ≡ Good bag) × AllRows bag
      good-alone rows_good pairs_good =
          let made = joined-good (once xs) zs in (
            map (picked order) made.0,
            meaning-alone
                ∙ (λ i. mapped (map (picked order)) (both_then (mapped once (rows_good i)) (pairs_good i) joined))
                ∙ ap (mapped (map (picked order))) made.1,
            record { paired = there-paired made.0 made.1; alone = there-alone made.0 made.1; back = back-found made.0 made.1 },
          )
