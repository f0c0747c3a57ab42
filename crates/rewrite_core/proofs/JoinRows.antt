-- The join of rewritings on the condition over their columns, with the join's columns before those of provenance, is a
-- rewriting of the join.
use Rattle.std.proofs.Common.{◌≡◌, ◌↔◌, ℕ, ◌+◌, ◌≤◌, Bool, true, not, List, [], ◌∷◌, ◌++◌, map, length, Contains, refl, sym, ap, ◌∙◌, subst, append-nil, arith, length-append}
use Rattle.std.proofs.lemmas.List.Elements.{Contains-append_left, Contains-append_right}
use Rattle.std.specs.List.{list_any}
use Rattle.perm_values.specs.Rows.{picked, PlacesWithin}
use Rattle.perm_values.specs.declared.kind.Kind.{Kind}
use Rattle.perm_values.specs.declared.kind.Kind.TheVariants.{Boolean, Text}
use Rattle.perm_values.specs.declared.value.Value.{Value}
use Rattle.perm_values.specs.declared.value.Value.TheVariants.{Null}
use Rattle.bag_algebra.proofs.Members.{IsIn, in-filter, from-filter, in-map, from-map, in-member}
use Rattle.bag_algebra.proofs.Outcomes.{mapped-is}
use Rattle.bag_algebra.proofs.TablesRead.{each_table-kept}
use Rattle.bag_algebra.proofs.Widths.{place_kinds-append, places_width}
use Rattle.bag_algebra.specs.Bags.{Row, Bag, nulls}
use Rattle.bag_algebra.specs.built.Forms.{Join_alone-is}
use Rattle.bag_algebra.specs.ColumnItems.{column_items}
use Rattle.bag_algebra.specs.Fits.{TablesFit, env_fits}
use Rattle.bag_algebra.specs.Kinds.{kinds_in, kinds_of, place_kinds, shape, width_of}
use Rattle.bag_algebra.specs.Meaning.{Database, meaning, witnesses, condition_on}
use Rattle.bag_algebra.specs.Means.{Witness, all_empty, flat, good_rows, is_met, joined_rows, kept, met_pairs, no_subs, unmatched_left, unmatched_right}
use Rattle.bag_algebra.specs.Outcome.{Outcome, Good, Bad, both_then, gather, mapped}
use Rattle.bag_algebra.specs.built.Patterns.{JoinOf, ProjectOf, ProvOf}
use Rattle.bag_algebra.specs.Rewriting.{IsRewrite, SameSet}
use Rattle.bag_algebra.specs.TablesRead.{tables_read}
use Rattle.bag_algebra.specs.WellFormed.{HasKind, WellFormed}
use Rattle.bag_algebra.specs.declared.expr.Expr.{Expr}
use Rattle.bag_algebra.specs.declared.query.JoinKind.{JoinKind}
use Rattle.bag_algebra.specs.declared.query.Query.{Query, end_of-Sublink}
use Rattle.bag_algebra.specs.declared.query.Query.TheVariants.{Join}
use Rattle.contribution.proofs.JoinMembers.{in-joined_rows}
use Rattle.contribution.proofs.NoRowLost.{Joined, pair, left_alone, right_alone, from-joined_rows}
use Rattle.contribution.specs.Fitting.{Fitting}
use Rattle.contribution.proofs.ColumnQueries.{formed-columns, kinds_of-columns, meaning-columns}
use Rattle.contribution.proofs.NodeQueries.{formed-pairs, meaning-pairs, plain-pairs, plain-projected}
use Rattle.contribution.specs.MovedColumns.{IsMoved}
use Rattle.bag_algebra.proofs.Truths.{both-true}
use Rattle.rewrite_core.proofs.Faults.{SameFaults, kept-alike, gather-bad_alike, mapped-same_faults, same_faults-then}
use Rattle.rewrite_core.proofs.KeptRows.{flat-append, flat-all_empty, nulls-append, list-width}
use Rattle.rewrite_core.proofs.JoinColumns.{all-columns, all-within, own-columns, own-within}
use Rattle.rewrite_core.proofs.FlatRows.{Flattened, flattened, stands_beside}
use Rattle.rewrite_core.proofs.NodeRows.{Made, rewritten-over_both}
use Rattle.rewrite_core.proofs.RowColumns.{row-width, width-rewriting}
use Rattle.rewrite_core.proofs.RuleRows.{beside-from_rewrite, rows-from_beside}
use Rattle.rewrite_core.proofs.Unlinked.{none-contribute}
use Rattle.rewrite_core.specs.JoinColumns.{own_places, added_places, IsLaidOut}
use Rattle.rewrite_core.specs.rewritings.Rewritten.{Beside}
use Rattle.query_laws.proofs.AnswerRows.{answer-in, answer-from}
use Rattle.query_laws.proofs.JoinLists.{join-lists}
use Rattle.query_laws.proofs.Joined.{length-nulls}
use Rattle.query_laws.proofs.PairedLists.{none_passes, none-pass}
use Rattle.query_laws.specs.ListsOfNodes as law
use Rattle.query_laws.specs.SublinkLists.{InAnswer, no_sublink}

mapped-both_then : {X Y Z W : Type 0} (make : Z → W) (o : Outcome X) (s : Outcome Y) (next : X → Y → Outcome Z) →
    mapped make (both_then o s next) ≡ both_then o s (λ x y. mapped make (next x y))
mapped-both_then make (Good x) (Good y) next = refl
mapped-both_then make (Good x) (Bad g) next = refl
mapped-both_then make (Bad f) (Good y) next = refl
mapped-both_then make (Bad f) (Bad g) next = refl

-- a row that meets none on the other side meets none of those beside their lists, and the other way round
module _ (lists : Row → List Witness) (vs ys : Bag) (b : Beside lists vs ys) (meets meets_longer : Row → Bool)
    (same : (v : Row) (r : Witness) → IsIn v vs → Contains (lists v) r → meets_longer (v ++ flat r) ≡ meets v) where
  alone-longer : not (list_any meets vs) ≡ true → not (list_any meets_longer ys) ≡ true
  alone-longer alone = none-pass meets_longer ys (λ y j met.
      let row = (flattened lists vs ys b).back y j in
      none_passes meets row.0 vs alone row.2 (sym (same row.0 row.1 row.2 row.3) ∙ ap meets_longer row.4 ∙ met))

  longer-alone : not (list_any meets_longer ys) ≡ true → not (list_any meets vs) ≡ true
  longer-alone alone = none-pass meets vs (λ v i met.
      let s = stands_beside lists vs ys b v i in
      none_passes meets_longer (v ++ flat s.list) ys alone s.row (same v s.list i s.is_list ∙ met))

module _ (kind : JoinKind) (left left_rewriting right right_rewriting : Query) (condition on : Expr)
    (moved : IsMoved (own_places (width_of left) (width_of left_rewriting) (width_of right)) condition on)
    (left_given : IsRewrite left left_rewriting) (right_given : IsRewrite right right_rewriting) where
  abbrev node : Query
  node = JoinOf kind left right condition [] end_of-Sublink

  abbrev pairs : Query
  pairs = JoinOf kind left_rewriting right_rewriting on [] end_of-Sublink

  abbrev own : List ℕ
  own = own_places (width_of left) (width_of left_rewriting) (width_of right)

  abbrev order : List ℕ
  order = own ++ added_places (width_of left) (width_of left_rewriting) (width_of right) (width_of right_rewriting)

  abbrev rewriting : Query
  rewriting = ProjectOf pairs (column_items (kinds_of pairs) order) [] end_of-Sublink

  module _ (outer : List (List Kind)) (formed : WellFormed outer node) where
    left_kinds : kinds_of left_rewriting ≡ kinds_of left ++ place_kinds (shape left)
    left_kinds = left_given.kinds outer formed.left

    right_kinds : kinds_of right_rewriting ≡ kinds_of right ++ place_kinds (shape right)
    right_kinds = right_given.kinds outer formed.right

    left_longer : width_of left ≤ width_of left_rewriting
    left_longer = let e = width-rewriting left left_rewriting left_given outer formed.left in omega arith

    right_longer : width_of right ≤ width_of right_rewriting
    right_longer = let e = width-rewriting right right_rewriting right_given outer formed.right in omega arith

    kinds-rewriting : kinds_of rewriting ≡ kinds_of node ++ place_kinds (shape node)
    kinds-rewriting =
        kinds_of-columns pairs order
        ∙ (λ i. kinds_in (left_kinds i ++ right_kinds i) order)
        ∙ all-columns Text (kinds_of left) (place_kinds (shape left)) (kinds_of right) (place_kinds (shape right)) (width_of left) (width_of left_rewriting)
        (width_of right) (width_of right_rewriting) refl (ap length (sym left_kinds)) refl (ap length (sym right_kinds))
        ∙ ap (λ kinds. (kinds_of left ++ kinds_of right) ++ kinds)
        (sym (place_kinds-append (shape left) (shape right)) ∙ ap place_kinds (sym (append-nil (shape left ++ shape right))))

    own-kinds : kinds_in (kinds_of left_rewriting ++ kinds_of right_rewriting) own ≡ kinds_of left ++ kinds_of right
    own-kinds =
        (λ i. kinds_in (left_kinds i ++ right_kinds i) own)
        ∙ own-columns Text (kinds_of left) (place_kinds (shape left)) (kinds_of right) (place_kinds (shape right)) (width_of left) (width_of left_rewriting)
        (width_of right) (width_of right_rewriting) refl (ap length (sym left_kinds)) refl (ap length (sym right_kinds))

    whole_width : length (kinds_of left_rewriting ++ kinds_of right_rewriting) ≡ width_of left_rewriting + width_of right_rewriting
    whole_width = length-append (kinds_of left_rewriting) (kinds_of right_rewriting)

    formed-rewriting : WellFormed outer rewriting
    formed-rewriting =
        let within = all-within (width_of left) (width_of left_rewriting) (width_of right) (width_of right_rewriting) left_longer right_longer in
        let within_own = own-within (width_of left) (width_of left_rewriting) (width_of right) (width_of right_rewriting) left_longer right_longer in
        formed-columns pairs order (subst (λ n. PlacesWithin n order) (sym whole_width) within) outer
        (formed-pairs kind left_rewriting right_rewriting on outer (left_given.formed outer formed.left) (right_given.formed outer formed.right)
        (moved.kind (kinds_of left_rewriting ++ kinds_of right_rewriting) outer [] Boolean (subst (λ n. PlacesWithin n own) (sym whole_width) within_own)
        (subst (λ kinds. HasKind (kinds ∷ outer) [] condition Boolean) (sym own-kinds) formed.condition)))

    module _ (db : Database) (env : List Row) (tables : TablesFit db node) (fitting : env_fits env outer ≡ true) where
      abbrev meets : Row → Outcome Value
      meets = condition_on condition env no_subs

      abbrev meets_longer : Row → Outcome Value
      meets_longer = condition_on on env no_subs

      left-fits : Fitting outer left db env
      left-fits = record { formed = formed.left; tables = tables.0; outer_rows = fitting }

      right-fits : Fitting outer right db env
      right-fits = record { formed = formed.right; tables = tables.1; outer_rows = fitting }

      listed : (t : Row) (w : Witness) → Contains (witnesses node db env t) w ↔ (InAnswer node db env t × law.JoinList kind left right condition [] db env t w)
      listed t w =
          subst (λ n. Contains (witnesses n db env t) w ↔ (InAnswer n db env t × law.JoinList kind left right condition [] db env t w))
          (Join_alone-is kind left right condition) (join-lists db env t w kind left right condition [])

      meaning-rewriting : meaning rewriting db env ≡ both_then (meaning left_rewriting db env) (meaning right_rewriting db env)
          (λ xs ys. mapped (map (picked order)) (joined_rows kind meets_longer (width_of left_rewriting) (width_of right_rewriting) xs ys))
      meaning-rewriting =
          meaning-columns pairs order db env
          ∙ ap (mapped (map (picked order))) (meaning-pairs kind left_rewriting right_rewriting on db env)
          ∙ mapped-both_then (map (picked order)) (meaning left_rewriting db env) (meaning right_rewriting db env)
          (joined_rows kind meets_longer (width_of left_rewriting) (width_of right_rewriting))

      -- rows of the inputs before their flattened lists, or NULLs in the place of both
      module _ (u f v g : Row) (left_is : length u ≡ width_of left) (left_row : length (u ++ f) ≡ width_of left_rewriting)
          (right_is : length v ≡ width_of right) (right_row : length (v ++ g) ≡ width_of right_rewriting) where
        arranged : picked order ((u ++ f) ++ (v ++ g)) ≡ (u ++ v) ++ (f ++ g)
        arranged =
            all-columns Null u f v g (width_of left) (width_of left_rewriting) (width_of right) (width_of right_rewriting) left_is left_row right_is right_row

        looked-at : meets_longer ((u ++ f) ++ (v ++ g)) ≡ meets (u ++ v)
        looked-at =
            moved.value ((u ++ f) ++ (v ++ g)) env []
            ∙ ap meets (own-columns Null u f v g (width_of left) (width_of left_rewriting) (width_of right) (width_of right_rewriting) left_is left_row right_is right_row)

      nulls-of : (q r : Query) → width_of r ≡ width_of q + places_width (shape q) → nulls (width_of r) ≡ nulls (width_of q) ++ flat (all_empty (shape q))
      nulls-of q r e =
          ap nulls e ∙ nulls-append (width_of q) (places_width (shape q)) ∙ ap (λ row. nulls (width_of q) ++ row) (sym (flat-all_empty (shape q)))

      left_nulls : nulls (width_of left_rewriting) ≡ nulls (width_of left) ++ flat (all_empty (shape left))
      left_nulls = nulls-of left left_rewriting (width-rewriting left left_rewriting left_given outer formed.left)

      right_nulls : nulls (width_of right_rewriting) ≡ nulls (width_of right) ++ flat (all_empty (shape right))
      right_nulls = nulls-of right right_rewriting (width-rewriting right right_rewriting right_given outer formed.right)

      left_nulls_row : length (nulls (width_of left) ++ flat (all_empty (shape left))) ≡ width_of left_rewriting
      left_nulls_row = ap length (sym left_nulls) ∙ length-nulls (width_of left_rewriting)

      right_nulls_row : length (nulls (width_of right) ++ flat (all_empty (shape right))) ≡ width_of right_rewriting
      right_nulls_row = ap length (sym right_nulls) ∙ length-nulls (width_of right_rewriting)

      module _ (us xs vs ys : Bag) (left_good : meaning left db env ≡ Good us) (right_good : meaning right db env ≡ Good vs)
          (b : Beside (witnesses left db env) us xs) (d : Beside (witnesses right db env) vs ys) where
        left-is : (u : Row) → IsIn u us → length u ≡ width_of left
        left-is u i = row-width outer left db env left-fits us left_good u i

        right-is : (v : Row) → IsIn v vs → length v ≡ width_of right
        right-is v i = row-width outer right db env right-fits vs right_good v i

        left-row : (u : Row) (l : Witness) → IsIn u us → Contains (witnesses left db env u) l → length (u ++ flat l) ≡ width_of left_rewriting
        left-row u l i c =
            length-append u (flat l) ∙ (λ k. left-is u i k + list-width outer left db env left-fits u l c k)
            ∙ sym (width-rewriting left left_rewriting left_given outer formed.left)

        right-row : (v : Row) (r : Witness) → IsIn v vs → Contains (witnesses right db env v) r → length (v ++ flat r) ≡ width_of right_rewriting
        right-row v r i c =
            length-append v (flat r) ∙ (λ k. right-is v i k + list-width outer right db env right-fits v r c k)
            ∙ sym (width-rewriting right right_rewriting right_given outer formed.right)

        module _ (u v : Row) (l r : Witness) (i : IsIn u us) (c : Contains (witnesses left db env u) l) (j : IsIn v vs) (e : Contains (witnesses right db env v) r) where
          pair-looked-at : meets_longer ((u ++ flat l) ++ (v ++ flat r)) ≡ meets (u ++ v)
          pair-looked-at = looked-at u (flat l) v (flat r) (left-is u i) (left-row u l i c) (right-is v j) (right-row v r j e)

          pair-arranged : picked order ((u ++ flat l) ++ (v ++ flat r)) ≡ (u ++ v) ++ flat (l ++ r)
          pair-arranged =
              arranged u (flat l) v (flat r) (left-is u i) (left-row u l i c) (right-is v j) (right-row v r j e)
              ∙ ap (λ row. (u ++ v) ++ row) (sym (flat-append l r))

        left-arranged : (u : Row) (l : Witness) → IsIn u us → Contains (witnesses left db env u) l →
            picked order ((u ++ flat l) ++ nulls (width_of right_rewriting)) ≡ (u ++ nulls (width_of right)) ++ flat (l ++ all_empty (shape right))
        left-arranged u l i c =
            ap (λ row. picked order ((u ++ flat l) ++ row)) right_nulls
            ∙ arranged u (flat l) (nulls (width_of right)) (flat (all_empty (shape right))) (left-is u i) (left-row u l i c) (length-nulls (width_of right)) right_nulls_row
            ∙ ap (λ row. (u ++ nulls (width_of right)) ++ row) (sym (flat-append l (all_empty (shape right))))

        right-arranged : (v : Row) (r : Witness) → IsIn v vs → Contains (witnesses right db env v) r →
            picked order (nulls (width_of left_rewriting) ++ (v ++ flat r)) ≡ (nulls (width_of left) ++ v) ++ flat (all_empty (shape left) ++ r)
        right-arranged v r i c =
            ap (λ row. picked order (row ++ (v ++ flat r))) left_nulls
            ∙ arranged (nulls (width_of left)) (flat (all_empty (shape left))) v (flat r) (length-nulls (width_of left)) left_nulls_row (right-is v i) (right-row v r i c)
            ∙ ap (λ row. (nulls (width_of left) ++ v) ++ row) (sym (flat-append (all_empty (shape left)) r))

        abbrev lefts : Flattened (witnesses left db env) us xs
        lefts = flattened (witnesses left db env) us xs b

        abbrev rights : Flattened (witnesses right db env) vs ys
        rights = flattened (witnesses right db env) vs ys d

        -- ---- faults

        pair-alike : (u : Row) (l : Witness) → IsIn u us → Contains (witnesses left db env u) l →
            SameFaults (gather (λ v. kept meets (u ++ v)) vs) (gather (λ y. kept meets_longer ((u ++ flat l) ++ y)) ys)
        pair-alike u l i c =
            let alike = λ (v : Row) (r : Witness) (j : IsIn v vs) (e : Contains (witnesses right db env v) r).
            kept-alike meets meets_longer (u ++ v) ((u ++ flat l) ++ (v ++ flat r)) (pair-looked-at u v l r i c j e) in
            gather-bad_alike (λ v. kept meets (u ++ v)) (λ y. kept meets_longer ((u ++ flat l) ++ y)) vs ys (record {
              there = λ v j. let s = stands_beside (witnesses right db env) vs ys d v j in (v ++ flat s.list, s.row, alike v s.list j s.is_list);
              back = λ y j.
                  let row = rights.back y j in
                  (row.0, row.2, subst (λ y. SameFaults (kept meets (u ++ row.0)) (kept meets_longer ((u ++ flat l) ++ y))) row.4 (alike row.0 row.1 row.2 row.3));
            })

        faults : SameFaults (met_pairs meets us vs) (met_pairs meets_longer xs ys)
        faults =
            gather-bad_alike (λ u. gather (λ v. kept meets (u ++ v)) vs) (λ x. gather (λ y. kept meets_longer (x ++ y)) ys) us xs (record {
              there = λ u i. let s = stands_beside (witnesses left db env) us xs b u i in (u ++ flat s.list, s.row, pair-alike u s.list i s.is_list);
              back = λ x j.
                  let row = lefts.back x j in
                  (row.0, row.2, subst (λ x. SameFaults (gather (λ v. kept meets (row.0 ++ v)) vs) (gather (λ y. kept meets_longer (x ++ y)) ys)) row.4 (pair-alike row.0 row.1 row.2 row.3));
            })

        -- ---- rows that meet none

        module _ (u : Row) (l : Witness) (i : IsIn u us) (c : Contains (witnesses left db env u) l) where
          left-same : (v : Row) (r : Witness) → IsIn v vs → Contains (witnesses right db env v) r → is_met (meets_longer ((u ++ flat l) ++ (v ++ flat r))) ≡ is_met (meets (u ++ v))
          left-same v r j e = ap is_met (pair-looked-at u v l r i c j e)

          left-there : IsIn u (unmatched_left meets us vs) → IsIn (u ++ flat l) (unmatched_left meets_longer xs ys)
          left-there h =
              in-filter (λ x. not (list_any (λ y. is_met (meets_longer (x ++ y))) ys)) (u ++ flat l) xs (lefts.there u l i c)
              (alone-longer (witnesses right db env) vs ys d (λ v. is_met (meets (u ++ v))) (λ y. is_met (meets_longer ((u ++ flat l) ++ y))) left-same
              (from-filter (λ u. not (list_any (λ v. is_met (meets (u ++ v))) vs)) u us h).1)

          left-back : IsIn (u ++ flat l) (unmatched_left meets_longer xs ys) → IsIn u (unmatched_left meets us vs)
          left-back h =
              in-filter (λ u. not (list_any (λ v. is_met (meets (u ++ v))) vs)) u us i
              (longer-alone (witnesses right db env) vs ys d (λ v. is_met (meets (u ++ v))) (λ y. is_met (meets_longer ((u ++ flat l) ++ y))) left-same
              (from-filter (λ x. not (list_any (λ y. is_met (meets_longer (x ++ y))) ys)) (u ++ flat l) xs h).1)

        module _ (v : Row) (r : Witness) (j : IsIn v vs) (e : Contains (witnesses right db env v) r) where
          right-same : (u : Row) (l : Witness) → IsIn u us → Contains (witnesses left db env u) l → is_met (meets_longer ((u ++ flat l) ++ (v ++ flat r))) ≡ is_met (meets (u ++ v))
          right-same u l i c = ap is_met (pair-looked-at u v l r i c j e)

          right-there : IsIn v (unmatched_right meets us vs) → IsIn (v ++ flat r) (unmatched_right meets_longer xs ys)
          right-there h =
              in-filter (λ y. not (list_any (λ x. is_met (meets_longer (x ++ y))) xs)) (v ++ flat r) ys (rights.there v r j e)
              (alone-longer (witnesses left db env) us xs b (λ u. is_met (meets (u ++ v))) (λ x. is_met (meets_longer (x ++ (v ++ flat r)))) right-same
              (from-filter (λ v. not (list_any (λ u. is_met (meets (u ++ v))) us)) v vs h).1)

          right-back : IsIn (v ++ flat r) (unmatched_right meets_longer xs ys) → IsIn v (unmatched_right meets us vs)
          right-back h =
              in-filter (λ v. not (list_any (λ u. is_met (meets (u ++ v))) us)) v vs j
              (longer-alone (witnesses left db env) us xs b (λ u. is_met (meets (u ++ v))) (λ x. is_met (meets_longer (x ++ (v ++ flat r)))) right-same
              (from-filter (λ y. not (list_any (λ x. is_met (meets_longer (x ++ y))) xs)) (v ++ flat r) ys h).1)

        -- ---- rows

        abbrev left_in : (u : Row) → InAnswer left db env u → IsIn u us
        left_in u a = subst (λ o. IsIn u (good_rows o)) left_good (answer-in left db env u a)

        abbrev right_in : (v : Row) → InAnswer right db env v → IsIn v vs
        right_in v a = subst (λ o. IsIn v (good_rows o)) right_good (answer-in right db env v a)

        abbrev left_answer : (u : Row) → IsIn u us → InAnswer left db env u
        left_answer u i = answer-from left db env u (subst (λ o. IsIn u (good_rows o)) (sym left_good) i)

        abbrev right_answer : (v : Row) → IsIn v vs → InAnswer right db env v
        right_answer v i = answer-from right db env v (subst (λ o. IsIn v (good_rows o)) (sym right_good) i)

        abbrev JoinedOver : Bag → Row → Type 0
        JoinedOver found z = (j : Row) × IsIn j found × (picked order j ≡ z)

        module _ (found : Bag) (is_found : joined_rows kind meets_longer (width_of left_rewriting) (width_of right_rewriting) xs ys ≡ Good found) where
          abbrev in_found : (j : Row) → Joined kind meets_longer (width_of left_rewriting) (width_of right_rewriting) xs ys j → IsIn j found
          in_found j h = in-joined_rows meets_longer xs ys j kind (width_of left_rewriting) (width_of right_rewriting) found is_found h

          without_more : (l : Witness) (more w : Witness) → l ++ more ++ [] ≡ w → l ++ more ≡ w
          without_more l more w e = sym (append-nil (l ++ more)) ∙ e

          there-list : (t : Row) (w : Witness) → law.JoinList kind left right condition [] db env t w → JoinedOver found (t ++ flat w)
          there-list t w (law.of_pair u v l r contributions left_is right_is makes met c e contribute whole) =
              let i = left_in u left_is in
              let j = right_in v right_is in
              let same : l ++ r ≡ w = without_more l r w (ap (λ more. l ++ r ++ more) (none-contribute contribute) ∙ whole) in (
                (u ++ flat l) ++ (v ++ flat r),
                in_found ((u ++ flat l) ++ (v ++ flat r)) (pair (record {
                  left = u ++ flat l;
                  right = v ++ flat r;
                  in_left = lefts.there u l i c;
                  in_right = rights.there v r j e;
                  makes = refl;
                  met = ap is_met (pair-looked-at u v l r i c j e) ∙ met;
                })),
                pair-arranged u v l r i c j e ∙ (λ k. makes k ++ flat (same k)),
              )
          there-list t w (law.left_alone u l keeps left_is makes alone c whole) =
              let i = left_in u left_is in
              let unmatched = in-filter (λ u. not (list_any (λ v. is_met (meets (u ++ v))) vs)) u us i
              (none-pass (λ v. is_met (meets (u ++ v))) vs (λ v j met. alone v (right_answer v j) met)) in
              let same = without_more l (all_empty (shape right)) w whole in (
                (u ++ flat l) ++ nulls (width_of right_rewriting),
                in_found _ (left_alone keeps (u ++ flat l) (left-there u l i c unmatched) refl),
                left-arranged u l i c ∙ (λ k. makes k ++ flat (same k)),
              )
          there-list t w (law.right_alone v r keeps right_is makes alone e whole) =
              let j = right_in v right_is in
              let unmatched = in-filter (λ v. not (list_any (λ u. is_met (meets (u ++ v))) us)) v vs j
              (none-pass (λ u. is_met (meets (u ++ v))) us (λ u i met. alone u (left_answer u i) met)) in
              let same = without_more (all_empty (shape left)) r w whole in (
                nulls (width_of left_rewriting) ++ (v ++ flat r),
                in_found _ (right_alone keeps (v ++ flat r) (right-there v r j e unmatched) refl),
                right-arranged v r j e ∙ (λ k. makes k ++ flat (same k)),
              )

        -- a row of the join, a list of it, and the row that both make
        record IsListed (z : Row) : Type 0 where
          t : Row
          w : Witness
          made : Joined kind meets (width_of left) (width_of right) us vs t
          list : law.JoinList kind left right condition [] db env t w
          whole : t ++ flat w ≡ z

        from-joined : (j : Row) → Joined kind meets_longer (width_of left_rewriting) (width_of right_rewriting) xs ys j → IsListed (picked order j)
        from-joined j (pair m) =
            let row = lefts.back m.left m.in_left in
            let other = rights.back m.right m.in_right in
            let is : (row.0 ++ flat row.1) ++ (other.0 ++ flat other.1) ≡ j = (λ k. row.4 k ++ other.4 k) ∙ m.makes in
            let met = ap is_met (sym (pair-looked-at row.0 other.0 row.1 other.1 row.2 row.3 other.2 other.3)) ∙ (λ k. is_met (meets_longer (row.4 k ++ other.4 k))) ∙ m.met in
            record {
              t = row.0 ++ other.0;
              w = row.1 ++ other.1;
              made = pair (record { left = row.0; right = other.0; in_left = row.2; in_right = other.2; makes = refl; met = met });
              list = law.of_pair row.0 other.0 row.1 other.1 [] (left_answer row.0 row.2) (right_answer other.0 other.2) refl met row.3 other.3 no_sublink
                  (append-nil (row.1 ++ other.1));
              whole = sym (pair-arranged row.0 other.0 row.1 other.1 row.2 row.3 other.2 other.3) ∙ ap (picked order) is;
            }
        from-joined j (left_alone keeps x here makes) =
            let row = lefts.back x (from-filter (λ x. not (list_any (λ y. is_met (meets_longer (x ++ y))) ys)) x xs here).0 in
            let unmatched = left-back row.0 row.1 row.2 row.3 (subst (λ x. IsIn x (unmatched_left meets_longer xs ys)) (sym row.4) here) in
            record {
              t = row.0 ++ nulls (width_of right);
              w = row.1 ++ all_empty (shape right);
              made = left_alone keeps row.0 unmatched refl;
              list = law.left_alone row.0 row.1 keeps (left_answer row.0 row.2) refl
                  (λ v a met. none_passes (λ v. is_met (meets (row.0 ++ v))) v vs (from-filter (λ u. not (list_any (λ v. is_met (meets (u ++ v))) vs)) row.0 us unmatched).1 (right_in v a) met)
                  row.3 (append-nil (row.1 ++ all_empty (shape right)));
              whole = sym (left-arranged row.0 row.1 row.2 row.3) ∙ ap (λ x. picked order (x ++ nulls (width_of right_rewriting))) row.4 ∙ ap (picked order) makes;
            }
        from-joined j (right_alone keeps y here makes) =
            let row = rights.back y (from-filter (λ y. not (list_any (λ x. is_met (meets_longer (x ++ y))) xs)) y ys here).0 in
            let unmatched = right-back row.0 row.1 row.2 row.3 (subst (λ y. IsIn y (unmatched_right meets_longer xs ys)) (sym row.4) here) in
            record {
              t = nulls (width_of left) ++ row.0;
              w = all_empty (shape left) ++ row.1;
              made = right_alone keeps row.0 unmatched refl;
              list = law.right_alone row.0 row.1 keeps (right_answer row.0 row.2) refl
                  (λ u a met. none_passes (λ u. is_met (meets (u ++ row.0))) u us (from-filter (λ v. not (list_any (λ u. is_met (meets (u ++ v))) us)) row.0 vs unmatched).1 (left_in u a) met)
                  row.3 (append-nil (all_empty (shape left) ++ row.1));
              whole = sym (right-arranged row.0 row.1 row.2 row.3) ∙ ap (λ y. picked order (nulls (width_of left_rewriting) ++ y)) row.4 ∙ ap (picked order) makes;
            }

        meaning-node : meaning node db env ≡ joined_rows kind meets (width_of left) (width_of right) us vs
        meaning-node =
            meaning-pairs kind left right condition db env
            ∙ (λ k. both_then (left_good k) (right_good k) (joined_rows kind meets (width_of left) (width_of right)))

        made : Made node rewriting db env (joined_rows kind meets (width_of left) (width_of right) us vs)
            (mapped (map (picked order)) (joined_rows kind meets_longer (width_of left_rewriting) (width_of right_rewriting) xs ys))
        made = record {
          faults = same_faults-then (map (picked order)) (joined_rows kind meets (width_of left) (width_of right) us vs) (joined_rows kind meets_longer (width_of left_rewriting) (width_of right_rewriting) xs ys)
              (mapped-same_faults _ _ (met_pairs meets us vs) (met_pairs meets_longer xs ys) faults);
          rows = λ ts zs e f.
              let found = mapped-is (map (picked order)) (joined_rows kind meets_longer (width_of left_rewriting) (width_of right_rewriting) xs ys) zs f in
              record {
                there = λ t w i c.
                    let row = there-list found.0 found.1 t w ((listed t w).0 c).1 in
                    subst (λ bag. IsIn (t ++ flat w) bag) found.2 (subst (λ z. IsIn z (map (picked order) found.0)) row.2 (in-map (picked order) row.0 found.0 row.1));
                back = λ z i.
                    let origin = from-map (picked order) z found.0 (subst (IsIn z) (sym found.2) i) in
                    let row = from-joined origin.0 (from-joined_rows kind meets_longer (width_of left_rewriting) (width_of right_rewriting) xs ys origin.0 (subst (λ o. IsIn origin.0 (good_rows o)) (sym found.1) origin.1)) in
                    let here = in-joined_rows meets us vs row.t kind (width_of left) (width_of right) ts e row.made in
                    let answer : InAnswer node db env row.t = record { bag = ts; good = meaning-node ∙ e; row = in-member row.t ts here } in
                    (row.t, row.w, here, (listed row.t row.w).1 (answer, row.list), row.whole ∙ origin.2);
              };
        }

      same_rows : SameSet (meaning (ProvOf node) db env) (meaning rewriting db env)
      same_rows =
          rows-from_beside node rewriting db env
          (rewritten-over_both node rewriting db env left left_rewriting right right_rewriting (joined_rows kind meets (width_of left) (width_of right))
          (λ xs ys. mapped (map (picked order)) (joined_rows kind meets_longer (width_of left_rewriting) (width_of right_rewriting) xs ys))
          (meaning-pairs kind left right condition db env) meaning-rewriting
          (beside-from_rewrite left left_rewriting db env left_given outer formed.left tables.0 fitting)
          (beside-from_rewrite right right_rewriting db env right_given outer formed.right tables.1 fitting) made)

  rewrite-JoinOf : IsRewrite node rewriting
  rewrite-JoinOf =
      let inputs = tables_read left ++ tables_read right in
      record {
        plain = plain-projected pairs (column_items (kinds_of pairs) order) ∙ plain-pairs kind left_rewriting right_rewriting on ∙ both-true _ _ left_given.plain right_given.plain;
        kinds = λ outer formed. kinds-rewriting outer formed;
        formed = λ outer formed. formed-rewriting outer formed;
        tables = (
          (
            each_table-kept _ _ (λ id kinds h. Contains-append_left inputs [] _ (Contains-append_left (tables_read left) (tables_read right) _ h)) left_rewriting left_given.tables,
            each_table-kept _ _ (λ id kinds h. Contains-append_left inputs [] _ (Contains-append_right (tables_read left) (tables_read right) _ h)) right_rewriting right_given.tables,
            tt,
          ),
          tt,
        );
        rows = λ outer db env formed tables fitting. same_rows outer formed db env tables fitting;
      }

  pub rewrite-Join : IsRewrite (Join kind left right condition []) rewriting
  rewrite-Join = subst (λ n. IsRewrite n rewriting) (sym (Join_alone-is kind left right condition)) rewrite-JoinOf

-- what the code lays out
pub rewrite-laid_out : (kind : JoinKind) (left left_rewriting right right_rewriting : Query) (condition : Expr) (p : Query) → IsRewrite left left_rewriting →
    IsRewrite right right_rewriting →
    IsLaidOut kind left left_rewriting right right_rewriting condition
    (own_places (width_of left) (width_of left_rewriting) (width_of right) ++ added_places (width_of left) (width_of left_rewriting) (width_of right) (width_of right_rewriting)) p →
    IsRewrite (Join kind left right condition []) p
rewrite-laid_out kind left left_rewriting right right_rewriting condition p left_given right_given made =
    let order = own_places (width_of left) (width_of left_rewriting) (width_of right) ++ added_places (width_of left) (width_of left_rewriting) (width_of right) (width_of right_rewriting) in
    let whole : p ≡ ProjectOf (JoinOf kind left_rewriting right_rewriting made.paired.on [] end_of-Sublink) (column_items (kinds_of left_rewriting ++ kinds_of right_rewriting) order) [] end_of-Sublink =
    made.columns ∙ ap (λ pairs. ProjectOf pairs (column_items (kinds_of pairs) order) [] end_of-Sublink) made.paired.whole in
    subst (IsRewrite (Join kind left right condition [])) (sym whole)
    (rewrite-Join kind left left_rewriting right right_rewriting condition made.paired.on made.paired.moved left_given right_given)
