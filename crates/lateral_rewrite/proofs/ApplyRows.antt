-- The dependent join of rewritings, with its columns before those of provenance, is a rewriting of the dependent join.
use Rattle.std.proofs.Common.{◌≡◌, ◌↔◌, ◌⊎◌, inl, inr, ℕ, ◌+◌, Bool, true, false, cond, List, [], ◌∷◌, ◌++◌, map, length, Contains, length-append, refl, sym, ap, ◌∙◌, subst, true≢false, arith}
use Rattle.std.proofs.lemmas.Bool.{and_from}
use Rattle.perm_values.specs.Rows.{picked, PlacesWithin}
use Rattle.perm_values.specs.declared.kind.Kind.{Kind}
use Rattle.perm_values.specs.declared.kind.Kind.TheVariants.{Text}
use Rattle.perm_values.specs.declared.value.Value.TheVariants.{Null}
use Rattle.perm_values.proofs.Steps.{by}
use Rattle.bag_algebra.proofs.Members.{IsIn, in-map, from-map, in-member}
use Rattle.bag_algebra.proofs.TablesRead.{reads_among-each, reads_among-itself}
use Rattle.bag_algebra.proofs.Truths.{both-true}
use Rattle.bag_algebra.proofs.Widths.{place_kinds-append}
use Rattle.bag_algebra.specs.Bags.{Row, Bag, nulls}
use Rattle.bag_algebra.specs.built.Forms.{WellFormed-Apply, EachTable-Apply}
use Rattle.bag_algebra.specs.built.Openings.{kinds_of-Apply, meaning-Apply, shape-Apply, Prov-is, rows-with_lists}
use Rattle.bag_algebra.specs.built.Patterns.{ApplyOf}
use Rattle.bag_algebra.specs.ColumnItems.{column_items}
use Rattle.bag_algebra.specs.Fits.{TablesFit, bag_fits, env_fits, row_begins}
use Rattle.bag_algebra.specs.Kinds.{kinds_of, kinds_in, place_kinds, shape, width_of}
use Rattle.bag_algebra.specs.Meaning.{Database, meaning, witnesses}
use Rattle.bag_algebra.specs.Means.{Means, Witness, flat, all_empty, good_rows, keeps_left, under}
use Rattle.bag_algebra.specs.Outcome.{Faults, Outcome, Good, Bad, and_then, mapped, gather}
use Rattle.bag_algebra.specs.Rewriting.{IsRewrite, SameSet, is_plain}
use Rattle.bag_algebra.specs.TablesRead.{EachTable, tables_read}
use Rattle.bag_algebra.specs.WellFormed.{WellFormed, ApplyForm}
use Rattle.bag_algebra.specs.declared.query.JoinKind.{JoinKind}
use Rattle.bag_algebra.specs.declared.query.Query.{Query}
use Rattle.bag_algebra.specs.declared.query.Query.TheVariants.{Apply, Prov}
use Rattle.contribution.proofs.AddedColumns.{columns-added}
use Rattle.contribution.proofs.ColumnQueries.{kinds_of-columns, meaning-columns, formed-columns}
use Rattle.contribution.proofs.GoodRows.{from-gather}
use Rattle.contribution.proofs.Growth.{denote-same}
use Rattle.contribution.proofs.JoinMembers.{in-gather}
use Rattle.contribution.proofs.LongerKinds.{well_formed-longer}
use Rattle.contribution.proofs.NodeQueries.{plain-projected}
use Rattle.contribution.specs.Fitting.{Fitting}
use Rattle.query_laws.proofs.AnswerRows.{answer-in, answer-from}
use Rattle.query_laws.proofs.ApplyLists.{apply-lists}
use Rattle.query_laws.proofs.Joined.{length-nulls}
use Rattle.query_laws.proofs.Outcomes.{over-gather, good-mapped, good-good}
use Rattle.query_laws.specs.ListsOfNodes.{ApplyList, of_right_row, of_no_right_row}
use Rattle.query_laws.specs.SublinkLists.{InAnswer}
use Rattle.rewrite_core.proofs.BesideLists.{same-from_rewritten}
use Rattle.rewrite_core.proofs.Faults.{SameFaults, gather-bad_alike, mapped-same_faults}
use Rattle.rewrite_core.proofs.FlatRows.{Flattened, flattened, row-begins, stands_beside}
use Rattle.rewrite_core.proofs.JoinedOutcomes.{Related, rewritten-from_related}
use Rattle.rewrite_core.proofs.KeptRewriting.{rewriting-related}
use Rattle.rewrite_core.proofs.KeptRows.{row-width, list-width, nulls-of_rewriting, flat-append}
use Rattle.rewrite_core.specs.rewritings.Rewritten.{Beside}
use Rattle.rewrite_sublink.proofs.LongerRows.{names-rewriting}
use Rattle.rewrite_sublink.proofs.NodeRows.{Reaching, reaching-over}
use Rattle.rewrite_sublink.proofs.SublinkRows.{good-related}
use Rattle.lateral_rewrite.proofs.BesideRows.{good-bag}
use Rattle.lateral_rewrite.proofs.Regrouping.{at-regrouped, regrouped-within}
use Rattle.lateral_rewrite.specs.Applied.{applied, regrouped}

related-faults : (R : Bag → Bag → Type 0) (o s : Outcome Bag) → Related R o s → SameFaults o s
related-faults R (Good us) (Good vs) r = tt
related-faults R (Good us) (Bad g) r = r
related-faults R (Bad f) (Good vs) r = r
related-faults R (Bad f) (Bad g) r = r

-- ---- rows beside a left row

module _ (kind : JoinKind) (width : ℕ) (u : Row) where
  in-under : (v : Row) (vs : Bag) → IsIn v vs → IsIn (u ++ v) (under kind width u vs)
  in-under v [] h = absurd h
  in-under v (w ∷ vs) h = in-map (λ v. u ++ v) v (w ∷ vs) h

  alone-in : (keeps : Bool) (y : Row) → keeps ≡ true → IsIn y (cond keeps (y ∷ []) [])
  alone-in true y e = inl refl
  alone-in false y e = absurd (true≢false (sym e))

  from-alone : (keeps : Bool) (x y : Row) → IsIn y (cond keeps (x ∷ []) []) → (keeps ≡ true) × (x ≡ y)
  from-alone true x y (inl e) = (refl, e)
  from-alone true x y (inr h) = absurd h
  from-alone false x y h = absurd h

  nulls-under : (vs : Bag) → [] ≡ vs → keeps_left kind ≡ true → IsIn (u ++ nulls width) (under kind width u vs)
  nulls-under vs e keeps = subst (λ vs. IsIn (u ++ nulls width) (under kind width u vs)) e (alone-in (keeps_left kind) (u ++ nulls width) keeps)

  from-under : (y : Row) (vs : Bag) → IsIn y (under kind width u vs) →
      ((v : Row) × IsIn v vs × (u ++ v ≡ y)) ⊎ (([] ≡ vs) × (keeps_left kind ≡ true) × (u ++ nulls width ≡ y))
  from-under y [] h = let alone = from-alone (keeps_left kind) (u ++ nulls width) y h in inr (refl, alone.0, alone.1)
  from-under y (w ∷ vs) h = inl (from-map (λ v. u ++ v) y (w ∷ vs) h)

-- rows beside their lists: where there is none on one side there is none on the other
module _ (lists : Row → List Witness) (vs ys : Bag) (b : Beside lists vs ys) where
  none-beside : [] ≡ vs → [] ≡ ys
  none-beside e = by_rows ys (λ y h. let row = (flattened lists vs ys b).back y h in subst (IsIn row.0) (sym e) row.2) where
    by_rows : (ys : Bag) → ((y : Row) → IsIn y ys → ⊥) → [] ≡ ys
    by_rows [] none = refl
    by_rows (y ∷ ys) none = absurd (none y (inl refl))

  none-under : [] ≡ ys → [] ≡ vs
  none-under e = by_rows vs (λ v h. subst (IsIn _) (sym e) (stands_beside lists vs ys b v h).row) where
    by_rows : (vs : Bag) → ((v : Row) → IsIn v vs → ⊥) → [] ≡ vs
    by_rows [] none = refl
    by_rows (v ∷ vs) none = absurd (none v (inl refl))

module _ (kind : JoinKind) (left left_rewriting right right_rewriting : Query) (left_given : IsRewrite left left_rewriting) (right_given : IsRewrite right right_rewriting) where
  abbrev node : Query
  node = Apply kind left right

  abbrev pairs : Query
  pairs = ApplyOf kind left_rewriting right_rewriting

  abbrev order : List ℕ
  order = regrouped (width_of left) (width_of left_rewriting) (width_of right) (width_of right_rewriting)

  abbrev p : Query
  p = applied kind left left_rewriting right right_rewriting

  plain-made : is_plain p ≡ true
  plain-made = plain-projected pairs (column_items (kinds_of pairs) order) ∙ both-true (is_plain left_rewriting) (is_plain right_rewriting) left_given.plain right_given.plain

  tables-made : (P : ℕ → List Kind → Type 0) → EachTable P node → EachTable P p
  tables-made P h =
      let of_node = by (EachTable-Apply P kind left right) h in
      ((reads_among-each P left_rewriting left left_given.tables of_node.0, reads_among-each P right_rewriting right right_given.tables of_node.1), tt)

  module _ (outer : List (List Kind)) (formed : WellFormed outer node) where
    form : ApplyForm (WellFormed outer left) (WellFormed (kinds_of left ∷ outer) right) kind
    form = by (WellFormed-Apply outer kind left right) formed

    left_kinds : kinds_of left_rewriting ≡ kinds_of left ++ place_kinds (shape left)
    left_kinds = left_given.kinds outer form.left

    right_kinds : kinds_of right_rewriting ≡ kinds_of right ++ place_kinds (shape right)
    right_kinds = right_given.kinds (kinds_of left ∷ outer) form.right

    kinds-made : kinds_of p ≡ kinds_of node ++ place_kinds (shape node)
    kinds-made =
        kinds_of-columns pairs order
        ∙ (λ i. kinds_in (left_kinds i ++ right_kinds i) order)
        ∙ at-regrouped Text (kinds_of left) (place_kinds (shape left)) (kinds_of right) (place_kinds (shape right)) (width_of left) (width_of left_rewriting)
        (width_of right) (width_of right_rewriting) refl (ap length (sym left_kinds)) refl (ap length (sym right_kinds))
        ∙ (λ i. sym (kinds_of-Apply kind left right) i ++ (sym (place_kinds-append (shape left) (shape right)) ∙ ap place_kinds (sym (shape-Apply kind left right))) i)

    formed-made : WellFormed outer p
    formed-made =
        let within = regrouped-within (width_of left) (width_of left_rewriting) (width_of right) (width_of right_rewriting)
        (omega (arith, ap length left_kinds, length-append (kinds_of left) (place_kinds (shape left))))
        (omega (arith, ap length right_kinds, length-append (kinds_of right) (place_kinds (shape right)))) in
        formed-columns pairs order (subst (λ n. PlacesWithin n order) (sym (length-append (kinds_of left_rewriting) (kinds_of right_rewriting))) within) outer (record {
          left = left_given.formed outer form.left;
          right = well_formed-longer right_rewriting (kinds_of left ∷ outer) (kinds_of left_rewriting ∷ outer) (names-rewriting left left_rewriting outer left_given form.left)
              (right_given.formed (kinds_of left ∷ outer) form.right);
          dependent = form.dependent;
        })

    module _ (db : Database) (env : List Row) (tables : TablesFit db node) (fits : env_fits env outer ≡ true) where
      of_node : EachTable (λ id ks. bag_fits (db id) ks ≡ true) left × EachTable (λ id ks. bag_fits (db id) ks ≡ true) right
      of_node = by (EachTable-Apply (λ id ks. bag_fits (db id) ks ≡ true) kind left right) tables

      left-fits : Fitting outer left db env
      left-fits = record { formed = form.left; tables = of_node.0; outer_rows = fits }

      -- what stands beside a left row, and beside a row of its rewriting
      abbrev beside_left : Row → Outcome Bag
      beside_left u = mapped (under kind (width_of right) u) (meaning right db (u ∷ env))

      abbrev beside_longer : Row → Outcome Bag
      beside_longer x = mapped (under kind (width_of right_rewriting) x) (meaning right_rewriting db (x ∷ env))

      meaning-pairs : meaning pairs db env ≡ and_then (meaning left_rewriting db env) (gather beside_longer)
      meaning-pairs = rows-with_lists _ _

      meaning-made : meaning p db env ≡ mapped (map (picked order)) (meaning pairs db env)
      meaning-made = meaning-columns pairs order db env

      bad : (faults : Faults) → meaning pairs db env ≡ Bad faults → meaning p db env ≡ Bad faults
      bad faults h = meaning-made ∙ ap (mapped (map (picked order))) h

      module _ (us xs : Bag) (good : meaning left db env ≡ Good us) (b : Beside (witnesses left db env) us xs) where
        lefts : Flattened (witnesses left db env) us xs
        lefts = flattened (witnesses left db env) us xs b

        module _ (u : Row) (i : IsIn u us) where
          begins : row_begins u (kinds_of left) ≡ true
          begins = row-begins outer left db env left-fits us good u i

          right-fits : Fitting (kinds_of left ∷ outer) right db (u ∷ env)
          right-fits = record { formed = form.right; tables = of_node.1; outer_rows = and_from (row_begins u (kinds_of left)) (env_fits env outer) begins fits }

          -- the right side's rewriting sees a longer row
          related-there : (more : Row) → Related (Beside (witnesses right db (u ∷ env))) (meaning right db (u ∷ env)) (meaning right_rewriting db ((u ++ more) ∷ env))
          related-there more =
              subst (Related (Beside (witnesses right db (u ∷ env))) (meaning right db (u ∷ env)))
              (ap (λ (m : Means). m.rows) (denote-same right_rewriting (kinds_of left ∷ outer) db (u ∷ env) ((u ++ more) ∷ env) (right_given.formed (kinds_of left ∷ outer) form.right)
              (columns-added (kinds_of left) outer u more env begins)))
              (rewriting-related (kinds_of left ∷ outer) right right_rewriting db (u ∷ env) right-fits right_given)

          alike : (more : Row) → SameFaults (beside_left u) (beside_longer (u ++ more))
          alike more =
              mapped-same_faults (under kind (width_of right) u) (under kind (width_of right_rewriting) (u ++ more)) (meaning right db (u ∷ env)) (meaning right_rewriting db ((u ++ more) ∷ env))
              (related-faults (Beside (witnesses right db (u ∷ env))) (meaning right db (u ∷ env)) (meaning right_rewriting db ((u ++ more) ∷ env)) (related-there more))

          -- columns, and then provenance
          arranged : (v : Row) (l r : Witness) → Contains (witnesses left db env u) l → length v ≡ width_of right → length (v ++ flat r) ≡ width_of right_rewriting →
              picked order ((u ++ flat l) ++ (v ++ flat r)) ≡ (u ++ v) ++ flat (l ++ r)
          arranged v l r c e f =
              at-regrouped Null u (flat l) v (flat r) (width_of left) (width_of left_rewriting) (width_of right) (width_of right_rewriting)
              (row-width outer left db env left-fits us u good (in-member u us i))
              (length-append u (flat l)
              ∙ (λ j. row-width outer left db env left-fits us u good (in-member u us i) j + list-width outer left db env left-fits u l c j)
              ∙ sym (length-append (kinds_of left) (place_kinds (shape left))) ∙ sym (ap length left_kinds))
              e f
              ∙ ap (λ row. (u ++ v) ++ row) (sym (flat-append l r))

          arranged-nulls : (l : Witness) → Contains (witnesses left db env u) l →
              picked order ((u ++ flat l) ++ nulls (width_of right_rewriting)) ≡ (u ++ nulls (width_of right)) ++ flat (l ++ all_empty (shape right))
          arranged-nulls l c =
              let blank = nulls-of_rewriting (kinds_of right) (shape right) (width_of right_rewriting) (ap length right_kinds) in
              ap (λ row. picked order ((u ++ flat l) ++ row)) blank
              ∙ arranged (nulls (width_of right)) l (all_empty (shape right)) c (length-nulls (width_of right))
              (sym (ap length blank) ∙ length-nulls (width_of right_rewriting))

        module _ (ts zs : Bag) (e : gather beside_left us ≡ Good ts) (f : gather beside_longer xs ≡ Good zs) where
          -- both sides are good beside each left row
          record Rights (u more : Row) : Type 0 where
            vs : Bag
            ys : Bag
            good_right : meaning right db (u ∷ env) ≡ Good vs
            good_longer : meaning right_rewriting db ((u ++ more) ∷ env) ≡ Good ys
            beside : Beside (witnesses right db (u ∷ env)) vs ys

          rights : (u more : Row) → IsIn u us → Rights u more
          rights u more i =
              let vs = good-bag (meaning right db (u ∷ env))
              (good-mapped (under kind (width_of right) u) (meaning right db (u ∷ env)) ((over-gather beside_left us).each_good (good-good (gather beside_left us) ts e) u i)) in
              let found = good-related (Beside (witnesses right db (u ∷ env))) vs.0 (meaning right_rewriting db ((u ++ more) ∷ env))
              (subst (λ o. Related (Beside (witnesses right db (u ∷ env))) o (meaning right_rewriting db ((u ++ more) ∷ env))) vs.1 (related-there u i more)) in
              record { vs = vs.0; ys = found.0; good_right = vs.1; good_longer = found.1; beside = found.2 }

          right-rows : (u more : Row) (i : IsIn u us) → Flattened (witnesses right db (u ∷ env)) (rights u more i).vs (rights u more i).ys
          right-rows u more i = let r = rights u more i in flattened (witnesses right db (u ∷ env)) r.vs r.ys r.beside

          in-node : (u more t : Row) (i : IsIn u us) → IsIn t (under kind (width_of right) u (rights u more i).vs) → IsIn t ts
          in-node u more t i h =
              in-gather beside_left t u us ts e i (subst (λ o. IsIn t (good_rows (mapped (under kind (width_of right) u) o))) (sym (rights u more i).good_right) h)

          in-pairs : (u : Row) (l : Witness) (z : Row) (i : IsIn u us) → Contains (witnesses left db env u) l →
              IsIn z (under kind (width_of right_rewriting) (u ++ flat l) (rights u (flat l) i).ys) → IsIn z zs
          in-pairs u l z i c h =
              in-gather beside_longer z (u ++ flat l) xs zs f (lefts.there u l i c)
              (subst (λ o. IsIn z (good_rows (mapped (under kind (width_of right_rewriting) (u ++ flat l)) o))) (sym (rights u (flat l) i).good_longer) h)

          abbrev lists_are : (t : Row) (w : Witness) → Contains (witnesses node db env t) w ↔ (InAnswer node db env t × ApplyList kind left right db env t w)
          lists_are t w = apply-lists db env t w kind left right

          wide-right : (u more v : Row) (i : IsIn u us) → IsIn v (rights u more i).vs → length v ≡ width_of right
          wide-right u more v i h =
              let r = rights u more i in
              row-width (kinds_of left ∷ outer) right db (u ∷ env) (right-fits u i) r.vs v r.good_right (in-member v r.vs h)

          long-right : (u more v : Row) (w : Witness) (i : IsIn u us) → IsIn v (rights u more i).vs → Contains (witnesses right db (u ∷ env) v) w →
              length (v ++ flat w) ≡ width_of right_rewriting
          long-right u more v w i h c =
              length-append v (flat w)
              ∙ (λ j. wide-right u more v i h j + list-width (kinds_of left ∷ outer) right db (u ∷ env) (right-fits u i) v w c j)
              ∙ sym (length-append (kinds_of right) (place_kinds (shape right))) ∙ sym (ap length right_kinds)

          left-in : (u : Row) → InAnswer left db env u → IsIn u us
          left-in u a = subst (λ o. IsIn u (good_rows o)) good (answer-in left db env u a)

          left-answer : (u : Row) → IsIn u us → InAnswer left db env u
          left-answer u i = answer-from left db env u (subst (λ o. IsIn u (good_rows o)) (sym good) i)

          there : (t : Row) (w : Witness) → ApplyList kind left right db env t w → IsIn (t ++ flat w) (map (picked order) zs)
          there t w (of_right_row u v l r left_there right_there makes is_left is_right whole) =
              let i = left-in u left_there in
              let a = rights u (flat l) i in
              let h = subst (λ o. IsIn v (good_rows o)) a.good_right (answer-in right db (u ∷ env) v right_there) in
              let y = (right-rows u (flat l) i).there v r h is_right in
              let z = (u ++ flat l) ++ (v ++ flat r) in
              subst (λ x. IsIn x (map (picked order) zs))
              (arranged u i v l r is_left (wide-right u (flat l) v i h) (long-right u (flat l) v r i h is_right) ∙ (λ j. makes j ++ flat (whole j)))
              (in-map (picked order) z zs (in-pairs u l z i is_left (in-under kind (width_of right_rewriting) (u ++ flat l) (v ++ flat r) a.ys y)))
          there t w (of_no_right_row u l keeps left_there none makes is_left whole) =
              let i = left-in u left_there in
              let a = rights u (flat l) i in
              let empty : [] ≡ a.vs = ap good_rows (sym none ∙ a.good_right) in
              let z = (u ++ flat l) ++ nulls (width_of right_rewriting) in
              subst (λ x. IsIn x (map (picked order) zs))
              (arranged-nulls u i l is_left ∙ (λ j. makes j ++ flat (whole j)))
              (in-map (picked order) z zs (in-pairs u l z i is_left
              (nulls-under kind (width_of right_rewriting) (u ++ flat l) a.ys (none-beside (witnesses right db (u ∷ env)) a.vs a.ys a.beside empty) keeps)))

          -- a row of the dependent join, a list of it, and the row that both make
          record Listed (z : Row) : Type 0 where
            t : Row
            w : Witness
            here : IsIn t ts
            list : ApplyList kind left right db env t w
            whole : t ++ flat w ≡ z

          back : (x z : Row) → IsIn x xs → IsIn z (good_rows (beside_longer x)) → Listed (picked order z)
          back x z h g =
              let row = lefts.back x h in
              let u = row.0 in
              let l = row.1 in
              let i = row.2 in
              let a = rights u (flat l) i in
              let longer = subst (λ x. meaning right_rewriting db (x ∷ env) ≡ Good a.ys) row.4 a.good_longer in
              let here = subst (λ o. IsIn z (good_rows (mapped (under kind (width_of right_rewriting) x) o))) longer g in
              by_under u l i row.3 row.4 (from-under kind (width_of right_rewriting) x z a.ys here)
            where
              by_under : (u : Row) (l : Witness) (i : IsIn u us) → Contains (witnesses left db env u) l → u ++ flat l ≡ x →
                  ((y : Row) × IsIn y (rights u (flat l) i).ys × (x ++ y ≡ z)) ⊎ (([] ≡ (rights u (flat l) i).ys) × (keeps_left kind ≡ true) × (x ++ nulls (width_of right_rewriting) ≡ z)) →
                  Listed (picked order z)
              by_under u l i c same (inl found) =
                  let a = rights u (flat l) i in
                  let other = (right-rows u (flat l) i).back found.0 found.1 in
                  let v = other.0 in
                  let r = other.1 in
                  record {
                    t = u ++ v;
                    w = l ++ r;
                    here = in-node u (flat l) (u ++ v) i (in-under kind (width_of right) u v a.vs other.2);
                    list = of_right_row u v l r (left-answer u i) (record { bag = a.vs; good = a.good_right; row = in-member v a.vs other.2 }) refl c other.3 refl;
                    whole =
                        sym (arranged u i v l r c (wide-right u (flat l) v i other.2) (long-right u (flat l) v r i other.2 other.3))
                        ∙ ap (picked order) ((λ j. same j ++ other.4 j) ∙ found.2);
                  }
              by_under u l i c same (inr alone) =
                  let a = rights u (flat l) i in
                  let empty = none-under (witnesses right db (u ∷ env)) a.vs a.ys a.beside alone.0 in
                  record {
                    t = u ++ nulls (width_of right);
                    w = l ++ all_empty (shape right);
                    here = in-node u (flat l) (u ++ nulls (width_of right)) i (nulls-under kind (width_of right) u a.vs empty alone.1);
                    list = of_no_right_row u l alone.1 (left-answer u i) (a.good_right ∙ ap Good (sym empty)) refl c refl;
                    whole = sym (arranged-nulls u i l c) ∙ ap (picked order) (ap (λ x. x ++ nulls (width_of right_rewriting)) same ∙ alone.2);
                  }

          all-rows : meaning node db env ≡ Good ts → Flattened (witnesses node db env) ts (map (picked order) zs)
          all-rows is_node = record {
            there = λ t w i c. there t w ((lists_are t w).0 c).1;
            back = λ y j.
                let origin = from-map (picked order) y zs j in
                let found = from-gather beside_longer origin.0 xs (subst (λ o. IsIn origin.0 (good_rows o)) (sym f) origin.1) in
                let listed = back found.0 origin.0 found.1 found.2 in
                let answer : InAnswer node db env listed.t = record { bag = ts; good = is_node; row = in-member listed.t ts listed.here } in
                (listed.t, listed.w, listed.here, (lists_are listed.t listed.w).1 (answer, listed.list), listed.whole ∙ origin.2);
          }

        reaching : meaning left_rewriting db env ≡ Good xs →
            Reaching node pairs p db env bad (gather beside_left us) (gather beside_longer xs)
        reaching is_rewriting = record {
          faults = gather-bad_alike beside_left beside_longer us xs (record {
            there = λ u i. let s = stands_beside (witnesses left db env) us xs b u i in (u ++ flat s.list, s.row, alike u i (flat s.list));
            back = λ x j.
                let row = lefts.back x j in
                (row.0, row.2, subst (λ y. SameFaults (beside_left row.0) (beside_longer y)) row.4 (alike row.0 row.2 (flat row.1)));
          });
          rows = λ ts zs e f.
              let is_node = meaning-Apply db env kind left right ∙ ap (λ o. and_then o (gather beside_left)) good ∙ e in (
                map (picked order) zs,
                meaning-made ∙ ap (mapped (map (picked order))) (meaning-pairs ∙ ap (λ o. and_then o (gather beside_longer)) is_rewriting ∙ f),
                all-rows ts zs e f is_node,
              );
        }

      same_rows : SameSet (meaning (Prov node) db env) (meaning p db env)
      same_rows =
          same-from_rewritten node p db env
          (rewritten-from_related (witnesses node db env) (meaning node db env) (meaning p db env)
          (reaching-over node pairs p db env bad left left_rewriting (gather beside_left) (gather beside_longer)
          (meaning-Apply db env kind left right) meaning-pairs (λ us xs good is_rewriting b. reaching us xs good b is_rewriting)
          (rewriting-related outer left left_rewriting db env left-fits left_given)))

  pub rewrite-Apply : IsRewrite node p
  rewrite-Apply = record {
    plain = plain-made;
    kinds = kinds-made;
    formed = formed-made;
    tables = tables-made (λ id ks. Contains (tables_read node) (record { id = id; kinds = ks })) (reads_among-itself node);
    rows = λ outer db env formed tables fits. subst (λ n. SameSet (meaning n db env) (meaning p db env)) (Prov-is node) (same_rows outer formed db env tables fits);
  }
