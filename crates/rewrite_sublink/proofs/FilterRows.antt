-- The rule of a selection with sublinks.
use Rattle.std.proofs.Common.{◌≡◌, ◌↔◌, ℕ, true, List, ◌∷◌, ◌++◌, Contains, append_assoc, refl, sym, ap, ◌∙◌, subst}
use Rattle.perm_values.specs.declared.kind.Kind.{Kind}
use Rattle.perm_values.specs.declared.kind.Kind.TheVariants.{Boolean}
use Rattle.perm_values.specs.declared.value.Value.{Value}
use Rattle.perm_values.proofs.Steps.{by}
use Rattle.bag_algebra.proofs.Members.{IsIn, in-member}
use Rattle.bag_algebra.proofs.TablesRead.{reads_among-each, reads_among-itself}
use Rattle.bag_algebra.proofs.Widths.{place_kinds-append}
use Rattle.bag_algebra.specs.Bags.{Row, Bag}
use Rattle.bag_algebra.specs.built.Openings.{kinds_of-Filter, meaning-Filter, shape-Filter, Prov-is}
use Rattle.bag_algebra.specs.built.Forms.{AllSubsForm, EachTableOfSubs, subs_kinds, WellFormed-Filter, EachTable-Filter, SubsForm-row_of_subs}
use Rattle.bag_algebra.specs.Children.{subs_denote, subs_shape}
use Rattle.bag_algebra.specs.Expressions.{value}
use Rattle.bag_algebra.specs.Fits.{TablesFit, bag_fits, env_fits, row_begins}
use Rattle.bag_algebra.specs.Kinds.{kinds_of, place_kinds, shape}
use Rattle.bag_algebra.specs.Meaning.{Database, meaning, witnesses, condition_on}
use Rattle.bag_algebra.specs.Means.{Witness, flat, good_rows, is_met, kept}
use Rattle.bag_algebra.specs.Outcome.{Faults, Outcome, Good, Bad, and_then, gather}
use Rattle.bag_algebra.specs.Rewriting.{IsRewrite, SameSet, Stands}
use Rattle.bag_algebra.specs.TablesRead.{EachTable, tables_read}
use Rattle.bag_algebra.specs.WellFormed.{WellFormed, HasKind, FilterForm}
use Rattle.bag_algebra.specs.declared.expr.Expr.{Expr}
use Rattle.bag_algebra.specs.declared.query.Query.{Query}
use Rattle.bag_algebra.specs.declared.query.Query.TheVariants.{Filter, Prov}
use Rattle.bag_algebra.specs.declared.query.Sublink.{Sublink}
use Rattle.contribution.proofs.AddedColumns.{columns-added, condition_with_subs-same}
use Rattle.contribution.proofs.GoodRows.{from-gather, from-kept}
use Rattle.contribution.proofs.JoinMembers.{in-gather, in-kept}
use Rattle.contribution.proofs.LongerKinds.{has_kind-longer}
use Rattle.contribution.specs.Fitting.{Fitting}
use Rattle.rewrite_core.proofs.JoinedOutcomes.{rewritten-from_related}
use Rattle.rewrite_core.proofs.KeptRewriting.{rewriting-related}
use Rattle.rewrite_core.proofs.BesideLists.{same-from_rewritten}
use Rattle.rewrite_core.specs.rewritings.Rewritten.{Beside}
use Rattle.rewrite_core.proofs.Faults.{SameFaults, kept-alike, gather-bad_alike}
use Rattle.rewrite_core.proofs.FlatRows.{Flattened, flattened, row-begins, stands_beside}
use Rattle.rewrite_sublink.proofs.LongerRows.{flat-behind, names-rewriting, subs-named, contributes-longer, contributes-shorter}
use Rattle.rewrite_sublink.proofs.NodeRows.{first-good, kinds-whole, tables-whole, formed-whole, good-whole, bad-whole, Reaching, reaching-over}
use Rattle.rewrite_sublink.proofs.Steps.{SubsFitting, HasValues, OnRows, Reached, Steps, StepsGiven}
use Rattle.query_laws.proofs.NodeLists.{filter-lists}
use Rattle.query_laws.specs.ListsOfNodes.{Followed}
use Rattle.query_laws.specs.SublinkLists.{InAnswer, EachContributes}

-- first stands for the selection over the rewriting of its input, and where the condition is true of a row, that is known of it
module _ {known : OnRows} (q r first : Query) (condition : Expr) (subs : List Sublink) (whole : Query → Query) (given : IsRewrite q r) (stands : Stands (Filter r condition subs) first)
    (met_known : (db : Database) (env : List Row) (b : Row) → is_met (condition_on condition env (subs_denote subs db env) b) ≡ true → known db env b)
    (steps : StepsGiven known subs whole) where
  abbrev node : Query
  node = Filter q condition subs

  abbrev over : Query
  over = Filter r condition subs

  abbrev p : Query
  p = whole first

  tables-over : (P : ℕ → List Kind → Type 0) → EachTable P node → EachTable P over × EachTableOfSubs P subs
  tables-over P h =
      let of_node = by (EachTable-Filter P q condition subs) h in
      (by (sym (EachTable-Filter P r condition subs)) (reads_among-each P r q given.tables of_node.0, of_node.1), of_node.1)

  tables-made : (P : ℕ → List Kind → Type 0) → EachTable P node → EachTable P p
  tables-made P h = let found = tables-over P h in tables-whole stands steps P found.0 found.1

  module _ (outer : List (List Kind)) (formed : WellFormed outer node) where
    form : FilterForm (WellFormed outer q) (AllSubsForm (kinds_of q ∷ outer) subs) (HasKind (kinds_of q ∷ outer) (subs_kinds subs) condition Boolean)
    form = by (WellFormed-Filter outer q condition subs) formed

    begins-over : kinds_of over ≡ kinds_of q ++ place_kinds (shape q)
    begins-over = kinds_of-Filter r condition subs ∙ given.kinds outer form.input

    formed-over : WellFormed outer over
    formed-over =
        let names = names-rewriting q r outer given form.input in
        by (sym (WellFormed-Filter outer r condition subs)) (record {
          input = given.formed outer form.input;
          subs = subs-named subs (kinds_of q ∷ outer) (kinds_of r ∷ outer) names form.subs;
          condition = has_kind-longer names (subs_kinds subs) condition Boolean form.condition;
        })

    kinds-made : kinds_of p ≡ kinds_of node ++ place_kinds (shape node)
    kinds-made =
        kinds-whole stands steps outer (kinds_of q ∷ outer) formed-over form.subs
        ∙ ap (λ ks. ks ++ place_kinds (subs_shape subs)) begins-over
        ∙ append_assoc (kinds_of q) (place_kinds (shape q)) (place_kinds (subs_shape subs))
        ∙ (λ i. sym (kinds_of-Filter q condition subs) i ++ (sym (place_kinds-append (shape q) (subs_shape subs)) ∙ ap place_kinds (sym (shape-Filter q condition subs))) i)

    formed-made : WellFormed outer p
    formed-made = formed-whole stands steps (kinds_of q) outer (place_kinds (shape q)) form.subs begins-over formed-over

    module _ (db : Database) (env : List Row) (tables : TablesFit db node) (fits : env_fits env outer ≡ true) where
      abbrev on : Row → Outcome Value
      on = condition_on condition env (subs_denote subs db env)

      of_node : EachTable (λ id ks. bag_fits (db id) ks ≡ true) q × EachTableOfSubs (λ id ks. bag_fits (db id) ks ≡ true) subs
      of_node = by (EachTable-Filter (λ id ks. bag_fits (db id) ks ≡ true) q condition subs) tables

      input-fits : Fitting outer q db env
      input-fits = record { formed = form.input; tables = of_node.0; outer_rows = fits }

      over-fits : Fitting outer over db env
      over-fits = record { formed = formed-over; tables = (tables-over (λ id ks. bag_fits (db id) ks ≡ true) tables).0; outer_rows = fits }

      subs-fit : SubsFitting (kinds_of q) outer subs db env
      subs-fit = record { form = form.subs; tables = of_node.1; outer_rows = fits }

      bad : (faults : Faults) → meaning over db env ≡ Bad faults → meaning p db env ≡ Bad faults
      bad = bad-whole stands steps (kinds_of q) outer db env subs-fit over-fits

      module _ (us vs : Bag) (good : meaning q db env ≡ Good us) (b : Beside (witnesses q db env) us vs) where
        begins : (t : Row) → IsIn t us → row_begins t (kinds_of q) ≡ true
        begins t i = row-begins outer q db env input-fits us good t i

        on-longer : (t more : Row) → IsIn t us → on (t ++ more) ≡ on t
        on-longer t more i =
            sym (condition_with_subs-same (kinds_of q ∷ outer) subs db t (t ++ more) env env condition (subs_kinds subs)
            (by (sym (SubsForm-row_of_subs (kinds_of q ∷ outer) subs)) form.subs) form.condition (columns-added (kinds_of q) outer t more env (begins t i)))

        alike : (t : Row) (w : Witness) → IsIn t us → SameFaults (kept on t) (kept on (t ++ flat w))
        alike t w i = kept-alike on on t (t ++ flat w) (on-longer t (flat w) i)

        beside_rows : Flattened (witnesses q db env) us vs
        beside_rows = flattened (witnesses q db env) us vs b

        module _ (ts zs : Bag) (e : gather (kept on) us ≡ Good ts) (f : gather (kept on) vs ≡ Good zs) where
          -- the rows of the input on which the condition is true
          chosen : (t : Row) → IsIn t ts → IsIn t us × (is_met (on t) ≡ true)
          chosen t i =
              let found = from-gather (kept on) t us (subst (λ o. IsIn t (good_rows o)) (sym e) i) in
              let origin = from-kept on found.0 t found.2 in
              (subst (λ u. IsIn u us) origin.0 found.1, subst (λ u. is_met (on u) ≡ true) origin.0 origin.1)

          chosen-back : (t : Row) → IsIn t us → is_met (on t) ≡ true → IsIn t ts
          chosen-back t i met = in-gather (kept on) t t us ts e i (in-kept on t met)

          over-there : (t : Row) (w : Witness) → IsIn t ts → Contains (witnesses q db env t) w → IsIn (t ++ flat w) zs
          over-there t w i c =
              let h = chosen t i in
              in-gather (kept on) (t ++ flat w) (t ++ flat w) vs zs f (beside_rows.there t w h.0 c)
              (in-kept on (t ++ flat w) (ap is_met (on-longer t (flat w) h.0) ∙ h.1))

          over-back : (z : Row) → IsIn z zs → (t : Row) × (w : Witness) × IsIn t ts × Contains (witnesses q db env t) w × (t ++ flat w ≡ z)
          over-back z j =
              let found = from-gather (kept on) z vs (subst (λ o. IsIn z (good_rows o)) (sym f) j) in
              let origin = from-kept on found.0 z found.2 in
              let row = beside_rows.back z (subst (λ u. IsIn u vs) origin.0 found.1) in
              let met = subst (λ u. is_met (on u) ≡ true) (origin.0 ∙ sym row.4) origin.1 in
              (row.0, row.1, chosen-back row.0 row.2 (ap is_met (sym (on-longer row.0 (flat row.1) row.2)) ∙ met), row.3, row.4)

          values : (t : Row) → IsIn t ts → HasValues db env subs t
          values t i = first-good ((subs_denote subs db env).answers t) (value condition t env) (chosen t i).1

          known-over : (z : Row) → IsIn z zs → known db env z
          known-over z j =
              let found = from-gather (kept on) z vs (subst (λ o. IsIn z (good_rows o)) (sym f) j) in
              let origin = from-kept on found.0 z found.2 in
              met_known db env z (subst (λ u. is_met (on u) ≡ true) origin.0 origin.1)

          reached : meaning over db env ≡ Good zs → Reached p db env (λ z w. EachContributes db env z subs w) zs
          reached is_over =
              good-whole stands steps (kinds_of q) outer db env subs-fit zs (record { more = place_kinds (shape q); begins = begins-over; fitting = over-fits; good = is_over }) known-over

          lists_are : (t : Row) (w : Witness) → Contains (witnesses node db env t) w ↔ (InAnswer node db env t × Followed q subs db env t w)
          lists_are t w = filter-lists db env t w q condition subs

          module _ (made : Reached p db env (λ z w. EachContributes db env z subs w) zs) (is_node : meaning node db env ≡ Good ts) where
            all-rows : Flattened (witnesses node db env) ts made.bag
            all-rows = record {
              there = λ t w i c.
                  let list = ((lists_are t w).0 c).1 in
                  subst (λ x. IsIn x made.bag) (flat-behind t list.list list.contributions ∙ ap (λ w. t ++ flat w) list.whole)
                  (made.extended.there (t ++ flat list.list) list.contributions (over-there t list.list i list.is_list)
                  (contributes-longer subs-fit t (begins t (chosen t i).0) (values t i) (flat list.list) list.contributions list.contribute));
              back = λ y j.
                  let last = made.extended.back y j in
                  let row = over-back last.0 last.2 in
                  let t = row.0 in
                  let contribute = contributes-shorter subs-fit t (begins t (chosen t row.2).0) (values t row.2) (flat row.1) last.1
                  (subst (λ z. EachContributes db env z subs last.1) (sym row.4) last.3) in
                  let answer : InAnswer node db env t = record { bag = ts; good = is_node; row = in-member t ts row.2 } in
                  let followed : Followed q subs db env t (row.1 ++ last.1) =
                  record { list = row.1; contributions = last.1; is_list = row.3; contribute = contribute; whole = refl } in (
                    t,
                    row.1 ++ last.1,
                    row.2,
                    (lists_are t (row.1 ++ last.1)).1 (answer, followed),
                    sym (flat-behind t row.1 last.1) ∙ ap (λ z. z ++ flat last.1) row.4 ∙ last.4,
                  );
            }

        reaching : meaning r db env ≡ Good vs → Reaching node over p db env bad (gather (kept on) us) (gather (kept on) vs)
        reaching is_rewriting = record {
          faults = gather-bad_alike (kept on) (kept on) us vs (record {
            there = λ t i. let s = stands_beside (witnesses q db env) us vs b t i in (t ++ flat s.list, s.row, alike t s.list i);
            back = λ x j.
                let row = beside_rows.back x j in
                (row.0, row.2, subst (λ y. SameFaults (kept on row.0) (kept on y)) row.4 (alike row.0 row.1 row.2));
          });
          rows = λ ts zs e f.
              let is_node = meaning-Filter db env q condition subs ∙ ap (λ o. and_then o (gather (kept on))) good ∙ e in
              let is_over = meaning-Filter db env r condition subs ∙ ap (λ o. and_then o (gather (kept on))) is_rewriting ∙ f in
              let found = reached ts zs e f is_over in
              (found.bag, found.good, all-rows ts zs e f found is_node);
        }

      same_rows : SameSet (meaning (Prov node) db env) (meaning p db env)
      same_rows =
          same-from_rewritten node p db env
          (rewritten-from_related (witnesses node db env) (meaning node db env) (meaning p db env)
          (reaching-over node over p db env bad q r (gather (kept on)) (gather (kept on)) (meaning-Filter db env q condition subs) (meaning-Filter db env r condition subs)
          (λ us vs good is_rewriting b. reaching us vs good b is_rewriting) (rewriting-related outer q r db env input-fits given)))

  pub rewrite-Filter_given : IsRewrite node p
  rewrite-Filter_given = record {
    plain = steps.plain first stands.plain;
    kinds = kinds-made;
    formed = formed-made;
    tables = tables-made (λ id ks. Contains (tables_read node) (record { id = id; kinds = ks })) (reads_among-itself node);
    rows = λ outer db env formed tables fits. subst (λ n. SameSet (meaning n db env) (meaning p db env)) (Prov-is node) (same_rows outer formed db env tables fits);
  }

-- where the condition is true of a row, the sublinks have values on it
pub rewrite-Filter_with : (q r first : Query) (condition : Expr) (subs : List Sublink) (whole : Query → Query) → IsRewrite q r → Stands (Filter r condition subs) first → Steps subs whole →
    IsRewrite (Filter q condition subs) (whole first)
rewrite-Filter_with q r first condition subs whole given stands steps =
    rewrite-Filter_given q r first condition subs whole given stands
    (λ db env b met. first-good ((subs_denote subs db env).answers b) (value condition b env) met) steps
