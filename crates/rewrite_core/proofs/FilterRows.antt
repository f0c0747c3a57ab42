-- The condition of a selection over a rewriting of its input is a rewriting of the selection.
use Rattle.std.proofs.Common.{◌≡◌, ◌↔◌, true, List, [], ◌∷◌, ◌++◌, Contains, sym, ap, ◌∙◌, subst, append-nil}
use Rattle.perm_values.specs.declared.kind.Kind.{Kind}
use Rattle.perm_values.specs.declared.kind.Kind.TheVariants.{Boolean}
use Rattle.perm_values.specs.declared.value.Value.{Value}
use Rattle.bag_algebra.proofs.Members.{IsIn, in-member}
use Rattle.bag_algebra.specs.Bags.{Row, Bag}
use Rattle.bag_algebra.specs.built.Forms.{Filter_alone-is}
use Rattle.bag_algebra.specs.Fits.{TablesFit, env_fits}
use Rattle.bag_algebra.specs.Kinds.{kinds_of, place_kinds, shape}
use Rattle.bag_algebra.specs.Meaning.{Database, meaning, witnesses, condition_on}
use Rattle.bag_algebra.specs.Means.{Witness, flat, good_rows, is_met, kept, no_subs}
use Rattle.bag_algebra.specs.Outcome.{Outcome, Good, and_then, gather}
use Rattle.bag_algebra.specs.built.Patterns.{FilterOf, ProvOf}
use Rattle.bag_algebra.specs.Rewriting.{IsRewrite, SameSet}
use Rattle.bag_algebra.specs.TablesRead.{EachTable, tables_read}
use Rattle.bag_algebra.specs.WellFormed.{WellFormed, HasKind}
use Rattle.bag_algebra.specs.declared.expr.Expr.{Expr}
use Rattle.bag_algebra.specs.declared.query.Query.{Query, end_of-Sublink}
use Rattle.bag_algebra.specs.declared.query.Query.TheVariants.{Filter}
use Rattle.contribution.proofs.AddedColumns.{columns-added, condition-same}
use Rattle.contribution.proofs.GoodRows.{from-gather, from-kept}
use Rattle.contribution.proofs.JoinMembers.{in-gather, in-kept}
use Rattle.contribution.proofs.LongerKinds.{has_kind-longer, names-more}
use Rattle.contribution.specs.Fitting.{Fitting}
use Rattle.contribution.proofs.NodeQueries.{meaning-chosen, formed-chosen, plain-chosen}
use Rattle.rewrite_core.proofs.Faults.{SameFaults, kept-alike, gather-bad_alike}
use Rattle.rewrite_core.proofs.FlatRows.{Flattened, flattened, stands_beside, row-begins}
use Rattle.rewrite_core.proofs.NodeRows.{Made, rewritten-over}
use Rattle.rewrite_core.proofs.RuleRows.{beside-from_rewrite, rows-from_beside}
use Rattle.rewrite_core.proofs.Unlinked.{listed-followed, followed-listed}
use Rattle.rewrite_core.specs.rewritings.Rewritten.{Beside}
use Rattle.query_laws.proofs.NodeLists.{filter-lists}
use Rattle.query_laws.specs.ListsOfNodes.{Followed}
use Rattle.query_laws.specs.SublinkLists.{InAnswer}

module _ (q r : Query) (condition : Expr) (given : IsRewrite q r) where
  abbrev node : Query
  node = FilterOf q condition [] end_of-Sublink

  abbrev rewriting : Query
  rewriting = FilterOf r condition [] end_of-Sublink

  module _ (outer : List (List Kind)) (db : Database) (env : List Row) (formed : WellFormed outer node) (tables : TablesFit db node) (fitting : env_fits env outer ≡ true) where
    abbrev on : Row → Outcome Value
    on = condition_on condition env no_subs

    input-fits : Fitting outer q db env
    input-fits = record { formed = formed.input; tables = tables.0; outer_rows = fitting }

    listed : (t : Row) (w : Witness) → Contains (witnesses node db env t) w ↔ (InAnswer node db env t × Followed q [] db env t w)
    listed t w =
        subst (λ n. Contains (witnesses n db env t) w ↔ (InAnswer n db env t × Followed q [] db env t w)) (Filter_alone-is q condition)
        (filter-lists db env t w q condition [])

    module _ (us vs : Bag) (good : meaning q db env ≡ Good us) (b : Beside (witnesses q db env) us vs) where
      -- behind the input's columns nothing is looked at
      on-longer : (t : Row) (w : Witness) → IsIn t us → on (t ++ flat w) ≡ on t
      on-longer t w i =
          sym (condition-same (kinds_of q ∷ outer) t (t ++ flat w) env env
          (columns-added (kinds_of q) outer t (flat w) env (row-begins outer q db env input-fits us good t i)) db end_of-Sublink condition [] tt formed.condition)

      alike : (t : Row) (w : Witness) → IsIn t us → SameFaults (kept on t) (kept on (t ++ flat w))
      alike t w i = kept-alike on on t (t ++ flat w) (on-longer t w i)

      beside_rows : Flattened (witnesses q db env) us vs
      beside_rows = flattened (witnesses q db env) us vs b

      rows : (ts zs : Bag) → gather (kept on) us ≡ Good ts → gather (kept on) vs ≡ Good zs → Flattened (witnesses node db env) ts zs
      rows ts zs e f = record {
        there = λ t w i c.
            let found = from-gather (kept on) t us (subst (λ o. IsIn t (good_rows o)) (sym e) i) in
            let origin = from-kept on found.0 t found.2 in
            let here = subst (λ u. IsIn u us) origin.0 found.1 in
            let met = subst (λ u. is_met (on u) ≡ true) origin.0 origin.1 in
            in-gather (kept on) (t ++ flat w) (t ++ flat w) vs zs f
            (beside_rows.there t w here (followed-listed q db env t w ((listed t w).0 c).1))
            (in-kept on (t ++ flat w) (ap is_met (on-longer t w here) ∙ met));
        back = λ x j.
            let found = from-gather (kept on) x vs (subst (λ o. IsIn x (good_rows o)) (sym f) j) in
            let origin = from-kept on found.0 x found.2 in
            let row = beside_rows.back x (subst (λ u. IsIn u vs) origin.0 found.1) in
            let met = ap is_met (sym (on-longer row.0 row.1 row.2)) ∙ subst (λ u. is_met (on u) ≡ true) (origin.0 ∙ sym row.4) origin.1 in
            let here = in-gather (kept on) row.0 row.0 us ts e row.2 (in-kept on row.0 met) in
            let answer : InAnswer node db env row.0 =
            record { bag = ts; good = meaning-chosen q condition db env ∙ ap (λ o. and_then o (gather (kept on))) good ∙ e; row = in-member row.0 ts here } in
            (row.0, row.1, here, (listed row.0 row.1).1 (answer, listed-followed q db env row.0 row.1 row.3), row.4);
      }

      made : Made node rewriting db env (gather (kept on) us) (gather (kept on) vs)
      made = record {
        faults = gather-bad_alike (kept on) (kept on) us vs (record {
          there = λ t i. let s = stands_beside (witnesses q db env) us vs b t i in (t ++ flat s.list, s.row, alike t s.list i);
          back = λ x j.
              let row = beside_rows.back x j in
              (row.0, row.2, subst (λ y. SameFaults (kept on row.0) (kept on y)) row.4 (alike row.0 row.1 row.2));
        });
        rows = rows;
      }

    same_rows : SameSet (meaning (ProvOf node) db env) (meaning rewriting db env)
    same_rows =
        rows-from_beside node rewriting db env
        (rewritten-over node rewriting db env q r (gather (kept on)) (gather (kept on)) (meaning-chosen q condition db env) (meaning-chosen r condition db env)
        (beside-from_rewrite q r db env given outer formed.input tables.0 fitting) made)

  rewrite-FilterOf : IsRewrite node rewriting
  rewrite-FilterOf = record {
    plain = plain-chosen r condition ∙ given.plain;
    kinds = λ outer formed. given.kinds outer formed.input ∙ ap (λ places. kinds_of q ++ place_kinds places) (sym (append-nil (shape q)));
    formed = λ outer formed.
        formed-chosen r condition outer (given.formed outer formed.input)
        (subst (λ kinds. HasKind (kinds ∷ outer) [] condition Boolean) (sym (given.kinds outer formed.input))
        (has_kind-longer (names-more (kinds_of q) (place_kinds (shape q)) outer) [] condition Boolean formed.condition));
    tables = (subst (λ reads. EachTable (λ id kinds. Contains reads (record { id = id; kinds = kinds })) r) (sym (append-nil (tables_read q))) given.tables, tt);
    rows = same_rows;
  }

  pub rewrite-Filter : IsRewrite (Filter q condition []) rewriting
  rewrite-Filter = subst (λ n. IsRewrite n rewriting) (sym (Filter_alone-is q condition)) rewrite-FilterOf
