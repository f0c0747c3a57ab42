-- The items of a projection over a rewriting of its input, and then the input's provenance columns, are a rewriting of the
-- projection.
use Rattle.std.proofs.Common.{◌≡◌, ◌↔◌, true, List, [], ◌∷◌, ◌++◌, Contains, refl, sym, ap, ◌∙◌, subst, append-nil, arith}
use Rattle.std.specs.List.{range_with_len}
use Rattle.perm_values.specs.Rows.{picked}
use Rattle.perm_values.specs.declared.kind.Kind.{Kind}
use Rattle.perm_values.specs.declared.kind.Kind.TheVariants.{Text}
use Rattle.perm_values.specs.declared.value.Value.{Value}
use Rattle.perm_values.specs.declared.value.Value.TheVariants.{Null}
use Rattle.bag_algebra.proofs.Columns.{column_items-give}
use Rattle.bag_algebra.proofs.Members.{IsIn, in-member}
use Rattle.bag_algebra.proofs.Outcomes.{mapped-is}
use Rattle.bag_algebra.proofs.Widths.{places_width}
use Rattle.bag_algebra.specs.Bags.{Row, Bag}
use Rattle.bag_algebra.specs.built.Openings.{Project-is}
use Rattle.bag_algebra.specs.Expressions.{value}
use Rattle.bag_algebra.specs.Fits.{TablesFit, env_fits}
use Rattle.bag_algebra.specs.Kinds.{kinds_in, kinds_of, place_kinds, shape, width_of, item_kinds}
use Rattle.bag_algebra.specs.Meaning.{Database, meaning, witnesses, items_on}
use Rattle.bag_algebra.specs.Means.{Witness, flat, good_rows, no_subs}
use Rattle.bag_algebra.specs.Outcome.{Outcome, Good, Bad, and_then, both, each, mapped}
use Rattle.bag_algebra.specs.built.Patterns.{ProjectOf, ProvOf}
use Rattle.bag_algebra.specs.Rewriting.{IsRewrite, SameSet}
use Rattle.bag_algebra.specs.TablesRead.{EachTable, tables_read}
use Rattle.bag_algebra.specs.WellFormed.{HasKind, ItemsForm, WellFormed}
use Rattle.bag_algebra.specs.declared.expr.Item.{Item}
use Rattle.bag_algebra.specs.declared.query.Query.{Query, end_of-Sublink}
use Rattle.bag_algebra.specs.declared.query.Query.TheVariants.{Project}
use Rattle.contribution.proofs.AddedColumns.{columns-added, all_items-same}
use Rattle.contribution.proofs.GoodRows.{from-each}
use Rattle.contribution.proofs.LongerKinds.{all-kept, has_kind-longer, names-more}
use Rattle.contribution.specs.Fitting.{Fitting}
use Rattle.contribution.proofs.ColumnQueries.{column_items-formed, column_items-kinds}
use Rattle.contribution.proofs.NodeQueries.{meaning-projected, formed-projected, plain-projected}
use Rattle.contribution.proofs.Padding.{items-append, kinds-append}
use Rattle.rewrite_core.proofs.Faults.{SameFaults, same_faults-made, each-bad_alike, in-each}
use Rattle.rewrite_core.proofs.FlatRows.{Flattened, flattened, stands_beside, row-begins}
use Rattle.rewrite_core.proofs.NodeRows.{Made, rewritten-over}
use Rattle.rewrite_core.proofs.Places.{within-range}
use Rattle.rewrite_core.proofs.KeptRows.{list-width}
use Rattle.rewrite_core.proofs.RowColumns.{behind, row-width, width-rewriting, width-provenance}
use Rattle.rewrite_core.proofs.RuleRows.{beside-from_rewrite, rows-from_beside}
use Rattle.rewrite_core.proofs.Unlinked.{listed-followed, followed-listed}
use Rattle.rewrite_core.specs.ProvenanceColumns.{provenance_places, provenance_items}
use Rattle.rewrite_core.specs.rewritings.Rewritten.{Beside}
use Rattle.query_laws.proofs.AnswerRows.{answer-in, answer-from}
use Rattle.query_laws.proofs.NodeLists.{project-lists}
use Rattle.query_laws.specs.ListsOfNodes.{ProjectList}
use Rattle.query_laws.specs.SublinkLists.{InAnswer}

-- ---- items that give on each row what they make, and then more

mapped-first : (behind : Row) (o : Outcome Value) (s : Outcome Row) →
    both (λ v vs. v ∷ vs) o (mapped (λ t. t ++ behind) s) ≡ mapped (λ t. t ++ behind) (both (λ v vs. v ∷ vs) o s)
mapped-first behind (Good v) (Good t) = refl
mapped-first behind (Good v) (Bad g) = refl
mapped-first behind (Bad f) (Good t) = refl
mapped-first behind (Bad f) (Bad g) = refl

items-before : (env : List Row) (u behind : Row) (more : List Item) → items_on more env no_subs u ≡ Good behind → (items : List Item) →
    items_on (items ++ more) env no_subs u ≡ mapped (λ t. t ++ behind) (items_on items env no_subs u)
items-before env u behind more good [] = good
items-before env u behind more good (item ∷ items) =
    ap (both (λ v vs. v ∷ vs) (value item.expr u env [])) (items-before env u behind more good items)
    ∙ mapped-first behind (value item.expr u env []) (items_on items env no_subs u)

module _ (q r : Query) (items : List Item) (given : IsRewrite q r) where
  abbrev node : Query
  node = ProjectOf q items [] end_of-Sublink

  abbrev pub all_items : List Item
  all_items = items ++ provenance_items q r

  abbrev pub rewriting : Query
  rewriting = ProjectOf r all_items [] end_of-Sublink

  module _ (outer : List (List Kind)) (formed : WellFormed outer node) where
    -- the places are those of the provenance columns
    places-are : provenance_places q r ≡ range_with_len (width_of q) (places_width (shape q))
    places-are = ap (range_with_len (width_of q)) (width-provenance q r given outer formed.input)

    kinds-rewriting : kinds_of rewriting ≡ kinds_of node ++ place_kinds (shape node)
    kinds-rewriting =
        kinds-append items (provenance_items q r)
        ∙ ap (λ kinds. item_kinds items ++ kinds)
        (column_items-kinds (kinds_of r) (provenance_places q r)
        ∙ (λ i. kinds_in (given.kinds outer formed.input i) (places-are i))
        ∙ behind Text (kinds_of q) (place_kinds (shape q)) (width_of q) refl)
        ∙ ap (λ places. item_kinds items ++ place_kinds places) (sym (append-nil (shape q)))

    formed-rewriting : WellFormed outer rewriting
    formed-rewriting =
        formed-projected r all_items outer (given.formed outer formed.input)
        (items-append (kinds_of r ∷ outer) items (provenance_items q r)
        (subst (λ kinds. ItemsForm (kinds ∷ outer) [] items) (sym (given.kinds outer formed.input))
        (all-kept (λ (item : Item). HasKind (kinds_of q ∷ outer) [] item.expr item.kind) (λ (item : Item). HasKind ((kinds_of q ++ place_kinds (shape q)) ∷ outer) [] item.expr item.kind) items
        (λ item h. has_kind-longer (names-more (kinds_of q) (place_kinds (shape q)) outer) [] item.expr item.kind h) formed.items))
        (column_items-formed (kinds_of r) outer (provenance_places q r)
        (let e = width-rewriting q r given outer formed.input in within-range (width_of r) (width_of q) _ (omega arith))))

    module _ (db : Database) (env : List Row) (tables : TablesFit db node) (fitting : env_fits env outer ≡ true) where
      abbrev on : Row → Outcome Row
      on = items_on items env no_subs

      abbrev all_on : Row → Outcome Row
      all_on = items_on all_items env no_subs

      input-fits : Fitting outer q db env
      input-fits = record { formed = formed.input; tables = tables.0; outer_rows = fitting }

      listed : (t : Row) (w : Witness) → Contains (witnesses node db env t) w ↔ (InAnswer node db env t × ProjectList q items [] db env t w)
      listed t w =
          subst (λ n. Contains (witnesses n db env t) w ↔ (InAnswer n db env t × ProjectList q items [] db env t w)) (Project-is q items)
          (project-lists db env t w q items [])

      module _ (us vs : Bag) (good : meaning q db env ≡ Good us) (b : Beside (witnesses q db env) us vs) where
        on-longer : (u : Row) (w : Witness) → IsIn u us → on (u ++ flat w) ≡ on u
        on-longer u w i =
            sym (all_items-same (kinds_of q ∷ outer) u (u ++ flat w) env env
            (columns-added (kinds_of q) outer u (flat w) env (row-begins outer q db env input-fits us good u i)) db end_of-Sublink items [] tt formed.items)

        provenance-picked : (u : Row) (w : Witness) → IsIn u us → Contains (witnesses q db env u) w → picked (provenance_places q r) (u ++ flat w) ≡ flat w
        provenance-picked u w i c =
            ap (λ places. picked places (u ++ flat w)) places-are
            ∙ ap (λ n. picked (range_with_len (width_of q) n) (u ++ flat w)) (sym (list-width outer q db env input-fits u w c))
            ∙ behind Null u (flat w) (width_of q) (row-width outer q db env input-fits us good u i)

        all_on-longer : (u : Row) (w : Witness) → IsIn u us → Contains (witnesses q db env u) w → all_on (u ++ flat w) ≡ mapped (λ t. t ++ flat w) (on u)
        all_on-longer u w i c =
            items-before env (u ++ flat w) (flat w) (provenance_items q r)
            (column_items-give (kinds_of r) (provenance_places q r) env (u ++ flat w) ∙ ap Good (provenance-picked u w i c)) items
            ∙ ap (mapped (λ t. t ++ flat w)) (on-longer u w i)

        alike : (u : Row) (w : Witness) → IsIn u us → Contains (witnesses q db env u) w → SameFaults (on u) (all_on (u ++ flat w))
        alike u w i c = subst (SameFaults (on u)) (sym (all_on-longer u w i c)) (same_faults-made (λ t. t ++ flat w) (on u))

        beside_rows : Flattened (witnesses q db env) us vs
        beside_rows = flattened (witnesses q db env) us vs b

        rows : (ts zs : Bag) → each on us ≡ Good ts → each all_on vs ≡ Good zs → Flattened (witnesses node db env) ts zs
        rows ts zs e f = record {
          there = λ t w i c.
              let list = ((listed t w).0 c).1 in
              let u = list.origin in
              let here = subst (λ o. IsIn u (good_rows o)) good (answer-in q db env u list.there) in
              let is_list = followed-listed q db env u w list.followed in
              in-each all_on (t ++ flat w) (u ++ flat w) vs zs f (beside_rows.there u w here is_list)
              (all_on-longer u w here is_list ∙ ap (mapped (λ t. t ++ flat w)) list.makes);
          back = λ x j.
              let found = from-each all_on x vs (subst (λ o. IsIn x (good_rows o)) (sym f) j) in
              let row = beside_rows.back found.0 found.1 in
              let u = row.0 in
              let w = row.1 in
              let made = mapped-is (λ t. t ++ flat w) (on u) x (sym (all_on-longer u w row.2 row.3) ∙ ap all_on row.4 ∙ found.2) in
              let t = made.0 in
              let here = in-each on t u us ts e row.2 made.1 in
              let answer : InAnswer node db env t =
              record { bag = ts; good = meaning-projected q items db env ∙ ap (λ o. and_then o (each on)) good ∙ e; row = in-member t ts here } in
              let list : ProjectList q items [] db env t w =
              record { origin = u; there = answer-from q db env u (subst (λ o. IsIn u (good_rows o)) (sym good) row.2); makes = made.1; followed = listed-followed q db env u w row.3 } in
              (t, w, here, (listed t w).1 (answer, list), made.2);
        }

        made : Made node rewriting db env (each on us) (each all_on vs)
        made = record {
          faults = each-bad_alike on all_on us vs (record {
            there = λ u i. let s = stands_beside (witnesses q db env) us vs b u i in (u ++ flat s.list, s.row, alike u s.list i s.is_list);
            back = λ x j.
                let row = beside_rows.back x j in
                (row.0, row.2, subst (λ y. SameFaults (on row.0) (all_on y)) row.4 (alike row.0 row.1 row.2 row.3));
          });
          rows = rows;
        }

      same_rows : SameSet (meaning (ProvOf node) db env) (meaning rewriting db env)
      same_rows =
          rows-from_beside node rewriting db env
          (rewritten-over node rewriting db env q r (each on) (each all_on) (meaning-projected q items db env) (meaning-projected r all_items db env)
          (beside-from_rewrite q r db env given outer formed.input tables.0 fitting) made)

  rewrite-ProjectOf : IsRewrite node rewriting
  rewrite-ProjectOf = record {
    plain = plain-projected r all_items ∙ given.plain;
    kinds = λ outer formed. kinds-rewriting outer formed;
    formed = λ outer formed. formed-rewriting outer formed;
    tables = (subst (λ reads. EachTable (λ id kinds. Contains reads (record { id = id; kinds = kinds })) r) (sym (append-nil (tables_read q))) given.tables, tt);
    rows = λ outer db env formed tables fitting. same_rows outer formed db env tables fitting;
  }

  pub rewrite-Project : IsRewrite (Project q items []) rewriting
  rewrite-Project = subst (λ n. IsRewrite n rewriting) (sym (Project-is q items)) rewrite-ProjectOf
