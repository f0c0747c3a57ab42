-- The rule of a projection with sublinks.
use Rattle.std.proofs.Common.{◌≡◌, ◌↔◌, ℕ, ◌+◌, ◌-◌, ◌≤◌, ◌<◌, true, slice_index_or, All, List, [], ◌∷◌, ◌++◌, map, length, Contains, append_assoc, append-nil, length-append, refl, sym, ap, ◌∙◌, subst, arith}
use Rattle.std.proofs.lemmas.List.{map-append, length-map}
use Rattle.std.proofs.lemmas.List.Elements.{All-append}
use Rattle.std.specs.List.{range_with_len}
use Rattle.perm_values.specs.Rows.{picked, value_at, PlacesWithin}
use Rattle.perm_values.specs.declared.kind.Kind.{Kind}
use Rattle.perm_values.specs.declared.kind.Kind.TheVariants as kind
use Rattle.perm_values.specs.declared.value.Value.{Value}
use Rattle.perm_values.specs.declared.value.Value.TheVariants.{Null}
use Rattle.perm_values.proofs.Steps.{by}
use Rattle.bag_algebra.proofs.Members.{IsIn, in-map, from-map, in-member}
use Rattle.bag_algebra.proofs.Outcomes.{mapped-is, first-of_good}
use Rattle.bag_algebra.proofs.TablesRead.{reads_among-each, reads_among-itself}
use Rattle.bag_algebra.proofs.Widths.{place_kinds-append}
use Rattle.bag_algebra.specs.Bags.{Row, Bag}
use Rattle.bag_algebra.specs.built.Openings.{kinds_of-Project, meaning-Project, shape-Project, Prov-is}
use Rattle.bag_algebra.specs.built.Forms.{AllSubsForm, EachTableOfSubs, subs_kinds, WellFormed-Project, EachTable-Project, SubsForm-row_of_subs}
use Rattle.bag_algebra.specs.Children.{subs_denote, subs_shape}
use Rattle.bag_algebra.specs.ColumnItems.{column_item, column_items}
use Rattle.bag_algebra.specs.Expressions.{value}
use Rattle.bag_algebra.specs.Fits.{TablesFit, bag_fits, env_fits, row_begins}
use Rattle.bag_algebra.specs.Kinds.{kinds_of, kinds_in, place_kinds, shape, width_of, item_kinds}
use Rattle.bag_algebra.specs.Meaning.{Database, meaning, witnesses, items_on}
use Rattle.bag_algebra.specs.Means.{SubMeans, Witness, flat, good_rows}
use Rattle.bag_algebra.specs.Outcome.{Faults, Outcome, Good, Bad, and_then, both, each, mapped}
use Rattle.bag_algebra.specs.Rewriting.{IsRewrite, SameSet, Stands, is_plain}
use Rattle.bag_algebra.specs.TablesRead.{EachTable, tables_read}
use Rattle.bag_algebra.specs.WellFormed.{WellFormed, HasKind, ItemsForm, ProjectForm}
use Rattle.bag_algebra.specs.declared.expr.Item.{Item}
use Rattle.bag_algebra.specs.declared.query.Query.{Query}
use Rattle.bag_algebra.specs.declared.query.Query.TheVariants.{Project, Prov}
use Rattle.bag_algebra.specs.declared.query.Sublink.{Sublink}
use Rattle.contribution.proofs.AddedColumns.{columns-added, items_with_subs-same}
use Rattle.contribution.proofs.GoodRows.{from-each}
use Rattle.contribution.proofs.LongerKinds.{all-kept, has_kind-longer}
use Rattle.contribution.specs.Fitting.{Fitting}
use Rattle.rewrite_core.proofs.JoinedOutcomes.{rewritten-from_related}
use Rattle.rewrite_core.proofs.KeptRewriting.{rewriting-related}
use Rattle.rewrite_core.proofs.KeptRows.{row-width, list-width}
use Rattle.rewrite_core.proofs.Places.{at-between, within-range}
use Rattle.contribution.proofs.ColumnQueries.{all-first, all-nothing, all-rest, column_items-kinds, kind_there, kinds_of-columns, meaning-columns, formed-columns}
use Rattle.contribution.proofs.NodeQueries.{plain-projected}
use Rattle.rewrite_core.proofs.BesideLists.{same-from_rewritten}
use Rattle.rewrite_core.specs.rewritings.Rewritten.{Beside}
use Rattle.rewrite_core.proofs.Faults.{SameFaults, same_faults-made, each-bad_alike, in-each}
use Rattle.rewrite_core.proofs.FlatRows.{Flattened, flattened, row-begins, stands_beside}
use Rattle.rewrite_sublink.proofs.LongerRows.{flat-behind, names-rewriting, subs-named, values-longer, contributes-longer, contributes-shorter}
use Rattle.rewrite_sublink.proofs.NodeRows.{kinds-whole, tables-whole, formed-whole, good-whole, bad-whole, Reaching, reaching-over}
use Rattle.rewrite_sublink.proofs.Steps.{SubsFitting, HasValues, Reached, Steps}
use Rattle.rewrite_sublink.specs.Candidates.{beside_row, answer_places, answer_columns}
use Rattle.query_laws.proofs.AnswerRows.{answer-in, answer-from}
use Rattle.query_laws.proofs.NodeLists.{project-lists}
use Rattle.query_laws.specs.ListsOfNodes.{Followed, ProjectList}
use Rattle.query_laws.specs.SublinkLists.{InAnswer, EachContributes}

-- ---- the row, and then the items

module _ (z : Row) (env : List Row) (answers : List Value) where
  abbrev value_of_item : Item → Outcome Value
  value_of_item item = value item.expr z env answers

  columns-value : (kinds : List Kind) (places : List ℕ) → each value_of_item (column_items kinds places) ≡ Good (picked places z)
  columns-value kinds [] = refl
  columns-value kinds (place ∷ places) = ap (both (λ v vs. v ∷ vs) (Good (value_at z place))) (columns-value kinds places)

  mapped-first : (row : Row) (v : Value) (o : Outcome Row) → both (λ v vs. v ∷ vs) (Good v) (mapped (λ t. row ++ t) o) ≡ mapped (λ t. (v ∷ row) ++ t) o
  mapped-first row v (Good t) = refl
  mapped-first row v (Bad f) = refl

  mapped-none : (o : Outcome Row) → o ≡ mapped (λ t. [] ++ t) o
  mapped-none (Good t) = refl
  mapped-none (Bad f) = refl

  columns-before : (kinds : List Kind) (places : List ℕ) (items : List Item) →
      each value_of_item (column_items kinds places ++ items) ≡ mapped (λ t. picked places z ++ t) (each value_of_item items)
  columns-before kinds [] items = mapped-none (each value_of_item items)
  columns-before kinds (place ∷ places) items =
      ap (both (λ v vs. v ∷ vs) (Good (value_at z place))) (columns-before kinds places items)
      ∙ mapped-first (picked places z) (value_at z place) (each value_of_item items)

and_then-mapped : {X Y Z : Type 0} (o : Outcome X) (next : X → Outcome Y) (make : Y → Z) → and_then o (λ x. mapped make (next x)) ≡ mapped make (and_then o next)
and_then-mapped (Good x) next make = refl
and_then-mapped (Bad f) next make = refl

all-columns : (z : Row) → picked (range_with_len 0 (length z)) z ≡ z
all-columns z = ap (picked (range_with_len 0 (length z))) (sym (append-nil z)) ∙ at-between Null [] z [] 0 (length z) refl refl

pub beside_row-value : (q : Query) (items : List Item) (env : List Row) (s : SubMeans) (z : Row) → length z ≡ width_of q →
    items_on (beside_row q items) env s z ≡ mapped (λ t. z ++ t) (items_on items env s z)
beside_row-value q items env s z e =
    (λ i. and_then (s.answers z) (λ answers. columns-before z env answers (kinds_of q) (range_with_len 0 (width_of q)) items i))
    ∙ and_then-mapped (s.answers z) (λ answers. each (λ (item : Item). value item.expr z env answers) items) (λ t. picked (range_with_len 0 (width_of q)) z ++ t)
    ∙ ap (λ row. mapped (λ t. row ++ t) (items_on items env s z)) (ap (λ n. picked (range_with_len 0 n) z) (sym e) ∙ all-columns z)

pub beside_row-kinds : (q : Query) (items : List Item) → item_kinds (beside_row q items) ≡ kinds_of q ++ item_kinds items
beside_row-kinds q items =
    map-append (λ (item : Item). item.kind) (column_items (kinds_of q) (range_with_len 0 (width_of q))) items
    ∙ ap (λ ks. ks ++ item_kinds items)
    (column_items-kinds (kinds_of q) (range_with_len 0 (width_of q))
    ∙ ap (λ ks. kinds_in ks (range_with_len 0 (width_of q))) (sym (append-nil (kinds_of q))) ∙ at-between kind.Text [] (kinds_of q) [] 0 (width_of q) refl refl)

pub columns-formed : (kinds : List Kind) (outer : List (List Kind)) (subs : List Kind) (places : List ℕ) → PlacesWithin (length kinds) places →
    ItemsForm (kinds ∷ outer) subs (column_items kinds places)
columns-formed kinds outer subs [] within = all-nothing _
columns-formed kinds outer subs (place ∷ places) within =
    all-first (λ (item : Item). HasKind (kinds ∷ outer) subs item.expr item.kind) (column_item kinds place) (column_items kinds places)
    (kind_there kinds place (within 0 0 (omega arith)))
    (columns-formed kinds outer subs places (all-rest (λ (place : ℕ). place < length kinds) place places within))

-- ---- the columns of the answer

module _ {X : Type 0} (d : X) where
  abbrev at : List X → List ℕ → List X
  at xs places = map (λ place. slice_index_or xs place d) places

  -- of the input's columns, the provenance, the items and the contributions
  at-answer : (own added items more : List X) (o r m a : ℕ) → length own ≡ o → length (own ++ added) ≡ r → length items ≡ m → length ((own ++ added) ++ items ++ more) ≡ a →
      at ((own ++ added) ++ items ++ more) (answer_places o r m a) ≡ items ++ added ++ more
  at-answer own added items more o r m a e f g h =
      let all = (own ++ added) ++ items ++ more in
      let behind : length ((own ++ added) ++ items) ≡ r + m = length-append (own ++ added) items ∙ (λ i. f i + g i) in
      let added_is : length added ≡ r - o = omega (arith, e, f, length-append own added) in
      let more_is : length more ≡ a - (r + m) = omega (arith, h, behind, length-append ((own ++ added) ++ items) more) in
      map-append (λ place. slice_index_or all place d) (range_with_len r m ++ range_with_len o (r - o)) (range_with_len (r + m) (a - (r + m)))
      ∙ ap (λ xs. xs ++ at all (range_with_len (r + m) (a - (r + m)))) (map-append (λ place. slice_index_or all place d) (range_with_len r m) (range_with_len o (r - o)))
      ∙ (λ i.
      (ap (λ xs. at xs (range_with_len r m)) (append_assoc (own ++ added) items more) ∙ at-between d (own ++ added) items more r m f g) i
      ++ (ap (λ xs. at xs (range_with_len o (r - o))) (append_assoc (own ++ added) items more ∙ append_assoc own added (items ++ more)) ∙ at-between d own added (items ++ more) o (r - o) e added_is) i
      ++ (ap (λ xs. at ((own ++ added) ++ items ++ xs) (range_with_len (r + m) (a - (r + m)))) (sym (append-nil more))
      ∙ at-between d ((own ++ added) ++ items) more [] (r + m) (a - (r + m)) behind more_is) i)

answer-within : (o r m a : ℕ) → o ≤ r → r + m ≤ a → All (λ place. place < a) (answer_places o r m a)
answer-within o r m a e f =
    All-append (λ place. place < a) (range_with_len r m ++ range_with_len o (r - o)) (range_with_len (r + m) (a - (r + m)))
    (All-append (λ place. place < a) (range_with_len r m) (range_with_len o (r - o)) (within-range a r m (omega (arith, f))) (within-range a o (r - o) (omega (arith, e, f))))
    (within-range a (r + m) (a - (r + m)) (omega (arith, f)))

-- first stands for the row and the items over the rewriting of the input
module _ (q r first : Query) (items : List Item) (subs : List Sublink) (whole : Query → Query) (given : IsRewrite q r)
    (stands : Stands (Project r (beside_row r items) subs) first) (steps : Steps subs whole) where
  abbrev node : Query
  node = Project q items subs

  abbrev all_items : List Item
  all_items = beside_row r items

  abbrev over : Query
  over = Project r all_items subs

  abbrev middle : Query
  middle = whole first

  abbrev p : Query
  p = answer_columns middle (width_of q) (width_of r) (length items)

  plain-made : is_plain p ≡ true
  plain-made =
      plain-projected middle (column_items (kinds_of middle) (answer_places (width_of q) (width_of r) (length items) (width_of middle)))
      ∙ steps.plain first stands.plain

  tables-over : (P : ℕ → List Kind → Type 0) → EachTable P node → EachTable P over × EachTableOfSubs P subs
  tables-over P h =
      let of_node = by (EachTable-Project P q items subs) h in
      (by (sym (EachTable-Project P r all_items subs)) (reads_among-each P r q given.tables of_node.0, of_node.1), of_node.1)

  tables-made : (P : ℕ → List Kind → Type 0) → EachTable P node → EachTable P p
  tables-made P h = let found = tables-over P h in (tables-whole stands steps P found.0 found.1, tt)

  module _ (outer : List (List Kind)) (formed : WellFormed outer node) where
    form : ProjectForm (WellFormed outer q) (AllSubsForm (kinds_of q ∷ outer) subs) (ItemsForm (kinds_of q ∷ outer) (subs_kinds subs) items)
    form = by (WellFormed-Project outer q items subs) formed

    kinds-over : kinds_of over ≡ kinds_of q ++ place_kinds (shape q) ++ item_kinds items
    kinds-over =
        kinds_of-Project r all_items subs ∙ beside_row-kinds r items ∙ ap (λ ks. ks ++ item_kinds items) (given.kinds outer form.input)

    begins-over : kinds_of over ≡ kinds_of q ++ (place_kinds (shape q) ++ item_kinds items)
    begins-over = kinds-over ∙ append_assoc (kinds_of q) (place_kinds (shape q)) (item_kinds items)

    row-is : length (kinds_of q ++ place_kinds (shape q)) ≡ width_of r
    row-is = sym (ap length (given.kinds outer form.input))

    made-is : length (item_kinds items) ≡ length items
    made-is = length-map items (λ (item : Item). item.kind)

    formed-over : WellFormed outer over
    formed-over =
        let names = names-rewriting q r outer given form.input in
        by (sym (WellFormed-Project outer r all_items subs)) (record {
          input = given.formed outer form.input;
          subs = subs-named subs (kinds_of q ∷ outer) (kinds_of r ∷ outer) names form.subs;
          items =
              All-append (λ (item : Item). HasKind (kinds_of r ∷ outer) (subs_kinds subs) item.expr item.kind) (column_items (kinds_of r) (range_with_len 0 (width_of r))) items
              (columns-formed (kinds_of r) outer (subs_kinds subs) (range_with_len 0 (width_of r)) (within-range (width_of r) 0 (width_of r) (omega arith)))
              (all-kept (λ (item : Item). HasKind (kinds_of q ∷ outer) (subs_kinds subs) item.expr item.kind) (λ (item : Item). HasKind (kinds_of r ∷ outer) (subs_kinds subs) item.expr item.kind) items
              (λ item h. has_kind-longer names (subs_kinds subs) item.expr item.kind h) form.items);
        })

    kinds-middle : kinds_of middle ≡ (kinds_of q ++ place_kinds (shape q)) ++ item_kinds items ++ place_kinds (subs_shape subs)
    kinds-middle = kinds-whole stands steps outer (kinds_of q ∷ outer) formed-over form.subs ∙ ap (λ ks. ks ++ place_kinds (subs_shape subs)) kinds-over

    formed-middle : WellFormed outer middle
    formed-middle = formed-whole stands steps (kinds_of q) outer (place_kinds (shape q) ++ item_kinds items) form.subs begins-over formed-over

    kinds-made : kinds_of p ≡ kinds_of node ++ place_kinds (shape node)
    kinds-made =
        kinds_of-columns middle (answer_places (width_of q) (width_of r) (length items) (width_of middle))
        ∙ ap (λ ks. kinds_in ks (answer_places (width_of q) (width_of r) (length items) (length ks))) kinds-middle
        ∙ at-answer kind.Text (kinds_of q) (place_kinds (shape q)) (item_kinds items) (place_kinds (subs_shape subs)) (width_of q) (width_of r) (length items) _ refl row-is made-is refl
        ∙ append_assoc (item_kinds items) (place_kinds (shape q)) (place_kinds (subs_shape subs))
        ∙ (λ i. sym (kinds_of-Project q items subs) i ++ (sym (place_kinds-append (shape q) (subs_shape subs)) ∙ ap place_kinds (sym (shape-Project q items subs))) i)

    formed-made : WellFormed outer p
    formed-made =
        let wide = ap length kinds-middle in
        formed-columns middle (answer_places (width_of q) (width_of r) (length items) (width_of middle))
        (answer-within (width_of q) (width_of r) (length items) (width_of middle) (omega (arith, row-is, length-append (kinds_of q) (place_kinds (shape q))))
        (omega (arith, wide, row-is, made-is, length-append ((kinds_of q ++ place_kinds (shape q)) ++ item_kinds items) (place_kinds (subs_shape subs)), length-append (kinds_of q ++ place_kinds (shape q)) (item_kinds items))))
        outer formed-middle

    module _ (db : Database) (env : List Row) (tables : TablesFit db node) (fits : env_fits env outer ≡ true) where
      abbrev on : Row → Outcome Row
      on = items_on items env (subs_denote subs db env)

      abbrev all_on : Row → Outcome Row
      all_on = items_on all_items env (subs_denote subs db env)

      of_node : EachTable (λ id ks. bag_fits (db id) ks ≡ true) q × EachTableOfSubs (λ id ks. bag_fits (db id) ks ≡ true) subs
      of_node = by (EachTable-Project (λ id ks. bag_fits (db id) ks ≡ true) q items subs) tables

      input-fits : Fitting outer q db env
      input-fits = record { formed = form.input; tables = of_node.0; outer_rows = fits }

      over-fits : Fitting outer over db env
      over-fits = record { formed = formed-over; tables = (tables-over (λ id ks. bag_fits (db id) ks ≡ true) tables).0; outer_rows = fits }

      middle-fits : Fitting outer middle db env
      middle-fits = record { formed = formed-middle; tables = tables-whole stands steps (λ id ks. bag_fits (db id) ks ≡ true) over-fits.tables of_node.1; outer_rows = fits }

      subs-fit : SubsFitting (kinds_of q) outer subs db env
      subs-fit = record { form = form.subs; tables = of_node.1; outer_rows = fits }

      bad : (faults : Faults) → meaning over db env ≡ Bad faults → meaning p db env ≡ Bad faults
      bad faults e =
          meaning-columns middle (answer_places (width_of q) (width_of r) (length items) (width_of middle)) db env
          ∙ ap (mapped (map (picked (answer_places (width_of q) (width_of r) (length items) (width_of middle))))) (bad-whole stands steps (kinds_of q) outer db env subs-fit over-fits faults e)

      module _ (us vs : Bag) (good : meaning q db env ≡ Good us) (b : Beside (witnesses q db env) us vs) where
        begins : (u : Row) → IsIn u us → row_begins u (kinds_of q) ≡ true
        begins u i = row-begins outer q db env input-fits us good u i

        whole-width : (u : Row) (w : Witness) → IsIn u us → Contains (witnesses q db env u) w → length (u ++ flat w) ≡ width_of r
        whole-width u w i c =
            length-append u (flat w)
            ∙ (λ j. row-width outer q db env input-fits us u good (in-member u us i) j + list-width outer q db env input-fits u w c j)
            ∙ sym (length-append (kinds_of q) (place_kinds (shape q)))
            ∙ row-is

        on-longer : (u more : Row) → IsIn u us → on (u ++ more) ≡ on u
        on-longer u more i =
            sym (items_with_subs-same (kinds_of q ∷ outer) subs db u (u ++ more) env env items (subs_kinds subs)
            (by (sym (SubsForm-row_of_subs (kinds_of q ∷ outer) subs)) form.subs) form.items (columns-added (kinds_of q) outer u more env (begins u i)))

        all_on-is : (u : Row) (w : Witness) → IsIn u us → Contains (witnesses q db env u) w → all_on (u ++ flat w) ≡ mapped (λ t. (u ++ flat w) ++ t) (on u)
        all_on-is u w i c =
            beside_row-value r items env (subs_denote subs db env) (u ++ flat w) (whole-width u w i c) ∙ ap (mapped (λ t. (u ++ flat w) ++ t)) (on-longer u (flat w) i)

        alike : (u : Row) (w : Witness) → IsIn u us → Contains (witnesses q db env u) w → SameFaults (on u) (all_on (u ++ flat w))
        alike u w i c = subst (SameFaults (on u)) (sym (all_on-is u w i c)) (same_faults-made (λ t. (u ++ flat w) ++ t) (on u))

        beside_rows : Flattened (witnesses q db env) us vs
        beside_rows = flattened (witnesses q db env) us vs b

        module _ (ts zs : Bag) (e : each on us ≡ Good ts) (f : each all_on vs ≡ Good zs) where
          -- a row of the input, one of its lists, and what the items make of the row
          record Base (z : Row) : Type 0 where
            origin : Row
            list : Witness
            made : Row
            here : IsIn origin us
            is_list : Contains (witnesses q db env origin) list
            makes : on origin ≡ Good made
            same : (origin ++ flat list) ++ made ≡ z

          over-there : (u : Row) (w : Witness) (t : Row) → IsIn u us → Contains (witnesses q db env u) w → on u ≡ Good t → IsIn ((u ++ flat w) ++ t) zs
          over-there u w t i c makes =
              in-each all_on ((u ++ flat w) ++ t) (u ++ flat w) vs zs f (beside_rows.there u w i c) (all_on-is u w i c ∙ ap (mapped (λ t. (u ++ flat w) ++ t)) makes)

          over-back : (z : Row) → IsIn z zs → Base z
          over-back z j =
              let found = from-each all_on z vs (subst (λ o. IsIn z (good_rows o)) (sym f) j) in
              let row = beside_rows.back found.0 found.1 in
              let made = mapped-is (λ t. (row.0 ++ flat row.1) ++ t) (on row.0) z (sym (all_on-is row.0 row.1 row.2 row.3) ∙ ap all_on row.4 ∙ found.2) in
              record { origin = row.0; list = row.1; made = made.0; here = row.2; is_list = row.3; makes = made.1; same = made.2 }

          values : (u t : Row) → on u ≡ Good t → HasValues db env subs u
          values u t makes = first-of_good ((subs_denote subs db env).answers u) (λ found. each (λ (item : Item). value item.expr u env found) items) t makes

          values-over : (z : Row) → IsIn z zs → HasValues db env subs z
          values-over z j =
              let row = over-back z j in
              subst (HasValues db env subs) (sym (append_assoc row.origin (flat row.list) row.made) ∙ row.same)
              (values-longer subs-fit row.origin (begins row.origin row.here) (values row.origin row.made row.makes) (flat row.list ++ row.made))

          reached : meaning over db env ≡ Good zs → Reached middle db env (λ z w. EachContributes db env z subs w) zs
          reached is_over =
              good-whole stands steps (kinds_of q) outer db env subs-fit zs
              (record { more = place_kinds (shape q) ++ item_kinds items; begins = begins-over; fitting = over-fits; good = is_over }) values-over

          lists_are : (t : Row) (w : Witness) → Contains (witnesses node db env t) w ↔ (InAnswer node db env t × ProjectList q items subs db env t w)
          lists_are t w = project-lists db env t w q items subs

          module _ (found : Reached middle db env (λ z w. EachContributes db env z subs w) zs) (is_node : meaning node db env ≡ Good ts) (is_over : meaning over db env ≡ Good zs) where
            abbrev move : Row → Row
            move = picked (answer_places (width_of q) (width_of r) (length items) (width_of middle))

            made-width : (z : Row) (row : Base z) → IsIn z zs → length row.made ≡ length items
            made-width z row j =
                let all = row-width outer over db env over-fits zs z is_over (in-member z zs j) in
                omega (
                  arith,
                  ap length row.same,
                  all,
                  length-append (row.origin ++ flat row.list) row.made,
                  whole-width row.origin row.list row.here row.is_list,
                  ap length kinds-over,
                  length-append (kinds_of q ++ place_kinds (shape q)) (item_kinds items),
                  row-is,
                  made-is,
                )

            -- the columns of the answer of a row beside contributions
            moved : (z : Row) (row : Base z) (c : Witness) → IsIn z zs → IsIn (z ++ flat c) found.bag → move (z ++ flat c) ≡ row.made ++ flat (row.list ++ c)
            moved z row c j k =
                let wide = row-width outer middle db env middle-fits found.bag (z ++ flat c) found.good (in-member (z ++ flat c) found.bag k) in
                ap (λ x. move (x ++ flat c)) (sym row.same)
                ∙ at-answer Null row.origin (flat row.list) row.made (flat c) (width_of q) (width_of r) (length items) (width_of middle)
                (row-width outer q db env input-fits us row.origin good (in-member row.origin us row.here)) (whole-width row.origin row.list row.here row.is_list) (made-width z row j)
                (ap (λ x. length (x ++ flat c)) row.same ∙ wide)
                ∙ flat-behind row.made row.list c

            all-rows : Flattened (witnesses node db env) ts (map move found.bag)
            all-rows = record {
              there = λ t w i c.
                  let list = ((lists_are t w).0 c).1 in
                  let u = list.origin in
                  let here = subst (λ o. IsIn u (good_rows o)) good (answer-in q db env u list.there) in
                  let l = list.followed in
                  let z = (u ++ flat l.list) ++ t in
                  let base = over-there u l.list t here l.is_list list.makes in
                  let contribute = subst (λ z. EachContributes db env z subs l.contributions) (sym (append_assoc u (flat l.list) t))
                  (contributes-longer subs-fit u (begins u here) (values u t list.makes) (flat l.list ++ t) l.contributions l.contribute) in
                  let there = found.extended.there z l.contributions base contribute in
                  subst (λ x. IsIn x (map move found.bag))
                  (moved z (record { origin = u; list = l.list; made = t; here = here; is_list = l.is_list; makes = list.makes; same = refl }) l.contributions base there ∙ ap (λ w. t ++ flat w) l.whole)
                  (in-map move (z ++ flat l.contributions) found.bag there);
              back = λ x j.
                  let moved_from = from-map move x found.bag j in
                  let last = found.extended.back moved_from.0 moved_from.1 in
                  let row = over-back last.0 last.2 in
                  let u = row.origin in
                  let t = row.made in
                  let there = subst (λ y. IsIn y found.bag) (sym last.4) moved_from.1 in
                  let contribute = contributes-shorter subs-fit u (begins u row.here) (values u t row.makes) (flat row.list ++ t) last.1
                  (subst (λ z. EachContributes db env z subs last.1) (sym row.same ∙ append_assoc u (flat row.list) t) last.3) in
                  let here = in-each on t u us ts e row.here row.makes in
                  let answer : InAnswer node db env t = record { bag = ts; good = is_node; row = in-member t ts here } in
                  let followed : Followed q subs db env u (row.list ++ last.1) =
                  record { list = row.list; contributions = last.1; is_list = row.is_list; contribute = contribute; whole = refl } in
                  let list : ProjectList q items subs db env t (row.list ++ last.1) =
                  record { origin = u; there = answer-from q db env u (subst (λ o. IsIn u (good_rows o)) (sym good) row.here); makes = row.makes; followed = followed } in
                  (t, row.list ++ last.1, here, (lists_are t (row.list ++ last.1)).1 (answer, list), sym (moved last.0 row last.1 last.2 there) ∙ ap move last.4 ∙ moved_from.2);
            }

        reaching : meaning r db env ≡ Good vs → Reaching node over p db env bad (each on us) (each all_on vs)
        reaching is_rewriting = record {
          faults = each-bad_alike on all_on us vs (record {
            there = λ u i. let s = stands_beside (witnesses q db env) us vs b u i in (u ++ flat s.list, s.row, alike u s.list i s.is_list);
            back = λ x j.
                let row = beside_rows.back x j in
                (row.0, row.2, subst (λ y. SameFaults (on row.0) (all_on y)) row.4 (alike row.0 row.1 row.2 row.3));
          });
          rows = λ ts zs e f.
              let is_node = meaning-Project db env q items subs ∙ ap (λ o. and_then o (each on)) good ∙ e in
              let is_over = meaning-Project db env r all_items subs ∙ ap (λ o. and_then o (each all_on)) is_rewriting ∙ f in
              let found = reached ts zs e f is_over in
              let places = answer_places (width_of q) (width_of r) (length items) (width_of middle) in (
                map (picked places) found.bag,
                meaning-columns middle places db env ∙ ap (mapped (map (picked places))) found.good,
                all-rows ts zs e f found is_node is_over,
              );
        }

      same_rows : SameSet (meaning (Prov node) db env) (meaning p db env)
      same_rows =
          same-from_rewritten node p db env
          (rewritten-from_related (witnesses node db env) (meaning node db env) (meaning p db env)
          (reaching-over node over p db env bad q r (each on) (each all_on) (meaning-Project db env q items subs) (meaning-Project db env r all_items subs)
          (λ us vs good is_rewriting b. reaching us vs good b is_rewriting) (rewriting-related outer q r db env input-fits given)))

  pub rewrite-Project_with : IsRewrite node p
  rewrite-Project_with = record {
    plain = plain-made;
    kinds = kinds-made;
    formed = formed-made;
    tables = tables-made (λ id ks. Contains (tables_read node) (record { id = id; kinds = ks })) (reads_among-itself node);
    rows = λ outer db env formed tables fits. subst (λ n. SameSet (meaning n db env) (meaning p db env)) (Prov-is node) (same_rows outer formed db env tables fits);
  }
