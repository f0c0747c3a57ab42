-- A sublink that has the truth by which it chooses: with the left operand behind each row, the provenance of the rows whose comparison
-- has that truth, and then without the operand again, is a step.
use Rattle.std.proofs.Common.{◌≡◌, ℕ, ◌+◌, Bool, true, List, [], ◌∷◌, ◌++◌, map, filter, length, slice_get, Some, Contains, append_assoc, length-append, refl, sym, ap, ◌∙◌, subst, arith}
use Rattle.std.proofs.lemmas.Bool.{and_from}
use Rattle.std.proofs.lemmas.List.{get_or-append-add}
use Rattle.std.proofs.lemmas.List.Elements.{All-append}
use Rattle.std.specs.List.{range_with_len}
use Rattle.null_logic.specs.Comparison.{compare_values}
use Rattle.null_logic.specs.Logic.{value_of}
use Rattle.null_logic.specs.declared.truth.Truth.{Truth}
use Rattle.perm_values.specs.Rows.{picked, value_at}
use Rattle.perm_values.specs.declared.kind.Kind.{Kind}
use Rattle.perm_values.specs.declared.kind.Kind.TheVariants as kind
use Rattle.perm_values.specs.declared.value.Value.{Value}
use Rattle.perm_values.specs.declared.value.Value.TheVariants.{Null}
use Rattle.perm_values.proofs.Steps.{by}
use Rattle.bag_algebra.proofs.Members.{IsIn}
use Rattle.bag_algebra.proofs.TablesRead.{reads_among-each}
use Rattle.bag_algebra.specs.Bags.{Row, Bag}
use Rattle.bag_algebra.specs.built.Forms.{AllSubsForm, EachTable-Project, WellFormed-Project}
use Rattle.bag_algebra.specs.built.Openings.{kinds_of-Project, meaning-Project}
use Rattle.bag_algebra.specs.built.Patterns.{FilterOf}
use Rattle.bag_algebra.specs.built.Scopes.{all_plain, is_plain-Project}
use Rattle.bag_algebra.specs.Children.{subs_denote}
use Rattle.bag_algebra.specs.ColumnItems.{column_items}
use Rattle.bag_algebra.specs.Expressions.{has_truth, value}
use Rattle.bag_algebra.specs.Fits.{row_begins}
use Rattle.bag_algebra.specs.Kinds.{kinds_of, kind_in, place_kinds, shape, width_of}
use Rattle.bag_algebra.specs.Meaning.{Database, witnesses, items_on, optional_value, condition_on}
use Rattle.bag_algebra.specs.Means.{Witness, flat, cell, kept, no_subs}
use Rattle.bag_algebra.specs.Outcome.{Outcome, Good, and_then, mapped, both, gather}
use Rattle.bag_algebra.specs.Rewriting.{IsRewrite, is_plain}
use Rattle.bag_algebra.specs.WellFormed.{WellFormed, HasKind, TestedForm, sub_form}
use Rattle.bag_algebra.specs.declared.expr.Expr.{Expr}
use Rattle.bag_algebra.specs.declared.expr.Item.{Item}
use Rattle.bag_algebra.specs.declared.query.Query.{Query, end_of-Sublink}
use Rattle.bag_algebra.specs.declared.query.Sublink.{Sublink}
use Rattle.contribution.proofs.AddedColumns.{columns-added}
use Rattle.contribution.proofs.ColumnQueries.{all-first, all-nothing, kind_there, meaning-columns}
use Rattle.contribution.proofs.LongerKinds.{well_formed-longer}
use Rattle.contribution.proofs.NodeQueries.{meaning-chosen, formed-chosen, plain-chosen}
use Rattle.contribution.specs.SameColumns.{SameColumns}
use Rattle.lateral_rewrite.proofs.BehindSteps.{Behind, Made, step_behind}
use Rattle.lateral_rewrite.proofs.BesideRows.{left-beside}
use Rattle.lateral_rewrite.proofs.Choosing.{Decides, compared-formed, compared-value, tested_form}
use Rattle.lateral_rewrite.proofs.PlainSteps.{whole-width}
use Rattle.lateral_rewrite.proofs.Provenance.{kinds-provenance, formed-provenance, plain-provenance, chosen-lists}
use Rattle.lateral_rewrite.proofs.RightRows.{contributions, is_chosen}
use Rattle.lateral_rewrite.specs.Dependent.{beside, compared}
use Rattle.lateral_rewrite.specs.declared.choices.Choice.{Choice}
use Rattle.query_laws.proofs.SameExpressions.{tested-formed}
use Rattle.query_laws.specs.Standing.{SubStands}
use Rattle.rewrite_core.proofs.Places.{within-range}
use Rattle.rewrite_core.specs.rewritings.KeptColumns.{kept_places}
use Rattle.rewrite_move.proofs.KnownValues.{KnownValue, known-has, matching-chosen_of}
use Rattle.rewrite_move.specs.Moved.{matching_beside, matching_provenance, operand_item, with_operand}
use Rattle.rewrite_sublink.proofs.LongerRows.{names-begin, subs-named}
use Rattle.rewrite_sublink.proofs.MatchingRows.{gather-kept}
use Rattle.rewrite_sublink.proofs.ProjectRows.{beside_row-kinds, beside_row-value, columns-formed}
use Rattle.rewrite_sublink.proofs.Steps.{SubsFitting, HasValue, StepGiven}
use Rattle.rewrite_sublink.proofs.SublinkRows as under
use Rattle.rewrite_sublink.specs.Candidates.{beside_row}

-- what stands behind all columns
last-kind : (first : List Kind) (k : Kind) → slice_get (first ++ (k ∷ [])) (length first) ≡ Some k
last-kind first k =
    let at : length first ≡ length first + 0 = omega arith in
    ap (slice_get (first ++ (k ∷ []))) at
    ∙ kind_there (first ++ (k ∷ [])) (length first + 0) (omega (arith, length-append first (k ∷ [])))
    ∙ ap Some (get_or-append-add first (k ∷ []) 0 kind.Text)

last-value : (b : Row) (x : Value) (place : ℕ) → length b ≡ place → value_at (b ++ (x ∷ [])) place ≡ x
last-value b x place e =
    let at : place ≡ length b + 0 = omega (arith, e) in
    ap (value_at (b ++ (x ∷ []))) at ∙ get_or-append-add b (x ∷ []) 0 Null

module _ {sub stand : Sublink} {r : Query} (choice : Choice) (operand : Expr) (truth : Truth) (s : SubStands sub stand) (rewritten : IsRewrite sub.query r)
    (d : Decides sub.kind choice) (chooses : has_truth choice.truth (value_of truth) ≡ true) (tested_is : stand.tested ≡ Some operand) where
  abbrev own : ℕ
  own = width_of stand.query

  abbrev operand_kind : Kind
  operand_kind = kind_in (kinds_of stand.query) 0

  abbrev items : List Item
  items = operand_item stand operand ∷ []

  abbrev over : Query → Query
  over rows = with_operand rows stand operand

  abbrev right : Query → Query
  right rows = matching_provenance choice (width_of rows) stand r

  abbrev rows_of : Query → Query
  rows_of rows = FilterOf r (compared choice (width_of rows)) [] end_of-Sublink

  own-is : (scopes : List (List Kind)) → AllSubsForm scopes (sub ∷ []) → width_of sub.query ≡ own
  own-is scopes f = sym (ap length (s.query.kinds scopes f.query))

  kinds-over : (rows : Query) → kinds_of (over rows) ≡ kinds_of rows ++ (operand_kind ∷ [])
  kinds-over rows = kinds_of-Project rows (beside_row rows items) [] ∙ beside_row-kinds rows items

  kinds-right : (scopes : List (List Kind)) (rows : Query) → AllSubsForm scopes (sub ∷ []) → kinds_of (right rows) ≡ place_kinds (shape sub.query)
  kinds-right scopes rows f =
      kinds-provenance (rows_of rows) own (kinds_of sub.query) (place_kinds (shape sub.query)) (rewritten.kinds scopes f.query) (own-is scopes f)

  -- ---- well formed

  module _ (columns : List Kind) (outer : List (List Kind)) (f : AllSubsForm (columns ∷ outer) (sub ∷ [])) where
    form-of_operand : (scopes : List (List Kind)) → sub_form sub.kind sub.tested scopes (kinds_of sub.query) → TestedForm (kinds_of stand.query) (HasKind scopes [] operand)
    form-of_operand scopes h =
        tested_form sub.kind stand.tested operand scopes (kinds_of stand.query)
        (tested-formed sub.kind sub.tested stand.tested s.tested scopes (kinds_of stand.query)
        (subst (sub_form sub.kind sub.tested scopes) (sym (s.query.kinds (columns ∷ outer) f.query)) h)) tested_is

    operand-formed : (scopes : List (List Kind)) → sub_form sub.kind sub.tested scopes (kinds_of sub.query) → HasKind scopes [] operand operand_kind
    operand-formed scopes h =
        let form = form-of_operand scopes h in
        subst (HasKind scopes [] operand) (sym (ap (λ ks. kind_in ks 0) form.one)) form.compared

    module _ (rows : Query) (more : List Kind) (begins : kinds_of rows ≡ columns ++ more) where
      here : AllSubsForm (kinds_of rows ∷ outer) (sub ∷ [])
      here = subs-named (sub ∷ []) (columns ∷ outer) (kinds_of rows ∷ outer) (names-begin columns more (kinds_of rows) outer begins) f

      formed-over : WellFormed outer rows → WellFormed outer (over rows)
      formed-over w =
          by (sym (WellFormed-Project outer rows (beside_row rows items) [])) (record {
            input = w;
            subs = tt;
            items =
                All-append (λ (item : Item). HasKind (kinds_of rows ∷ outer) [] item.expr item.kind) (column_items (kinds_of rows) (range_with_len 0 (width_of rows))) items
                (columns-formed (kinds_of rows) outer [] (range_with_len 0 (width_of rows)) (within-range (width_of rows) 0 (width_of rows) (omega arith)))
                (all-first (λ (item : Item). HasKind (kinds_of rows ∷ outer) [] item.expr item.kind) (operand_item stand operand) []
                (operand-formed (kinds_of rows ∷ outer) here.fitting) (all-nothing (λ (item : Item). HasKind (kinds_of rows ∷ outer) [] item.expr item.kind)));
          })

      formed-right : WellFormed (kinds_of (over rows) ∷ outer) (right rows)
      formed-right =
          let wide = kinds_of (over rows) ∷ outer in
          let begins-over : kinds_of (over rows) ≡ columns ++ (more ++ (operand_kind ∷ [])) =
          kinds-over rows ∙ ap (λ ks. ks ++ (operand_kind ∷ [])) begins ∙ append_assoc columns more (operand_kind ∷ []) in
          let column = (form-of_operand (columns ∷ outer) f.fitting).one in
          let first : kinds_of r ≡ kinds_of stand.query ++ place_kinds (shape sub.query) =
          rewritten.kinds (columns ∷ outer) f.query ∙ ap (λ ks. ks ++ place_kinds (shape sub.query)) (sym (s.query.kinds (columns ∷ outer) f.query)) in
          formed-provenance (rows_of rows) own wide
          (formed-chosen r (compared choice (width_of rows)) wide
          (well_formed-longer r (columns ∷ outer) wide (names-begin columns (more ++ (operand_kind ∷ [])) (kinds_of (over rows)) outer begins-over)
          (rewritten.formed (columns ∷ outer) f.query))
          (compared-formed (kinds_of r ∷ wide) choice (width_of rows) operand_kind
          (ap (λ ks. slice_get ks (width_of rows)) (kinds-over rows) ∙ last-kind (kinds_of rows) operand_kind)
          (ap (λ ks. slice_get ks 0) (first ∙ ap (λ ks. ks ++ place_kinds (shape sub.query)) column) ∙ ap Some (sym (ap (λ ks. kind_in ks 0) column)))))

  -- ---- rows

  abbrev on : Database → List Row → Query → Row → Outcome Row
  on db env rows = items_on (beside_row rows items) env (subs_denote [] db env)

  module _ (columns : List Kind) (outer : List (List Kind)) (db : Database) (env : List Row) (f : SubsFitting columns outer (sub ∷ []) db env) (rows : Query) (b : Row)
      (begins : row_begins b columns ≡ true) (wide : length b ≡ width_of rows) (k : KnownValue (Some truth) sub db env b) where
    abbrev v : HasValue db env sub b
    v = known-has (Some truth) sub db env b k

    abbrev x : Value
    x = under.x f b begins v

    abbrev vs : Bag
    vs = under.vs f b begins v

    abbrev z : Row
    z = b ++ (x ∷ [])

    itself : SameColumns (columns ∷ outer) (b ∷ env) (b ∷ env)
    itself = record { same = λ level place k e. refl }

    operand-value : value operand b env [] ≡ Good x
    operand-value =
        ap (λ tested. optional_value tested env b) (sym tested_is)
        ∙ under.tested-there f b begins v stand.tested stand.query s.tested s.query b itself

    on-is : on db env rows b ≡ Good z
    on-is =
        beside_row-value rows items env (subs_denote [] db env) b wide
        ∙ ap (mapped (λ t. b ++ t)) (λ i. both (λ v vs. v ∷ vs) (operand-value i) (Good []))

    abbrev passes : Row → Bool
    passes row = has_truth choice.truth (value_of (compare_values choice.compare (value_at z (width_of rows)) (cell row)))

    agree : (row : Row) (w : Witness) → IsIn row vs → Contains (witnesses sub.query db (b ∷ env) row) w → passes (row ++ flat w) ≡ is_chosen sub.kind x vs row
    agree row w i c =
        ap (λ y. has_truth choice.truth (value_of (compare_values choice.compare y (cell (row ++ flat w))))) (last-value b x (width_of rows) wide)
        ∙ d.passes x (cell (row ++ flat w))
        ∙ under.first f b begins v row (flat w) i
        ∙ matching-chosen_of f b begins (Some truth) k choice d truth refl chooses row

    made : Made db env sub (operand_kind ∷ []) (on db env rows) (right rows) b
    made =
        let rs = under.rewriting-rows f b begins v rewritten in
        let places = kept_places 0 own (width_of r) in
        let ks = map (picked places) (filter passes rs.0) in
        record {
          behind = x ∷ [];
          wide = refl;
          row = on-is;
          rows = ks;
          good =
              meaning-columns (rows_of rows) places db (z ∷ env)
              ∙ ap (mapped (map (picked places)))
              (meaning-chosen r (compared choice (width_of rows)) db (z ∷ env)
              ∙ ap (λ o. and_then o (gather (kept (condition_on (compared choice (width_of rows)) (z ∷ env) no_subs))))
              (under.rewriting-there f b begins v rewritten z (columns-added columns outer b (x ∷ []) env begins))
              ∙ gather-kept (condition_on (compared choice (width_of rows)) (z ∷ env) no_subs) passes rs.0 (λ row i. compared-value choice (width_of rows) z env row));
          contributions =
              contributions f b begins v (width_of (right rows)) (sym (ap length (kinds-right (columns ∷ outer) rows f.form))) ks
              (chosen-lists sub.kind x vs rs.0 (witnesses sub.query db (b ∷ env)) rs.2 own (width_of r)
              (λ row i. under.wide f b begins v row i ∙ own-is (columns ∷ outer) f.form) (λ row w i c. whole-width f b begins v rewritten row w i c) passes agree);
        }

  behind : Behind (KnownValue (Some truth) sub) sub (operand_kind ∷ []) over right
  behind = record {
    has = known-has (Some truth) sub;
    kinds = kinds-over;
    plain = λ rows plain. is_plain-Project rows (beside_row rows items) [] ∙ and_from (is_plain rows) (all_plain []) plain refl;
    tables = λ P rows of_rows of_sub. by (sym (EachTable-Project P rows (beside_row rows items) [])) (of_rows, tt);
    formed = λ columns outer rows more f begins w. formed-over columns outer f rows more begins w;
    on = on;
    is_on = λ db env rows. meaning-Project db env rows (beside_row rows items) [];
    right_kinds = kinds-right;
    right_plain = λ rows. plain-provenance (rows_of rows) own ∙ plain-chosen r (compared choice (width_of rows)) ∙ rewritten.plain;
    right_tables = λ P rows of_sub. ((reads_among-each P r sub.query rewritten.tables of_sub, tt), tt);
    right_formed = λ columns outer rows more f begins. formed-right columns outer f rows more begins;
    made = made;
  }

  pub matching_step : StepGiven (KnownValue (Some truth) sub) sub (λ rows. matching_beside choice operand rows stand r)
  matching_step = step_behind behind (λ rows. beside (over rows) (right rows)) (λ rows. left-beside (over rows) (right rows))
