-- A sublink whose value may choose the rows that contribute: with this value and the left operand behind each row, the
-- provenance of the chosen rows of a rewriting, and then without the two again, is a step.
use Rattle.std.proofs.Common.{◌≡◌, ℕ, ◌+◌, Bool, true, not, ◌||◌, List, [], ◌∷◌, ◌++◌, map, filter, length, slice_get, Some, Contains, append_assoc, refl, sym, ap, ◌∙◌, subst, arith}
use Rattle.std.proofs.lemmas.Bool.{and_from}
use Rattle.std.proofs.lemmas.List.Elements.{All-append}
use Rattle.std.specs.List.{range_with_len}
use Rattle.null_logic.specs.Comparison.{compare_values}
use Rattle.null_logic.specs.Logic.{value_of}
use Rattle.perm_values.specs.Rows.{picked}
use Rattle.perm_values.specs.declared.kind.Kind.{Kind}
use Rattle.perm_values.specs.declared.kind.Kind.TheVariants as kind
use Rattle.perm_values.specs.declared.value.Value.{Value}
use Rattle.perm_values.proofs.Steps.{by}
use Rattle.bag_algebra.proofs.Members.{IsIn}
use Rattle.bag_algebra.proofs.TablesRead.{reads_among-each}
use Rattle.bag_algebra.specs.Bags.{Row, Bag}
use Rattle.bag_algebra.specs.built.Forms.{AllSubsForm, EachTable-Project, WellFormed-Project, subs_kinds}
use Rattle.bag_algebra.specs.built.Openings.{kinds_of-Project, meaning-Project}
use Rattle.bag_algebra.specs.built.Scopes.{all_plain, is_plain-Project}
use Rattle.bag_algebra.specs.Children.{subs_denote}
use Rattle.bag_algebra.specs.ColumnItems.{column_items}
use Rattle.bag_algebra.specs.Expressions.{value, has_truth}
use Rattle.bag_algebra.specs.Fits.{row_begins}
use Rattle.bag_algebra.specs.Kinds.{kinds_of, kind_in, place_kinds, shape, width_of}
use Rattle.bag_algebra.specs.Meaning.{Database, meaning, witnesses, items_on, optional_value, condition_on}
use Rattle.bag_algebra.specs.Means.{Witness, flat, cell, kept, no_subs, sub_value}
use Rattle.bag_algebra.specs.Outcome.{Outcome, Good, and_then, mapped, both, both_then, each, gather}
use Rattle.bag_algebra.specs.Rewriting.{IsRewrite, is_plain}
use Rattle.bag_algebra.specs.TablesRead.{EachTable}
use Rattle.bag_algebra.specs.WellFormed.{WellFormed, HasKind, TestedForm, sub_form, sub_kind}
use Rattle.bag_algebra.specs.declared.expr.Expr.{Expr}
use Rattle.bag_algebra.specs.declared.expr.Expr.TheVariants.{Sub}
use Rattle.bag_algebra.specs.declared.expr.Item.{Item}
use Rattle.bag_algebra.specs.declared.query.Query.{Query}
use Rattle.bag_algebra.specs.declared.query.Sublink.{Sublink}
use Rattle.contribution.proofs.ColumnQueries.{all-first, all-nothing, meaning-columns}
use Rattle.contribution.proofs.LongerKinds.{well_formed-longer}
use Rattle.contribution.proofs.NodeQueries.{meaning-chosen, formed-chosen, plain-chosen}
use Rattle.contribution.proofs.AddedColumns.{columns-added}
use Rattle.contribution.specs.SameColumns.{SameColumns}
use Rattle.query_laws.proofs.SameExpressions.{tested-formed}
use Rattle.query_laws.specs.Standing.{SubStands}
use Rattle.rewrite_core.proofs.Places.{within-range}
use Rattle.rewrite_core.specs.rewritings.KeptColumns.{columns_kept, kept_places}
use Rattle.rewrite_sublink.proofs.LongerRows.{names-begin, subs-named}
use Rattle.rewrite_sublink.proofs.MatchingRows.{gather-kept}
use Rattle.rewrite_sublink.proofs.ProjectRows.{beside_row-kinds, beside_row-value, columns-formed}
use Rattle.rewrite_sublink.proofs.Steps.{SubsFitting, HasValue, Step}
use Rattle.rewrite_sublink.proofs.SublinkRows as under
use Rattle.rewrite_sublink.specs.Candidates.{beside_row}
use Rattle.lateral_rewrite.proofs.BehindSteps.{Behind, Made, step_behind}
use Rattle.lateral_rewrite.proofs.BesideRows.{IsBeside}
use Rattle.lateral_rewrite.proofs.Choosing.{Decides, tested_form, passing, contributes-value, value-there, operand-there, contributes-formed, truth-kind, operand-kind}
use Rattle.lateral_rewrite.proofs.PlainSteps.{whole-width}
use Rattle.lateral_rewrite.proofs.Provenance.{kinds-provenance, formed-provenance, plain-provenance, chosen-lists}
use Rattle.lateral_rewrite.proofs.RightRows.{contributions, decided, is_chosen}
use Rattle.lateral_rewrite.proofs.WithoutSublinks.{value-without, has_kind-without}
use Rattle.lateral_rewrite.specs.Dependent.{chosen_provenance, chosen_rows, contributes, value_items, valued}
use Rattle.lateral_rewrite.specs.declared.choices.Choice.{Choice}

-- inner being what the dependent join of the rows with the two and the chosen provenance is
module _ {sub stand : Sublink} {r : Query} (choice : Choice) (operand : Expr) (s : SubStands sub stand) (rewritten : IsRewrite sub.query r) (d : Decides sub.kind choice)
    (tested_is : stand.tested ≡ Some operand) (inner : Query → Query)
    (is : (rows : Query) → IsBeside (valued rows stand operand) (chosen_provenance choice (width_of rows) stand r) (inner rows)) where
  abbrev own : ℕ
  own = width_of stand.query

  abbrev operand_kind : Kind
  operand_kind = kind_in (kinds_of stand.query) 0

  abbrev two : List Kind
  two = kind.Boolean ∷ operand_kind ∷ []

  abbrev items : List Item
  items = value_items stand operand

  abbrev right : Query → Query
  right rows = chosen_provenance choice (width_of rows) stand r

  abbrev valued_on : Database → List Row → Query → Row → Outcome Row
  valued_on db env rows = items_on (beside_row rows items) env (subs_denote (stand ∷ []) db env)

  -- ---- kinds

  own-is : (scopes : List (List Kind)) → AllSubsForm scopes (sub ∷ []) → width_of sub.query ≡ own
  own-is scopes f = sym (ap length (s.query.kinds scopes f.query))

  kinds-valued : (rows : Query) → kinds_of (valued rows stand operand) ≡ kinds_of rows ++ two
  kinds-valued rows = kinds_of-Project rows (beside_row rows items) (stand ∷ []) ∙ beside_row-kinds rows items

  kinds-right : (rows : Query) (scopes : List (List Kind)) → AllSubsForm scopes (sub ∷ []) → kinds_of (right rows) ≡ place_kinds (shape sub.query)
  kinds-right rows scopes f =
      kinds-provenance (chosen_rows choice (width_of rows) r) own (kinds_of sub.query) (place_kinds (shape sub.query)) (rewritten.kinds scopes f.query) (own-is scopes f)

  -- ---- plain, and which tables are read

  plain-valued : (rows : Query) → is_plain rows ≡ true → is_plain (valued rows stand operand) ≡ true
  plain-valued rows plain =
      is_plain-Project rows (beside_row rows items) (stand ∷ [])
      ∙ and_from (is_plain rows) (all_plain (stand ∷ [])) plain (and_from (is_plain stand.query) true s.query.plain refl)

  plain-right : (rows : Query) → is_plain (right rows) ≡ true
  plain-right rows = plain-provenance (chosen_rows choice (width_of rows) r) own ∙ plain-chosen r (contributes choice (width_of rows)) ∙ rewritten.plain

  module _ (P : ℕ → List Kind → Type 0) (rows : Query) where
    tables-valued : EachTable P rows → EachTable P sub.query → EachTable P (valued rows stand operand)
    tables-valued of_rows of_sub =
        by (sym (EachTable-Project P rows (beside_row rows items) (stand ∷ []))) (of_rows, (reads_among-each P stand.query sub.query s.query.tables of_sub, tt))

    tables-right : EachTable P sub.query → EachTable P (right rows)
    tables-right of_sub = ((reads_among-each P r sub.query rewritten.tables of_sub, tt), tt)

  module _ (columns : List Kind) (outer : List (List Kind)) where
    -- ---- well formed

    module _ (f : AllSubsForm (columns ∷ outer) (sub ∷ [])) (scopes : List (List Kind)) where
      stand-fitting : sub_form sub.kind sub.tested scopes (kinds_of sub.query) → sub_form sub.kind stand.tested scopes (kinds_of stand.query)
      stand-fitting h =
          tested-formed sub.kind sub.tested stand.tested s.tested scopes (kinds_of stand.query)
          (subst (sub_form sub.kind sub.tested scopes) (sym (s.query.kinds (columns ∷ outer) f.query)) h)

      form-of_operand : sub_form sub.kind sub.tested scopes (kinds_of sub.query) → TestedForm (kinds_of stand.query) (HasKind scopes [] operand)
      form-of_operand h = tested_form sub.kind stand.tested operand scopes (kinds_of stand.query) (stand-fitting h) tested_is

      operand-formed : sub_form sub.kind sub.tested scopes (kinds_of sub.query) → HasKind scopes [] operand operand_kind
      operand-formed h =
          let form = form-of_operand h in
          subst (HasKind scopes [] operand) (sym (ap (λ ks. kind_in ks 0) form.one)) form.compared

    module _ (f : AllSubsForm (columns ∷ outer) (sub ∷ [])) (rows : Query) (more : List Kind) (begins : kinds_of rows ≡ columns ++ more) where
      abbrev scopes : List (List Kind)
      scopes = kinds_of rows ∷ outer

      here : AllSubsForm scopes (sub ∷ [])
      here = subs-named (sub ∷ []) (columns ∷ outer) scopes (names-begin columns more (kinds_of rows) outer begins) f

      abbrev is_item : Item → Type 0
      is_item item = HasKind scopes (subs_kinds (stand ∷ [])) item.expr item.kind

      value-is : sub_kind stand.kind (kinds_of stand.query) ≡ kind.Boolean
      value-is = ap (λ k. sub_kind k (kinds_of stand.query)) (sym s.kind) ∙ d.truth (kinds_of stand.query)

      formed-valued : WellFormed outer rows → WellFormed outer (valued rows stand operand)
      formed-valued w =
          by (sym (WellFormed-Project outer rows (beside_row rows items) (stand ∷ []))) (record {
            input = w;
            subs = record {
              query = well_formed-longer stand.query (columns ∷ outer) scopes (names-begin columns more (kinds_of rows) outer begins) (s.query.formed (columns ∷ outer) f.query);
              fitting = subst (λ k. sub_form k stand.tested scopes (kinds_of stand.query)) s.kind (stand-fitting f scopes here.fitting);
              others = tt;
            };
            items =
                All-append is_item (column_items (kinds_of rows) (range_with_len 0 (width_of rows))) items
                (columns-formed (kinds_of rows) outer (subs_kinds (stand ∷ [])) (range_with_len 0 (width_of rows)) (within-range (width_of rows) 0 (width_of rows) (omega arith)))
                (all-first is_item (record { expr = Sub 0; kind = kind.Boolean }) (record { expr = operand; kind = operand_kind } ∷ []) (ap Some value-is)
                (all-first is_item (record { expr = operand; kind = operand_kind }) []
                (has_kind-without scopes (subs_kinds (stand ∷ [])) operand operand_kind (operand-formed f scopes here.fitting)) (all-nothing is_item)));
          })

      formed-right : WellFormed (kinds_of (valued rows stand operand) ∷ outer) (right rows)
      formed-right =
          let wide = kinds_of (valued rows stand operand) ∷ outer in
          let begins-valued : kinds_of (valued rows stand operand) ≡ columns ++ (more ++ two) =
          kinds-valued rows ∙ ap (λ ks. ks ++ two) begins ∙ append_assoc columns more two in
          let column = (form-of_operand f (columns ∷ outer) f.fitting).one in
          let first : kinds_of r ≡ kinds_of stand.query ++ place_kinds (shape sub.query) =
          rewritten.kinds (columns ∷ outer) f.query ∙ ap (λ ks. ks ++ place_kinds (shape sub.query)) (sym (s.query.kinds (columns ∷ outer) f.query)) in
          formed-provenance (chosen_rows choice (width_of rows) r) own wide
          (formed-chosen r (contributes choice (width_of rows)) wide
          (well_formed-longer r (columns ∷ outer) wide (names-begin columns (more ++ two) (kinds_of (valued rows stand operand)) outer begins-valued) (rewritten.formed (columns ∷ outer) f.query))
          (contributes-formed (kinds_of r ∷ wide) choice (width_of rows) operand_kind
          (ap (λ ks. slice_get ks (width_of rows)) (kinds-valued rows) ∙ truth-kind (kinds_of rows) kind.Boolean operand_kind)
          (ap (λ ks. slice_get ks (width_of rows + 1)) (kinds-valued rows) ∙ operand-kind (kinds_of rows) kind.Boolean operand_kind)
          (ap (λ ks. slice_get ks 0) (first ∙ ap (λ ks. ks ++ place_kinds (shape sub.query)) column) ∙ ap Some (sym (ap (λ ks. kind_in ks 0) column)))))

    -- ---- rows

    module _ (db : Database) (env : List Row) (f : SubsFitting columns outer (sub ∷ []) db env) (rows : Query) (b : Row) (begins : row_begins b columns ≡ true)
        (wide : length b ≡ width_of rows) (v : HasValue db env sub b) where
      abbrev x : Value
      x = under.x f b begins v

      abbrev vs : Bag
      vs = under.vs f b begins v

      -- the sublink's value
      told : (v : Value) × (sub_value sub.kind x vs ≡ Good v) × (has_truth choice.truth v ≡ decided sub.kind x vs)
      told = d.told x vs

      abbrev pair : Row
      pair = told.0 ∷ x ∷ []

      abbrev z : Row
      z = b ++ pair

      itself : SameColumns (columns ∷ outer) (b ∷ env) (b ∷ env)
      itself = record { same = λ level place k e. refl }

      stand-answer : both_then (optional_value stand.tested env b) (meaning stand.query db (b ∷ env)) (sub_value stand.kind) ≡ Good told.0
      stand-answer =
          ap (λ k. both_then (optional_value stand.tested env b) (meaning stand.query db (b ∷ env)) (sub_value k)) (sym s.kind)
          ∙ under.stand-value f b begins v stand.tested stand.query s.tested s.query b itself
          ∙ told.1

      operand-value : (answers : List Value) → value operand b env answers ≡ Good x
      operand-value answers =
          value-without (columns ∷ outer) b env answers operand operand_kind (operand-formed f.form (columns ∷ outer) f.form.fitting)
          ∙ ap (λ tested. optional_value tested env b) (sym tested_is)
          ∙ under.tested-there f b begins v stand.tested stand.query s.tested s.query b itself

      valued-row : valued_on db env rows b ≡ Good z
      valued-row =
          beside_row-value rows items env (subs_denote (stand ∷ []) db env) b wide
          ∙ ap (mapped (λ t. b ++ t))
          ((λ i. and_then (both (λ v vs. v ∷ vs) (stand-answer i) (Good [])) (λ answers. each (λ (item : Item). value item.expr b env answers) items))
          ∙ (λ i. both (λ v vs. v ∷ vs) (Good told.0) (both (λ v vs. v ∷ vs) (operand-value (told.0 ∷ []) i) (Good []))))

      abbrev passes : Row → Bool
      passes = passing choice (width_of rows) z env

      agree : (row : Row) (w : Witness) → IsIn row vs → Contains (witnesses sub.query db (b ∷ env) row) w → passes (row ++ flat w) ≡ is_chosen sub.kind x vs row
      agree row w i c = λ j.
          not ((ap (has_truth choice.truth) (value-there b told.0 x (width_of rows) wide) ∙ told.2) j)
          || (ap (λ y. has_truth choice.truth (value_of (compare_values choice.compare y (cell (row ++ flat w))))) (operand-there b told.0 x (width_of rows) wide)
          ∙ d.passes x (cell (row ++ flat w)) ∙ under.first f b begins v row (flat w) i) j

      -- under the row with the two behind it the right side has the contributions
      made : Made db env sub two (valued_on db env rows) (right rows) b
      made =
          let rs = under.rewriting-rows f b begins v rewritten in
          let places = kept_places 0 own (width_of r) in
          let ks = map (picked places) (filter passes rs.0) in
          record {
            behind = pair;
            wide = refl;
            row = valued-row;
            rows = ks;
            good =
                meaning-columns (chosen_rows choice (width_of rows) r) places db (z ∷ env)
                ∙ ap (mapped (map (picked places)))
                (meaning-chosen r (contributes choice (width_of rows)) db (z ∷ env)
                ∙ ap (λ o. and_then o (gather (kept (condition_on (contributes choice (width_of rows)) (z ∷ env) no_subs))))
                (under.rewriting-there f b begins v rewritten z (columns-added columns outer b pair env begins))
                ∙ gather-kept (condition_on (contributes choice (width_of rows)) (z ∷ env) no_subs) passes rs.0 (λ row i. contributes-value choice (width_of rows) z env row));
            contributions =
                contributions f b begins v (width_of (right rows)) (sym (ap length (kinds-right rows (columns ∷ outer) f.form))) ks
                (chosen-lists sub.kind x vs rs.0 (witnesses sub.query db (b ∷ env)) rs.2 own (width_of r)
                (λ row i. under.wide f b begins v row i ∙ own-is (columns ∷ outer) f.form) (λ row w i c. whole-width f b begins v rewritten row w i c) passes agree);
          }

  behind : Behind (λ db env b. HasValue db env sub b) sub two (λ rows. valued rows stand operand) right
  behind = record {
    has = λ db env b v. v;
    kinds = kinds-valued;
    plain = plain-valued;
    tables = tables-valued;
    formed = λ columns outer rows more f begins w. formed-valued columns outer f rows more begins w;
    on = valued_on;
    is_on = λ db env rows. meaning-Project db env rows (beside_row rows items) (stand ∷ []);
    right_kinds = λ scopes rows f. kinds-right rows scopes f;
    right_plain = plain-right;
    right_tables = tables-right;
    right_formed = λ columns outer rows more f begins. formed-right columns outer f rows more begins;
    made = made;
  }

  pub chosen_step_over : Step sub (λ rows. columns_kept (inner rows) (width_of rows) 2)
  chosen_step_over = step_behind behind inner is
