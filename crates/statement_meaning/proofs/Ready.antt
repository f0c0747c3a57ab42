-- A statement that breaks no rule names what is there, and its query can run.
use Rattle.std.proofs.Common.{◌≡◌, ◌∙◌, ℕ, true, false, not, List, [], ◌∷◌, ◌++◌, length, Option, Some, None, IsSome, refl, sym, ap, subst}
use Rattle.std.proofs.lemmas.Bool.{not-false}
use Rattle.std.specs.Option.{option_map_or}
use Rattle.std.specs.Prelude.{is_none, is_some}
use Rattle.perm_values.proofs.Lists.{front-none, back-none}
use Rattle.perm_values.proofs.Steps.{is_none-is}
use Rattle.query_facts.specs.monotone.Conditions.{ConditionFits}
use Rattle.perm_catalog.specs.Changes.{table_named, view_named, is_free}
use Rattle.perm_catalog.specs.Contents.{Contents}
use Rattle.perm_catalog.specs.Lookups.{first_user}
use Rattle.perm_catalog.specs.Sound.{IsSound, IsSoundAnswer}
use Rattle.perm_catalog.specs.declared.entries.TableEntry.{TableEntry}
use Rattle.sql_tree.specs.Regular.{RegularStatement, RegularStatementBody, RegularQuery}
use Rattle.sql_tree.specs.declared.expression.ExprTree.{ExprTree}
use Rattle.sql_tree.specs.declared.name.Name.{Name}
use Rattle.sql_tree.specs.declared.query.QueryTree.{QueryTree}
use Rattle.sql_tree.specs.declared.statement.Statement.{Statement}
use Rattle.sql_tree.specs.declared.statement.StatementBody.{StatementBody}
use Rattle.sql_tree.specs.declared.statement.StatementBody.TheVariants as st
use Rattle.name_meaning.specs.Meanings.{OutColumn, broken, broken_if}
use Rattle.name_meaning.specs.Froms.{names_of, settled_columns}
use Rattle.name_meaning.specs.Queries.{may_not_ask}
use Rattle.name_meaning.specs.Statements.{alone, answer_of, columns_of, delete_made, has_boolean, impact_query, query_meant, breaks, name_breaks, limit_breaks, named_query_breaks, on_table, repeated_columns, repeats, resolved, resolved_body, taken, unknown_table, unknown_view, used}
use Rattle.name_meaning.specs.declared.answer.Break.{Break}
use Rattle.name_meaning.proofs.Every.{unbroken-not}
use Rattle.name_meaning.proofs.Impacts.{earlier-none, impact-stands, tables-held}
use Rattle.name_meaning.proofs.TreeLaws.{query-answer, query-closed, query-wide}
use Rattle.name_meaning.proofs.FittingTables.{tables-fit}
use Rattle.name_meaning.proofs.SettledKinds.{settled-names}
use Rattle.name_meaning.specs.laws.Formed.{IsAnswer}
use Rattle.statement_meaning.specs.Ready.{CanExplain, CanLose, CanRun, IsReady}
use Rattle.name_meaning.specs.declared.rule.Rule.TheVariants as rule

-- the rules of names are looked at first
pub names-whole : (c : Contents) (statement : Statement) → breaks c statement ≡ [] → name_breaks c statement.body ≡ []
names-whole c statement = earlier-none (name_breaks c statement.body) (limit_breaks c statement.body)

there : {X : Type 0} (o : Option X) → is_none o ≡ false → IsSome o
there None e = absurd (cc e)
there (Some x) e = refl

module _ (c : Contents) where
  free : (name : Name) → taken c name ≡ [] → is_free c name.text ≡ true
  free name e = not-false (is_free c name.text) (unbroken-not (not (is_free c name.text)) rule.TakenName name.at e)

  known : (name : Name) → unknown_table c name ≡ [] → IsSome (table_named c name.text)
  known name e = there (table_named c name.text) (unbroken-not (is_none (table_named c name.text)) rule.UnknownRelation name.at e)

  known-view : (name : Name) → unknown_view c name ≡ [] → IsSome (view_named c name.text)
  known-view name e = there (view_named c name.text) (unbroken-not (is_none (view_named c name.text)) rule.UnknownRelation name.at e)

  unused : (name : Name) → used c name ≡ [] → first_user c name.text ≡ None
  unused name e = is_none-is (first_user c name.text) (unbroken-not (is_some (first_user c name.text)) rule.UsedByView name.at e)

  looked-at : (name : Name) (looked : TableEntry → List Break) → on_table c name looked ≡ [] → IsSome (table_named c name.text)
  looked-at name looked = chosen (table_named c name.text) where
    chosen : (o : Option TableEntry) → option_map_or looked o (broken rule.UnknownRelation name.at ∷ []) ≡ [] → IsSome o
    chosen None e = absurd (cc e)
    chosen (Some entry) e = refl

  can_run : (tree : QueryTree) → IsSound c → RegularQuery tree → (query_meant c tree).breaks ≡ []
      → CanRun c (answer_of (query_meant c tree))
  can_run tree sound regular whole = record {
    formed = (query-closed c tree alone sound regular whole refl []).0;
    fitting = tables-fit c tree alone sound [];
  }

  -- it has as many names as columns, and its keys are among these
  pub sound-answer : (tree : QueryTree) → IsSound c → RegularQuery tree → (query_meant c tree).breaks ≡ [] → IsSoundAnswer (answer_of (query_meant c tree))
  sound-answer tree sound regular whole =
      let a : IsAnswer (query_meant c tree) = query-answer c tree alone sound regular whole in
      record {
        closed = (query-closed c tree alone sound regular whole refl []).0;
        some = query-wide c tree alone sound regular whole [];
        named = ap (λ (o : Option (List OutColumn)). length (names_of (option_map_or settled_columns o []))) a.known ∙ settled-names a.columns ∙ a.named [];
        keys = a.keys [];
      }

  can_explain : (tree : QueryTree) → IsSound c → RegularQuery tree → (query_meant c tree).breaks ≡ [] → CanExplain c (answer_of (query_meant c tree))
  can_explain tree sound regular whole =
      record { sound = sound; is = sound-answer tree sound regular whole; held = tables-held c sound tree alone [] }

  -- what breaks no rule of CREATE TABLE AS
  pub named-whole : (table : Name) (tree : QueryTree) → name_breaks c (st.CreateTableAs table tree) ≡ []
      → named_query_breaks tree.at (query_meant c tree) ≡ []
  named-whole table tree whole =
      back-none (taken c table) (named_query_breaks tree.at (query_meant c tree))
      (front-none (taken c table ++ named_query_breaks tree.at (query_meant c tree))
      (broken_if (has_boolean (columns_of (query_meant c tree))) rule.UnfitKind tree.at) whole)

  pub query-whole : (tree : QueryTree) → named_query_breaks tree.at (query_meant c tree) ≡ [] → (query_meant c tree).breaks ≡ []
  query-whole tree whole =
      front-none (query_meant c tree).breaks (broken_if (repeats (names_of (columns_of (query_meant c tree)))) rule.RepeatedColumn tree.at) whole

  can_lose : (table : Name) (condition : Option ExprTree) (tree : QueryTree) → IsSound c → RegularStatementBody (st.Impact table condition tree)
      → name_breaks c (st.Impact table condition tree) ≡ [] → CanLose c table.text (delete_made c table condition) (answer_of (impact_query c tree))
  can_lose table condition tree sound regular whole =
      let stands = impact-stands c sound table condition tree regular whole in
      record {
        known = ap is_some stands.named;
        can = record { formed = stands.formed; fitting = tables-fit c tree (may_not_ask alone) sound [] };
        monotone = stands.monotone;
        fits = subst (λ (id : ℕ). ConditionFits id (delete_made c table condition) ((impact_query c tree).make []))
            (sym (ap (λ (o : Option TableEntry). option_map_or (λ (entry : TableEntry). entry.id) o 0) stands.named)) stands.fits;
      }

  body-ready : (body : StatementBody) → IsSound c → RegularStatementBody body → name_breaks c body ≡ []
      → IsReady c (resolved_body c body)
  body-ready (st.CreateTable table columns) sound regular whole = free table (front-none (taken c table) (repeated_columns [] columns) whole)
  body-ready (st.CreateTableAs table query) sound regular whole =
      let named : List Break = named_query_breaks query.at (query_meant c query) in (
        free table (front-none (taken c table) named
            (front-none (taken c table ++ named) (broken_if (has_boolean (columns_of (query_meant c query))) rule.UnfitKind query.at) whole)),
        can_run query sound regular (query-whole query (named-whole table query whole)),
      )
  body-ready (st.CreateView view query) sound regular whole =
      free view (front-none (taken c view) (named_query_breaks query.at (query_meant c query)) whole)
  body-ready (st.Copy table file header null_field) sound regular whole = known table whole
  body-ready (st.Insert table rows) sound regular whole = looked-at table _ whole
  body-ready (st.Delete table condition) sound regular whole = looked-at table _ whole
  body-ready (st.DropTable table) sound regular whole =
      (known table (front-none (unknown_table c table) (used c table) whole), unused table (back-none (unknown_table c table) (used c table) whole))
  body-ready (st.DropView view) sound regular whole =
      (known-view view (front-none (unknown_view c view) (used c view) whole), unused view (back-none (unknown_view c view) (used c view) whole))
  body-ready (st.Select query) sound regular whole = can_run query sound regular whole
  body-ready (st.Explain query) sound regular whole = can_explain query sound regular whole
  body-ready (st.ShowFresh table) sound regular whole = known table whole
  body-ready (st.Impact table condition query) sound regular whole = can_lose table condition query sound regular whole

pub whole-ready : (c : Contents) (statement : Statement) → IsSound c → RegularStatement statement
    → breaks c statement ≡ [] → IsReady c (resolved c statement)
whole-ready c statement sound regular whole = body-ready c statement.body sound regular (names-whole c statement whole)
