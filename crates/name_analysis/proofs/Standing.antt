-- What a regular query that breaks nothing is made to can run: the laws of names are used here alone.
use Rattle.std.specs.Prelude.{◌≡◌, List, [], ◌++◌, length, Option, Some}
use Rattle.std.specs.Option.{option_map_or}
use Rattle.std.proofs.Common.{refl, ap, sym, ◌∙◌}
use Rattle.perm_values.proofs.Lists.{front-none, back-none}
use Rattle.perm_catalog.specs.Contents.{Contents}
use Rattle.perm_catalog.specs.Sound.{IsSound}
use Rattle.sql_tree.specs.Regular.{RegularQuery, RegularStatement, RegularStatementBody}
use Rattle.sql_tree.specs.declared.query.QueryTree.{QueryTree}
use Rattle.sql_tree.specs.declared.statement.Statement.{Statement}
use Rattle.sql_tree.specs.declared.statement.StatementBody.{StatementBody}
use Rattle.sql_tree.specs.declared.statement.StatementBody.TheVariants as st
use Rattle.name_meaning.specs.Froms.{names_of, settled_columns}
use Rattle.name_meaning.specs.Meanings.{Around, OutColumn, QueryMeant, broken_if, query_means_at}
use Rattle.name_meaning.specs.Queries.{may_not_ask}
use Rattle.name_meaning.specs.Scopes.{KnownColumn}
use Rattle.name_meaning.specs.Statements as words
use Rattle.name_meaning.specs.Trees.{query_of}
use Rattle.name_meaning.specs.declared.answer.Break.{Break}
use Rattle.name_meaning.proofs.Impacts.{impact-query_whole, impact-stands, tables-held, earlier-none}
use Rattle.name_meaning.proofs.SettledKinds.{settled-names, settled-kinds}
use Rattle.name_meaning.proofs.Trees.{query-known}
use Rattle.name_meaning.specs.laws.Formed.{IsAnswer}
use Rattle.name_meaning.proofs.TreeLaws.{query-answer, query-closed}
use Rattle.name_analysis.specs.Stands.{AnswerStands, BodyStands, shown_kinds}
use Rattle.name_meaning.specs.declared.rule.Rule.TheVariants as rule
use Rattle.name_meaning.specs.laws.Known.{column_kinds_of}

-- the definition's columns, where they are known
shown : (m : QueryMeant) (columns : List OutColumn) → m.columns ≡ Some columns → words.columns_of m ≡ settled_columns columns
shown m columns known = ap (λ (held : Option (List OutColumn)). option_map_or settled_columns held []) known

module _ (c : Contents) (sound : IsSound c) where
  -- ---- queries

  answer-stands : (tree : QueryTree) (around : Around) → around.outer ≡ [] → RegularQuery tree → (query_means_at (query_of c tree) around).breaks ≡ []
      → AnswerStands c (shown_kinds (query_means_at (query_of c tree) around)) (words.answer_of (query_means_at (query_of c tree) around))
  answer-stands tree around outermost regular whole =
      let m : QueryMeant = query_means_at (query_of c tree) around in
      let closed = query-closed c tree around sound regular whole outermost [] in
      let known = query-known c tree around sound whole in
      let answer : IsAnswer m = query-answer c tree around sound regular whole in
      record {
        formed = closed.0;
        closed = closed.1;
        kinds_are = known.kinds [] ∙ settled-kinds known.columns ∙ ap column_kinds_of (sym (shown m known.columns known.known));
        named = ap (λ (columns : List KnownColumn). length (names_of columns)) (shown m answer.columns answer.known)
            ∙ settled-names answer.columns ∙ answer.named [];
        keys = answer.keys [];
        tables = tables-held c sound tree around [];
      }

  -- ---- statements

  module _ (tree : QueryTree) where
    abbrev named_twice : List Break
    named_twice = broken_if (words.repeats (names_of (words.columns_of (words.query_meant c tree)))) rule.RepeatedColumn tree.at

    query-whole : (front : List Break) → front ++ words.named_query_breaks tree.at (words.query_meant c tree) ≡ [] → (words.query_meant c tree).breaks ≡ []
    query-whole front e =
        front-none (words.query_meant c tree).breaks named_twice (back-none front (words.named_query_breaks tree.at (words.query_meant c tree)) e)

  body-stands : (body : StatementBody) → RegularStatementBody body → words.name_breaks c body ≡ [] → BodyStands c body (words.resolved_body c body)
  body-stands (st.CreateTable table columns) regular whole = tt
  body-stands (st.CreateTableAs table query) regular whole =
      answer-stands query words.alone refl regular (query-whole query (words.taken c table)
      (front-none (words.taken c table ++ words.named_query_breaks query.at (words.query_meant c query))
      (broken_if (words.has_boolean (words.columns_of (words.query_meant c query))) rule.UnfitKind query.at) whole))
  body-stands (st.CreateView view query) regular whole = answer-stands query words.alone refl regular (query-whole query (words.taken c view) whole)
  body-stands (st.Copy table file header null_field) regular whole = tt
  body-stands (st.Insert table rows) regular whole = tt
  body-stands (st.Delete table condition) regular whole = tt
  body-stands (st.DropTable table) regular whole = tt
  body-stands (st.DropView view) regular whole = tt
  body-stands (st.Select query) regular whole = answer-stands query words.alone refl regular whole
  body-stands (st.Explain query) regular whole = answer-stands query words.alone refl regular whole
  body-stands (st.ShowFresh table) regular whole = tt
  body-stands (st.Impact table condition query) regular whole = (
    answer-stands query (may_not_ask words.alone) refl regular.1 (impact-query_whole c table condition query whole),
    impact-stands c sound table condition query regular whole,
  )

pub statement-stands : (c : Contents) (statement : Statement) → IsSound c → RegularStatement statement → words.breaks c statement ≡ []
    → BodyStands c statement.body (words.resolved c statement)
statement-stands c statement sound regular whole =
    body-stands c sound statement.body regular (earlier-none (words.name_breaks c statement.body) (words.limit_breaks c statement.body) whole)
