-- An IMPACT that breaks no rule of names and kinds can be answered.
use Rattle.std.specs.Prelude.{◌≡◌, ℕ, true, cond, List, [], ◌∷◌, ◌++◌, Option, Some, None, IfSome, option_map}
use Rattle.std.specs.Option.{option_map_or}
use Rattle.std.proofs.Common.{refl, ap, sym, ◌∙◌, subst, append-nil}
use Rattle.std.proofs.lemmas.List.Elements.{All-contains}
use Rattle.std.proofs.lemmas.Option.{same_Some}
use Rattle.perm_values.specs.declared.kind.Kind.{Kind}
use Rattle.perm_values.specs.declared.kind.Kind.TheVariants.{Boolean}
use Rattle.perm_values.proofs.Lists.{front-none, back-none}
use Rattle.bag_algebra.proofs.TablesRead.{each_table-from_told, each_table-kept}
use Rattle.bag_algebra.specs.built.Forms.{subs_kinds}
use Rattle.bag_algebra.specs.TablesRead.{EachTable, tables_read}
use Rattle.bag_algebra.specs.WellFormed.{HasKind}
use Rattle.bag_algebra.specs.declared.expr.Expr.{Expr}
use Rattle.bag_algebra.specs.declared.query.Query.{Query}
use Rattle.query_facts.specs.monotone.Conditions.{ConditionFits}
use Rattle.query_facts.specs.monotone.Monotone.{is_monotone}
use Rattle.perm_catalog.specs.Changes.{table_named}
use Rattle.perm_catalog.specs.Columns.{column_kinds}
use Rattle.perm_catalog.specs.Contents.{Contents}
use Rattle.perm_catalog.specs.Sound.{IsHeldRead, IsSound, IsSoundView}
use Rattle.perm_catalog.specs.declared.entries.TableEntry.{TableEntry}
use Rattle.sql_tree.specs.Regular.{IfThere, RegularExpr, RegularStatementBody}
use Rattle.sql_tree.specs.declared.expression.ExprTree.{ExprTree}
use Rattle.sql_tree.specs.declared.name.Name.{Name}
use Rattle.sql_tree.specs.declared.query.QueryTree.{QueryTree}
use Rattle.sql_tree.specs.declared.statement.StatementBody.TheVariants as st
use Rattle.name_meaning.specs.Froms.{table_columns}
use Rattle.name_meaning.specs.Meanings.{Around, QueryMeant, Surroundings, broken, is_whole, means_at, query_means_at}
use Rattle.name_meaning.specs.Queries.{may_not_ask}
use Rattle.name_meaning.specs.Scopes.{ScopeItem}
use Rattle.name_meaning.specs.Statements.{alone, bare, condition_made, delete_breaks, delete_made, impact_parts, impact_query, name_breaks, not_monotone, on_table, table_scope}
use Rattle.name_meaning.specs.Trees.{part_of, query_of}
use Rattle.name_meaning.specs.declared.answer.Break.{Break}
use Rattle.name_meaning.specs.declared.rule.Rule.TheVariants as rule
use Rattle.name_meaning.specs.laws.Impacts.{ImpactStands}
use Rattle.perm_catalog.specs.Held.{IsHeldTable}
use Rattle.name_meaning.specs.laws.Known.{column_kinds_of}
use Rattle.name_meaning.specs.laws.Standing.{AggregatesStand, StandAt}
use Rattle.name_meaning.proofs.Cores.{formed-condition}
use Rattle.name_meaning.proofs.Every.{unbroken}
use Rattle.name_meaning.proofs.FittingTables.{always-grows}
use Rattle.name_meaning.proofs.Froms.{scope-holds}
use Rattle.name_meaning.proofs.KindsOf.{kinds-table_columns}
use Rattle.name_meaning.proofs.ReadFroms.{IsHeld}
use Rattle.name_meaning.proofs.ReadTrees.{reads-query_tree}
use Rattle.name_meaning.proofs.TreeLaws.{expr-formed, query-closed}

-- ---- the tables that a query reads are the catalog's

module _ (c : Contents) (sound : IsSound c) where
  tables-known : IsHeld (λ names. IsHeldTable c) (always-grows (IsHeldTable c)) c
  tables-known = record {
    tables = λ name table e. record { name = name; table = table; named = e; id_is = refl; kinds_are = refl };
    views = λ name view e.
        let v : IsSoundView c view = sound.views name view e in
        each_table-from_told (IsHeldTable c) view.answer.query
        (λ read among.
        let held : IsHeldRead c view read = All-contains (IsHeldRead c view) (tables_read view.answer.query) read v.reads among in
        record { name = held.name; table = held.table; named = held.named; id_is = held.id; kinds_are = held.kinds });
  }

  pub tables-held : (tree : QueryTree) (around : Around) (wanted : List Kind) → EachTable (IsHeldTable c) ((query_means_at (query_of c tree) around).make wanted)
  unfolding query_means_at
  tables-held tree around wanted = reads-query_tree (λ names. IsHeldTable c) (always-grows (IsHeldTable c)) c tables-known tree around wanted

-- ---- rules that are looked at where earlier ones aren't broken

pub earlier-none : (earlier more : List Break) → cond (is_whole earlier) more earlier ≡ [] → earlier ≡ []
earlier-none [] more e = refl
earlier-none (first ∷ rest) more e = e

pub later-none : (earlier more : List Break) → cond (is_whole earlier) more earlier ≡ [] → more ≡ []
later-none [] more e = e
later-none (first ∷ rest) more e = cc e

module _ (c : Contents) (name : Name) (condition : Option ExprTree) (tree : QueryTree) (whole : name_breaks c (st.Impact name condition tree) ≡ []) where
  abbrev meant : QueryMeant
  meant = impact_query c tree

  parts-none : impact_parts c name condition tree ≡ []
  parts-none = earlier-none (impact_parts c name condition tree) (not_monotone tree.at meant) whole

  -- its query breaks nothing
  pub impact-query_whole : (impact_query c tree).breaks ≡ []
  impact-query_whole = back-none (on_table c name (delete_breaks c name condition)) meant.breaks parts-none

  condition-whole : on_table c name (delete_breaks c name condition) ≡ []
  condition-whole = front-none (on_table c name (delete_breaks c name condition)) meant.breaks parts-none

  impact-monotone : is_monotone (meant.make []) ≡ true
  impact-monotone =
      unbroken (is_monotone (meant.make [])) rule.NotMonotone tree.at
      (later-none (impact_parts c name condition tree) (not_monotone tree.at meant) whole)

-- ---- the condition

module _ (c : Contents) (sound : IsSound c) (name : Name) (table : TableEntry) (named : table_named c name.text ≡ Some table) where
  abbrev kinds : List Kind
  kinds = column_kinds table.columns

  abbrev items : List ScopeItem
  items = record { name = name.text; columns = table_columns table.columns } ∷ []

  condition-holds : (tree : ExprTree) → RegularExpr tree → delete_breaks c name (Some tree) table ≡ []
      → HasKind (kinds ∷ []) [] (condition_made c name tree table) Boolean
  condition-holds tree regular whole =
      let here : Surroundings = bare (table_scope name table ∷ []) in
      let formed = formed-condition here (part_of c tree).at (means_at (part_of c tree) here)
      (λ own wanted before. expr-formed c tree here sound regular own wanted before) whole in
      formed.holds (kinds ∷ []) []
      (scope-holds items kinds (kinds-table_columns table.columns ∙ sym (append-nil (column_kinds_of (table_columns table.columns)))), tt)
      (subst (λ aggregates. AggregatesStand here.scopes 0 aggregates (kinds ∷ [])) (sym (formed.without_aggregates refl)) tt)
      (subst (λ subs. StandAt 0 (subs_kinds subs) []) (sym (formed.without_subs refl)) tt)

  -- a table of this number that is read is the table
  read-kinds : (id : ℕ) (read : List Kind) → IsHeldTable c id read → id ≡ table.id → kinds ≡ read
  read-kinds id read held same =
      let one : held.name ≡ name.text = sound.identities held.name name.text held.table table held.named named (held.id_is ∙ same) in
      let is : held.table ≡ table = same_Some held.table table (sym held.named ∙ ap (table_named c) one ∙ named) in
      ap (λ (t : TableEntry). column_kinds t.columns) (sym is) ∙ held.kinds_are

  fits-read : (query : Query) (e : Expr) → EachTable (IsHeldTable c) query → HasKind (kinds ∷ []) [] e Boolean → ConditionFits table.id (Some e) query
  fits-read query e held holds =
      each_table-kept (IsHeldTable c) (λ other read. other ≡ table.id → HasKind (read ∷ []) [] e Boolean)
      (λ id read h same. subst (λ (ks : List Kind). HasKind (ks ∷ []) [] e Boolean) (read-kinds id read h same) holds) query held

  made-holds : (condition : Option ExprTree) → IfThere RegularExpr condition → delete_breaks c name condition table ≡ []
      → IfSome (delete_made c name condition) (λ (e : Expr). HasKind (kinds ∷ []) [] e Boolean)
  made-holds None regular whole = tt
  made-holds (Some tree) regular whole =
      subst (λ (o : Option TableEntry). IfSome (option_map (condition_made c name tree) o) (λ (e : Expr). HasKind (kinds ∷ []) [] e Boolean)) (sym named)
      (condition-holds tree (regular tree refl) whole)

  made-fits : (query : Query) (condition : Option Expr) → EachTable (IsHeldTable c) query → IfSome condition (λ (e : Expr). HasKind (kinds ∷ []) [] e Boolean)
      → ConditionFits table.id condition query
  made-fits query None held holds = tt
  made-fits query (Some e) held holds = fits-read query e held holds

-- ---- the statement

pub impact-stands : (c : Contents) → IsSound c → (name : Name) (condition : Option ExprTree) (tree : QueryTree) → RegularStatementBody (st.Impact name condition tree)
    → name_breaks c (st.Impact name condition tree) ≡ [] → ImpactStands c name.text (delete_made c name condition) ((impact_query c tree).make [])
impact-stands c sound name condition tree regular whole = by (table_named c name.text) refl (condition-whole c name condition tree whole) where
  by : (o : Option TableEntry) → table_named c name.text ≡ o
      → option_map_or (delete_breaks c name condition) o (broken rule.UnknownRelation name.at ∷ []) ≡ []
      → ImpactStands c name.text (delete_made c name condition) ((impact_query c tree).make [])
  by None named fine = absurd (cc fine)
  by (Some table) named fine =
      let closed = query-closed c tree (may_not_ask alone) sound regular.1 (impact-query_whole c name condition tree whole) refl [] in
      let held = tables-held c sound tree (may_not_ask alone) [] in
      let holds = made-holds c sound name table named condition regular.0 fine in
      record {
        table = table;
        named = named;
        monotone = impact-monotone c name condition tree whole;
        formed = closed.0;
        closed = closed.1;
        tables = held;
        holds = holds;
        fits = made-fits c sound name table named ((impact_query c tree).make []) (delete_made c name condition) held holds;
      }
