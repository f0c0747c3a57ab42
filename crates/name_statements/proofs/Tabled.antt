-- Statements without a query: the first break of names, and then that of the limit.
use Rattle.std.specs.Prelude.{◌≡◌, ℕ, Bool, cond, is_none, List, [], ◌∷◌, ◌++◌, flat_map, IsErrAnd, Option, Some, None, option_map, Result, Ok, Err}
use Rattle.std.specs.Option.{option_map_or}
use Rattle.std.proofs.Common.{refl, ap, sym, subst, ◌∙◌}
use Rattle.bag_algebra.specs.declared.expr.Expr.{Expr}
use Rattle.name_seen_parts.proofs.Firsts.{both-none, first-behind, first-stays, none-broken}
use Rattle.name_seen_parts.specs.Told.{Tells}
use Rattle.perm_catalog.specs.Changes.{table_named}
use Rattle.perm_catalog.specs.Columns.{column_kinds}
use Rattle.perm_catalog.specs.Contents.{Contents}
use Rattle.perm_catalog.specs.declared.column.Column.{Column}
use Rattle.perm_catalog.specs.declared.entries.TableEntry.{TableEntry}
use Rattle.perm_values.specs.declared.kind.Kind.{Kind}
use Rattle.sql_tree.specs.declared.expression.ExprTree.{ExprTree}
use Rattle.sql_tree.specs.declared.name.Name.{Name}
use Rattle.sql_tree.specs.declared.statement.ColumnDef.{ColumnDef}
use Rattle.sql_tree.specs.declared.statement.StatementBody.TheVariants as st
use Rattle.sql_tree.specs.declared.statement.ValuesRow.{ValuesRow}
use Rattle.name_meaning.specs.Meanings.{broken}
use Rattle.name_meaning.specs.Statements as words
use Rattle.name_meaning.specs.declared.answer.Break.{Break}
use Rattle.name_meaning.specs.declared.answer.Resolved.{Resolved}
use Rattle.name_meaning.specs.declared.answer.Resolved.TheVariants as r
use Rattle.name_seen_parts.specs.Seen.{first_or}
use Rattle.name_seen_parts.specs.declared.refusal.Refusal.{Refusal}
use Rattle.name_seen_parts.specs.declared.refusal.Refusal.TheVariants.{Break as Broken, NoMemory}
use Rattle.name_statements.specs.Resolves.{ConditionSeen, Resolves, ResolvesBody, ResolvesBy, body_breaks}
use Rattle.name_statements.proofs.Bodies.{limited_by, limits-behind, names-first}
use Rattle.name_statements.proofs.Refused.{Refuses, resolves-not}
use Rattle.name_meaning.specs.declared.rule.Rule.TheVariants as rule

pub err-is : (result : Result Unit Break) (first : Break) → IsErrAnd result (λ (other : Break). other ≡ first) → result ≡ Err first
err-is (Ok x) first is = absurd is
err-is (Err other) first is = ap Err is

-- two rules of names and a limit behind them
module _ (front back limit : List Break) where
  pub first-of-names : (first : Break) → Err first ≡ first_or front (tt {0}) → Err first ≡ first_or (limited_by (front ++ back) limit) (tt {0})
  first-of-names first e = sym (names-first (front ++ back) limit first (first-stays front back (tt {0}) (tt {0}) first (sym e)))

  pub second-of-names : (first : Break) → Ok (tt {0}) ≡ first_or front (tt {0}) → Err first ≡ first_or back (tt {0})
      → Err first ≡ first_or (limited_by (front ++ back) limit) (tt {0})
  second-of-names first fine e = sym (names-first (front ++ back) limit first
      (first-behind front back (tt {0}) (none-broken front (tt {0}) (tt {0}) (sym fine)) ∙ sym e))

  pub behind-names : Ok (tt {0}) ≡ first_or front (tt {0}) → Ok (tt {0}) ≡ first_or back (tt {0})
      → first_or limit (tt {0}) ≡ first_or (limited_by (front ++ back) limit) (tt {0})
  behind-names fine good = sym (ap (λ (breaks : List Break). first_or breaks (tt {0})) (limits-behind (front ++ back) limit
      (both-none front back (none-broken front (tt {0}) (tt {0}) (sym fine)) (none-broken back (tt {0}) (tt {0}) (sym good)))))

-- a rule and one behind it
module _ (front back : List Break) where
  pub first-of-two : (first : Break) → Err first ≡ first_or front (tt {0}) → Err first ≡ first_or (front ++ back) (tt {0})
  first-of-two first e = sym (first-stays front back (tt {0}) (tt {0}) first (sym e))

  pub behind-one : Ok (tt {0}) ≡ first_or front (tt {0}) → first_or back (tt {0}) ≡ first_or (front ++ back) (tt {0})
  behind-one fine = sym (first-behind front back (tt {0}) (none-broken front (tt {0}) (tt {0}) (sym fine)))

-- ---- statements without a limit

pub without-limit : (names : List Break) → limited_by names [] ≡ names
without-limit [] = refl
without-limit (first ∷ more) = refl

refused-by : (names : List Break) (wanted : Resolved) (refusal : Refusal) → Refuses names refusal → Resolves (limited_by names []) wanted (Err refusal)
refused-by names wanted refusal e =
    resolves-not (limited_by names []) wanted refusal (subst (λ (breaks : List Break). Refuses breaks refusal) (sym (without-limit names)) e)

refused-told : (names : List Break) (refusal : Refusal) → Tells (first_or names (tt {0})) (Err refusal) → Refuses names refusal
refused-told names (Broken first) e = e
refused-told names NoMemory e = tt

resolved-by : (names : List Break) (wanted made : Resolved) → names ≡ [] → made ≡ wanted → Resolves (limited_by names []) wanted (Ok made)
resolved-by names wanted made none same = record { whole = without-limit names ∙ none; is = same }

-- ---- CREATE TABLE

pub create-made : (c : Contents) (table : Name) (columns : List ColumnDef) (text : List ℕ) (defined : List Column) → body_breaks c (st.CreateTable table columns) ≡ []
    → defined ≡ words.defined_columns columns → text ≡ table.text → ResolvesBody c (st.CreateTable table columns) (Ok (r.CreateTable text defined))
create-made c table columns text defined none same called = record { whole = none; is = λ i. r.CreateTable (called i) (same i) }

-- ---- DROP TABLE, DROP VIEW, SHOW FRESH

module _ (c : Contents) (name : Name) where
  pub drop-made : (text : List ℕ) → words.unknown_table c name ++ words.used c name ≡ [] → text ≡ name.text → ResolvesBody c (st.DropTable name) (Ok (r.DropTable text))
  drop-made text none called =
      resolved-by (words.unknown_table c name ++ words.used c name) (r.DropTable name.text) (r.DropTable text) none (ap r.DropTable called)

  pub drop-made_view : (text : List ℕ) → words.unknown_view c name ++ words.used c name ≡ [] → text ≡ name.text → ResolvesBody c (st.DropView name) (Ok (r.DropView text))
  drop-made_view text none called =
      resolved-by (words.unknown_view c name ++ words.used c name) (r.DropView name.text) (r.DropView text) none (ap r.DropView called)

  pub fresh-made : (text : List ℕ) → words.unknown_table c name ≡ [] → text ≡ name.text → ResolvesBody c (st.ShowFresh name) (Ok (r.ShowFresh text))
  fresh-made text none called = resolved-by (words.unknown_table c name) (r.ShowFresh name.text) (r.ShowFresh text) none (ap r.ShowFresh called)

-- ---- on a table: COPY, INSERT and DELETE

module _ (c : Contents) (table : Name) where
  -- the table isn't there
  on-none : (looked : TableEntry → List Break) (wanted : Resolved) (first : Break) → table_named c table.text ≡ None → first ≡ broken rule.UnknownRelation table.at
      → Resolves (limited_by (words.on_table c table looked) []) wanted (Err (Broken first))
  on-none looked wanted first unknown is =
      refused-by (words.on_table c table looked) wanted (Broken first)
      (ap (λ (held : Option TableEntry). first_or (option_map_or looked held (broken rule.UnknownRelation table.at ∷ [])) (tt {0})) unknown ∙ ap Err (sym is))

  pub copy-none : (file null_field : List ℕ) (header : Bool) (first : Break) → table_named c table.text ≡ None → first ≡ broken rule.UnknownRelation table.at
      → ResolvesBody c (st.Copy table file header null_field) (Err (Broken first))
  copy-none file null_field header first unknown is =
      refused-by (words.unknown_table c table) (words.resolved_body c (st.Copy table file header null_field)) (Broken first)
      (ap (λ (held : Option TableEntry). first_or (cond (is_none held) (broken rule.UnknownRelation table.at ∷ []) []) (tt {0})) unknown ∙ ap Err (sym is))

  pub insert-none : (rows : List ValuesRow) (first : Break) → table_named c table.text ≡ None → first ≡ broken rule.UnknownRelation table.at
      → ResolvesBody c (st.Insert table rows) (Err (Broken first))
  insert-none rows first unknown is =
      on-none (λ (entry : TableEntry). flat_map (words.row_breaks c (column_kinds entry.columns)) rows) (words.resolved_body c (st.Insert table rows)) first unknown is

  pub delete-none : (condition : Option ExprTree) (first : Break) → table_named c table.text ≡ None → first ≡ broken rule.UnknownRelation table.at
      → ResolvesBody c (st.Delete table condition) (Err (Broken first))
  delete-none condition first unknown is =
      on-none (words.delete_breaks c table condition) (words.resolved_body c (st.Delete table condition)) first unknown is

  -- the table is there
  module _ (entry : TableEntry) (known : table_named c table.text ≡ Some entry) where
    on-some : (looked : TableEntry → List Break) → words.on_table c table looked ≡ looked entry
    on-some looked = ap (λ (held : Option TableEntry). option_map_or looked held (broken rule.UnknownRelation table.at ∷ [])) known

    kinds-are : words.kinds_of_table c table ≡ column_kinds entry.columns
    kinds-are = ap (λ (held : Option TableEntry). option_map_or (λ (there : TableEntry). column_kinds there.columns) held []) known

    pub copy-made : (file null_field text : List ℕ) (header : Bool) (kinds : List Kind) → kinds ≡ column_kinds entry.columns → text ≡ table.text
        → ResolvesBody c (st.Copy table file header null_field) (Ok (r.Copy text kinds file null_field header))
    copy-made file null_field text header kinds same called =
        resolved-by (words.unknown_table c table) (words.resolved_body c (st.Copy table file header null_field)) (r.Copy text kinds file null_field header)
        (ap (λ (held : Option TableEntry). cond (is_none held) (broken rule.UnknownRelation table.at ∷ []) []) known)
        (λ i. r.Copy (called i) ((same ∙ sym kinds-are) i) file null_field header)

    module _ (rows : List ValuesRow) where
      abbrev pub rows_broken : List Break
      rows_broken = flat_map (words.row_breaks c (column_kinds entry.columns)) rows

      rows-there : words.on_table c table (λ (there : TableEntry). flat_map (words.row_breaks c (column_kinds there.columns)) rows) ≡ rows_broken
      rows-there = on-some (λ (there : TableEntry). flat_map (words.row_breaks c (column_kinds there.columns)) rows)

      pub insert-refused : (refusal : Refusal) → Tells (first_or (flat_map (words.row_breaks c (column_kinds entry.columns)) rows) (tt {0})) (Err refusal)
          → ResolvesBody c (st.Insert table rows) (Err refusal)
      insert-refused refusal told =
          refused-by (words.name_breaks c (st.Insert table rows)) (words.resolved_body c (st.Insert table rows)) refusal
          (subst (λ (breaks : List Break). Refuses breaks refusal) (sym rows-there) (refused-told rows_broken refusal told))

      pub insert-made : (text : List ℕ) (made : List (List Expr)) → first_or (flat_map (words.row_breaks c (column_kinds entry.columns)) rows) (tt {0}) ≡ Ok (tt {0})
          → made ≡ words.rows_made c (column_kinds entry.columns) rows → text ≡ table.text → ResolvesBody c (st.Insert table rows) (Ok (r.Insert text made))
      insert-made text made told same called =
          resolved-by (words.name_breaks c (st.Insert table rows)) (words.resolved_body c (st.Insert table rows)) (r.Insert text made)
          (rows-there ∙ none-broken rows_broken (tt {0}) (tt {0}) told)
          (λ i. r.Insert (called i) ((same ∙ ap (λ (kinds : List Kind). words.rows_made c kinds rows) (sym kinds-are)) i))

    module _ (condition : Option ExprTree) where
      condition-refuses : (refusal : Refusal) → ConditionSeen c table condition entry (Err refusal) → Refuses (words.delete_breaks c table condition entry) refusal
      condition-refuses (Broken first) e = e
      condition-refuses NoMemory e = tt

      pub delete-refused : (refusal : Refusal) → ConditionSeen c table condition entry (Err refusal) → ResolvesBody c (st.Delete table condition) (Err refusal)
      delete-refused refusal seen =
          refused-by (words.name_breaks c (st.Delete table condition)) (words.resolved_body c (st.Delete table condition)) refusal
          (subst (λ (breaks : List Break). Refuses breaks refusal) (sym (on-some (words.delete_breaks c table condition))) (condition-refuses refusal seen))

      wanted-condition : (o : Option ExprTree) → option_map (λ (tree : ExprTree). words.condition_made c table tree entry) o ≡ words.delete_made c table o
      wanted-condition None = refl
      wanted-condition (Some tree) = ap (option_map (words.condition_made c table tree)) (sym known)

      pub delete-made : (text : List ℕ) (made : Option Expr) → ConditionSeen c table condition entry (Ok made) → text ≡ table.text
          → ResolvesBody c (st.Delete table condition) (Ok (r.Delete text made))
      delete-made text made seen called =
          resolved-by (words.name_breaks c (st.Delete table condition)) (words.resolved_body c (st.Delete table condition)) (r.Delete text made)
          (on-some (words.delete_breaks c table condition) ∙ seen.whole)
          (λ i. r.Delete (called i) ((seen.is ∙ wanted-condition condition) i))

      pub delete-so : (result : Result (Option Expr) Refusal) → ConditionSeen c table condition entry result
          → ResolvesBy c (st.Delete table condition) (r.Delete table.text) result
      delete-so (Ok made) seen = delete-made table.text made seen refl
      delete-so (Err refusal) seen = delete-refused refusal seen

-- ---- the condition of DELETE

module _ (c : Contents) (name : Name) (condition : Option ExprTree) (entry : TableEntry) where
  pub condition-broken : (refusal : Refusal) → Tells (first_or (words.delete_breaks c name condition entry) (tt {0})) (Err refusal)
      → ConditionSeen c name condition entry (Err refusal)
  condition-broken (Broken first) e = e
  condition-broken NoMemory e = tt

  pub condition-none : (made : Option Expr) → condition ≡ None → made ≡ None → ConditionSeen c name condition entry (Ok made)
  condition-none made without same = record {
    whole = ap (λ (o : Option ExprTree). words.delete_breaks c name o entry) without;
    is = same ∙ ap (option_map (λ (tree : ExprTree). words.condition_made c name tree entry)) (sym without);
  }

  pub condition-some : (tree : ExprTree) (made : Expr) → condition ≡ Some tree → first_or (words.delete_breaks c name condition entry) (tt {0}) ≡ Ok (tt {0})
      → made ≡ words.condition_made c name tree entry → ConditionSeen c name condition entry (Ok (Some made))
  condition-some tree made there told same = record {
    whole = none-broken (words.delete_breaks c name condition entry) (tt {0}) (tt {0}) told;
    is = ap Some same ∙ ap (option_map (λ (t : ExprTree). words.condition_made c name t entry)) (sym there);
  }
