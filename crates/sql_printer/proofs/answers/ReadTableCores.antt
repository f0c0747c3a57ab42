-- The SELECT that is printed of a table is read as the table's columns.
use Rattle.std.proofs.Common.{◌≡◌, ℕ, Bool, false, true, List, [], ◌∷◌, map, Some, None, refl, sym, ap, subst, ◌∙◌, append-nil}
use Rattle.std.specs.Option.{option_map_or}
use Rattle.perm_values.specs.declared.kind.Kind.{Kind}
use Rattle.perm_values.specs.declared.kind.Kind.TheVariants as kinds
use Rattle.bag_algebra.specs.declared.query.Query.TheVariants.{Single}
use Rattle.perm_catalog.specs.Changes.{table_named, view_named}
use Rattle.perm_catalog.specs.Contents.{Contents}
use Rattle.perm_catalog.specs.declared.column.Column.{Column}
use Rattle.perm_catalog.specs.declared.entries.TableEntry.{TableEntry}
use Rattle.sql_tree.specs.declared.name.Name.{Name}
use Rattle.sql_tree.specs.declared.query.Core.{Core}
use Rattle.sql_tree.specs.declared.query.SelectItem.{SelectItem}
use Rattle.sql_tree.specs.declared.source.FromItem.{FromItem}
use Rattle.sql_tree.specs.declared.source.FromSource.TheVariants.{Named}
use Rattle.sql_tree.specs.declared.source.FromTree.{FromTree}
use Rattle.sql_tree.specs.declared.source.ScopeMark.TheVariants.{Plain}
use Rattle.name_meaning.proofs.Equations.{fromitem-record, fromsource-named, token}
use Rattle.name_meaning.proofs.SettledKinds.{table-kinds}
use Rattle.name_meaning.specs.Cores.{distinct_if, has_some}
use Rattle.name_meaning.specs.Froms.{FromItemPart, first_item, from_all, in_clause, in_from, item_meant, read_nothing, read_table, read_view, table_columns, table_plain, names_of as names}
use Rattle.name_meaning.specs.Meanings.{Around, Surroundings}
use Rattle.name_meaning.specs.Scopes.{KnownColumn, ScopeItem, numbered_columns, scope_of}
use Rattle.name_meaning.specs.Statements.{repeats}
use Rattle.name_meaning.specs.Trees.{from_item_of, from_of, item_of, source_of}
use Rattle.name_meaning.specs.declared.scope.Scope.{Scope}
use Rattle.name_meaning.specs.laws.Known.{column_kinds_of}
use Rattle.tree_texts.specs.Forms as f
use Rattle.tree_texts.specs.Trees.{AreItems, AreSources, IsCore, IsItem, an_item_tree, no_item_trees, no_join_trees, source_trees, table_tree}
use Rattle.query_texts.specs.clauses.Names.{names_of, naming}
use Rattle.query_texts.specs.declared.clauses.tables.TableNames.{TableNames}
use Rattle.query_texts.specs.forms.ShownQueries.{listed, of_table, one, selected}
use Rattle.sql_printer.specs.rows.Printed.{columns_from, listed as given_of, or_unread, unread_item}
use Rattle.sql_printer.specs.rows.PrintedExpressions.{integer}
use Rattle.sql_printer.proofs.rows.ShownRows.{shown_kinds}
use Rattle.sql_printer.specs.answers.ReadAs.{IsNamed, source_in}
use Rattle.sql_printer.proofs.cores.OpenedCores.{core_over_parts, opened-plain}
use Rattle.sql_printer.proofs.expressions.PlainTrees.{plain-tree}
use Rattle.sql_printer.proofs.cores.ReadCores.{FromRead, core-read}
use Rattle.sql_printer.specs.cores.Queries.{QueryRead}
use Rattle.sql_printer.proofs.cores.ReadFroms.{from-is, item_from, listed_names}
use Rattle.sql_printer.proofs.expressions.ReadLeaves.{integer-read}
use Rattle.sql_printer.proofs.cores.ReadLists.{ListRead, item-read, no_items-read}
use Rattle.sql_printer.proofs.cores.ReadQueries.{CoreRead}
use Rattle.sql_printer.specs.expressions.Scopes.{marks}
use Rattle.sql_printer.proofs.answers.ReadTables.{table_columns-read}

-- ---- FROM over a table

module _ (c : Contents) (outer : List Scope) (name : List ℕ) (table : TableEntry) (found : table_named c name ≡ Some table) where
  abbrev pub table_item : ScopeItem
  table_item = record { name = name; columns = table_columns table.columns }

  named-is : (item : FromItem) (said : Name) → item.source ≡ Named said → said.text ≡ name → item.alias ≡ None → item.mark ≡ Plain
      → (from_item_of c item).means (in_from outer) [] ≡ item_meant item.at Plain [] name name (read_table name table)
  unfolding token
  named-is item said source called unnamed mark =
      ap (λ (part : FromItemPart). part.means (in_from outer) []) (fromitem-record c item.at item.source item.alias item.mark)
      ∙ (λ i. item_from c outer item.at [] ((ap (source_of c) source ∙ fromsource-named c said) i) (unnamed i) (mark i) (in_from outer))
      ∙ (λ i. item_meant item.at Plain [] (called i) (called i)
      (option_map_or (read_table (called i)) (table_named c (called i)) (option_map_or (read_view (called i)) (view_named c (called i)) (read_nothing said))))
      ∙ ap (λ entry. item_meant item.at Plain [] name name (option_map_or (read_table name) entry (option_map_or (read_view name) (view_named c name) (read_nothing said)))) found

  table_from-read : {trees : List FromTree} → AreSources (f.from (f.table name) f.no_joins) trees
      → FromRead (from_all outer (map (from_of c) trees)) (table_item ∷ []) (table_plain name table)
  table_from-read (source_trees {item = item} (table_tree said source called unnamed mark) no_join_trees is) =
      subst (λ t. FromRead (from_all outer (map (from_of c) (t ∷ []))) (table_item ∷ []) (table_plain name table)) (sym is)
      (subst (λ m. FromRead m (table_item ∷ []) (table_plain name table)) (sym (from-is c outer item ∙ ap (first_item []) (named-is item said source called unnamed mark)))
      (record { breaks = refl; items_are = refl; query_is = refl }))

-- ---- all its columns

module _ (c : Contents) (has_from : Bool) (columns : List KnownColumn) (name : List ℕ) (here : Surroundings) (outer : List Scope) where
  abbrev own_scope : Scope
  own_scope = scope_of (record { name = name; columns = columns } ∷ [])

  table_listed : (own : List KnownColumn) → columns ≡ own → here.scopes ≡ own_scope ∷ outer → here.argument ≡ false → repeats (names own) ≡ false → (out first : ℕ)
      {item : SelectItem} {items : List SelectItem}
      → IsItem (listed (naming (marks out) first) one (map (λ name. f.column (f.bare name)) (names own))).first
      (listed (naming (marks out) first) one (map (λ name. f.column (f.bare name)) (names own))).name item
      → AreItems (listed (naming (marks out) first) one (map (λ name. f.column (f.bare name)) (names own))).more items
      → ListRead has_from own_scope here (map (item_of c) (item ∷ items)) (listed_names out first (column_kinds_of own)) (shown_kinds (column_kinds_of own))
      (λ n. or_unread unread_item (columns_from 0 (column_kinds_of own))) []
  table_listed [] is inside outside distinct out first d no_item_trees =
      item-read c has_from own_scope here [] [] kinds.Integer [] (λ n. integer 1) (λ n. []) [] [] 0 d (λ tree e. plain-tree c tt e) (λ tree e. integer-read c here 1 e)
      (no_items-read has_from own_scope here) refl
  table_listed (column ∷ own) is inside outside distinct out first d ds =
      table_columns-read c has_from own_scope here outer inside outside refl [] (column ∷ own) (append-nil (numbered_columns 0 columns) ∙ ap (numbered_columns 0) is) distinct out first
      (an_item_tree d ds)

names-known : (columns : List Column) → names (table_columns columns) ≡ map (λ (column : Column). column.name) columns
names-known [] = refl
names-known (column ∷ columns) = ap (λ more. column.name ∷ more) (names-known columns)

pub table-read : (c : Contents) (tables : List TableNames) (id : ℕ) (own : List Kind) → IsNamed c tables id own → (around : Around) (distinct : Bool) (out first : ℕ) (tree : Core)
    → IsCore (of_table (names_of tables id) distinct (naming (marks out) first)) tree
    → CoreRead c around (listed_names out first own) (shown_kinds own) (distinct_if distinct (given_of own 0 (source_in c tables id own))) tree
table-read c tables id own n around distinct out first tree d =
    let name = (names_of tables id).name in
    let columns = table_columns n.table.columns in
    let called : (names_of tables id).columns ≡ names columns = sym (names-known n.table.columns ∙ n.columns_are) in
    let kinds_are : column_kinds_of columns ≡ own = table-kinds n.table.columns ∙ n.kinds_are in
    let source : table_plain name n.table ≡ source_in c tables id own = sym (ap (λ entry. option_map_or (table_plain name) entry Single) n.found) in
    let o = opened-plain c (subst (λ all. IsCore (selected distinct (listed (naming (marks out) first) one (map (λ name. f.column (f.bare name)) all)) (f.from (f.table name) f.no_joins) f.no_condition []) tree) called d) in
    let has = has_some (map (from_of c) o.sources) in
    let scope = own_scope c has columns name (in_clause (scope_of (table_item c around.outer name n.table n.found ∷ [])) around.outer true) around.outer in
    let list = table_listed c has columns name (in_clause scope around.outer true) around.outer columns refl refl refl (ap repeats (sym called) ∙ n.distinct) out first o.first o.rest in
    let from = table_from-read c around.outer name n.table n.found o.from in
    let core = core-read around (from_all around.outer (map (from_of c) o.sources)) has distinct (map (item_of c) (o.item ∷ o.items)) None (table_item c around.outer name n.table n.found ∷ [])
    (table_plain name n.table) from None (listed_names out first (column_kinds_of columns)) (shown_kinds (column_kinds_of columns))
    (λ n. or_unread unread_item (columns_from 0 (column_kinds_of columns))) [] tt list in (
      o.unasked,
      subst (λ m. QueryRead m (listed_names out first own) (shown_kinds own) (distinct_if distinct (given_of own 0 (source_in c tables id own)))) (sym (o.means around))
          (subst (λ q. QueryRead (core_over_parts c distinct (o.item ∷ o.items) o.sources None around) (listed_names out first own) (shown_kinds own) (distinct_if distinct (given_of own 0 q))) source
          (subst (λ all. QueryRead (core_over_parts c distinct (o.item ∷ o.items) o.sources None around) (listed_names out first all) (shown_kinds all) (distinct_if distinct (given_of all 0 (table_plain name n.table)))) kinds_are core)),
    )
