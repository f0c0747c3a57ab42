-- A SELECT of all columns of a table, by their own names.
use Rattle.std.proofs.Common.{◌≡◌, ℕ, suc, ◌+◌, Bool, false, cond, List, [], ◌∷◌, ◌++◌, length, map, filter, Some, None, refl, sym, ap, subst, ◌∙◌, true≢false, append_assoc, arith}
use Rattle.std.proofs.lemmas.Bool.{or_parts}
use Rattle.std.proofs.lemmas.List.{length-append, map-append}
use Rattle.std.specs.Cmp.Lexicographic.{bytes_decides, pointwise}
use Rattle.std.specs.List.{enumerate_from, list_any}
use Rattle.std.specs.Option.{option_map_or}
use Rattle.std.specs.Prelude.{nat_eq}
use Rattle.bag_algebra.specs.declared.expr.Expr.TheVariants.{Col}
use Rattle.perm_catalog.specs.Contents.{Contents}
use Rattle.sql_tree.specs.declared.name.ColRef.{ColRef}
use Rattle.sql_tree.specs.declared.query.SelectItem.{SelectItem}
use Rattle.name_meaning.specs.Froms.{named_so, names_of}
use Rattle.name_meaning.specs.Meanings.{Surroundings}
use Rattle.name_meaning.specs.Scopes.{KnownColumn, found_among, if_some, is_called, look_up, numbered_columns, place_among}
use Rattle.name_meaning.specs.Statements.{repeats}
use Rattle.name_meaning.specs.Trees.{item_of}
use Rattle.name_meaning.specs.declared.scope.Found.TheVariants.{Column}
use Rattle.name_meaning.specs.declared.scope.Scope.{Scope}
use Rattle.name_meaning.specs.declared.scope.ScopeColumn.{ScopeColumn}
use Rattle.name_meaning.specs.laws.Known.{column_kinds_of}
use Rattle.tree_texts.specs.Forms as f
use Rattle.tree_texts.specs.Trees.{AreItems, an_item_tree, no_item_trees}
use Rattle.query_texts.specs.forms.ShownQueries.{named_from}
use Rattle.sql_printer.specs.rows.Printed.{columns_from}
use Rattle.sql_printer.specs.expressions.Scopes.{marks}
use Rattle.sql_printer.proofs.expressions.PlainTrees.{plain-tree}
use Rattle.sql_printer.proofs.expressions.ReadLeaves.{reference-read}
use Rattle.sql_printer.proofs.expressions.ReadScopes.{Unnamed, differ, meant-bare, none-called, passed}
use Rattle.sql_printer.specs.cores.Queries.{numbered_names}
use Rattle.sql_printer.proofs.cores.ReadLists.{ListRead, item-read, no_items-read}

-- ---- names that differ

rest-unnamed : (name : List ℕ) (columns : List KnownColumn) → list_any (named_so name) (names_of columns) ≡ false → Unnamed name (numbered_columns 0 columns)
rest-unnamed name [] e = tt
rest-unnamed name (column ∷ columns) e =
    let parts = or_parts (named_so name column.name) (list_any (named_so name) (names_of columns)) e in
    (parts.0, rest-unnamed name columns parts.1)

turned : (name other : List ℕ) → pointwise nat_eq other name ≡ false → pointwise nat_eq name other ≡ false
turned name other e = differ name other (λ same. true≢false (sym ((bytes_decides other name).1 (sym same)) ∙ e))

among-false : (name other : List ℕ) (front more : List (List ℕ)) → list_any (named_so other) (front ++ name ∷ more) ≡ false → named_so other name ≡ false
among-false name other [] more e = (or_parts (named_so other name) (list_any (named_so other) more) e).0
among-false name other (x ∷ front) more e = among-false name other front more (or_parts (named_so other x) (list_any (named_so other) (front ++ name ∷ more)) e).1

front-unnamed : (name : List ℕ) (front : List KnownColumn) (more : List (List ℕ)) → repeats (names_of front ++ name ∷ more) ≡ false → Unnamed name (numbered_columns 0 front)
front-unnamed name [] more e = tt
front-unnamed name (column ∷ front) more e =
    let parts = or_parts (list_any (named_so column.name) (names_of front ++ name ∷ more)) (repeats (names_of front ++ name ∷ more)) e in
    (turned name column.name (among-false name column.name (names_of front) more parts.0), front-unnamed name front more parts.1)

later-repeats : (front more : List (List ℕ)) → repeats (front ++ more) ≡ false → repeats more ≡ false
later-repeats [] more e = e
later-repeats (name ∷ front) more e = later-repeats front more (or_parts (list_any (named_so name) (front ++ more)) (repeats (front ++ more)) e).1

-- ---- the column of a name

abbrev scope_column : KnownColumn → ScopeColumn
scope_column column = record { item = 0; name = column.name; kind = column.kind }

called : (front rest : List KnownColumn) (column : KnownColumn) → repeats (names_of front ++ column.name ∷ names_of rest) ≡ false
    → filter (is_called column.name) (enumerate_from 0 (numbered_columns 0 front ++ scope_column column ∷ numbered_columns 0 rest))
    ≡ (length (numbered_columns 0 front), scope_column column) ∷ []
called front rest column e =
    let own = or_parts (list_any (named_so column.name) (names_of rest)) (repeats (names_of rest)) (later-repeats (names_of front) (column.name ∷ names_of rest) e) in
    let start = 0 + length (numbered_columns 0 front) in
    let more = filter (is_called column.name) (enumerate_from (start + 1) (numbered_columns 0 rest)) in
    let is : start ≡ length (numbered_columns 0 front) = omega arith in
    passed column.name 0 (numbered_columns 0 front) (scope_column column ∷ numbered_columns 0 rest) (front-unnamed column.name front (names_of rest) e)
    ∙ ap (λ b. cond b ((start, scope_column column) ∷ more) more) ((bytes_decides column.name column.name).1 refl)
    ∙ ap (λ found. (start, scope_column column) ∷ found) (none-called column.name (start + 1) (numbered_columns 0 rest) (rest-unnamed column.name rest own.0))
    ∙ ap (λ n. (n, scope_column column) ∷ []) is

-- ---- the list

module _ (c : Contents) (has_from : Bool) (scope : Scope) (here : Surroundings) (outer : List Scope) (inside : here.scopes ≡ scope ∷ outer) (outside : here.argument ≡ false)
    (ungrouped : scope.groups ≡ None) where
  found-at : (front rest : List KnownColumn) (column : KnownColumn) → scope.columns ≡ numbered_columns 0 front ++ scope_column column ∷ numbered_columns 0 rest
      → repeats (names_of front ++ column.name ∷ names_of rest) ≡ false → (reference : ColRef) → reference.table ≡ None → reference.name.text ≡ column.name
      → look_up 0 here.scopes reference ≡ Column (record { level = 0; place = Some (length (numbered_columns 0 front)); kind = column.kind })
  found-at front rest column is e reference none named =
      ap (λ scopes. look_up 0 scopes reference) inside
      ∙ ap (λ columns. option_map_or (found_among 0 scope) columns (look_up 1 outer reference)) (meant-bare reference column.name scope none named)
      ∙ ap (λ columns. option_map_or (found_among 0 scope) (if_some columns) (look_up 1 outer reference))
      (ap (λ cs. filter (is_called column.name) (enumerate_from 0 cs)) is ∙ called front rest column e)
      ∙ ap (λ groups. Column (record { level = 0; place = place_among groups (length (numbered_columns 0 front)); kind = column.kind })) ungrouped

  -- the columns behind others
  pub table_columns-read : (front rest : List KnownColumn) → scope.columns ≡ numbered_columns 0 front ++ numbered_columns 0 rest → repeats (names_of front ++ names_of rest) ≡ false
      → (out first : ℕ) {items : List SelectItem}
      → AreItems (named_from (marks out) first (map (λ name. f.column (f.bare name)) (names_of rest))) items
      → ListRead has_from scope here (map (item_of c) items) (numbered_names out first (column_kinds_of rest)) (column_kinds_of rest)
      (λ n. columns_from (length (numbered_columns 0 front)) (column_kinds_of rest)) []
  table_columns-read front [] is e out first no_item_trees = no_items-read has_from scope here
  table_columns-read front (column ∷ rest) is e out first (an_item_tree {items = items} d ds) =
      let next : first + 1 ≡ suc first = omega arith in
      let further = front ++ column ∷ [] in
      let split : numbered_columns 0 further ≡ numbered_columns 0 front ++ scope_column column ∷ [] =
      map-append (λ (column : KnownColumn). scope_column column) front (column ∷ []) in
      let columns_are : scope.columns ≡ numbered_columns 0 further ++ numbered_columns 0 rest =
      is ∙ sym (append_assoc (numbered_columns 0 front) (scope_column column ∷ []) (numbered_columns 0 rest)) ∙ ap (λ cs. cs ++ numbered_columns 0 rest) (sym split) in
      let names_are : repeats (names_of further ++ names_of rest) ≡ false =
      ap (λ ns. repeats (ns ++ names_of rest)) (map-append (λ (column : KnownColumn). column.name) front (column ∷ []))
      ∙ ap repeats (append_assoc (names_of front) (column.name ∷ []) (names_of rest)) ∙ e in
      let count : length (numbered_columns 0 further) ≡ suc (length (numbered_columns 0 front)) =
      ap length split ∙ length-append (numbered_columns 0 front) (scope_column column ∷ []) ∙ (let one : length (numbered_columns 0 front) + 1 ≡ suc (length (numbered_columns 0 front)) = omega arith in one) in
      let later = table_columns-read further rest columns_are names_are out (suc first)
      (subst (λ m. AreItems (named_from (marks out) m (map (λ name. f.column (f.bare name)) (names_of rest))) items) next ds) in
      let others = subst (λ m. ListRead has_from scope here (map (item_of c) items) (numbered_names out (suc first) (column_kinds_of rest)) (column_kinds_of rest)
      (λ n. columns_from m (column_kinds_of rest)) []) count later in
      item-read c has_from scope here items (numbered_names out (suc first) (column_kinds_of rest)) column.kind (column_kinds_of rest)
      (λ n. Col 0 (length (numbered_columns 0 front))) (λ n. columns_from (suc (length (numbered_columns 0 front))) (column_kinds_of rest)) [] [] 0 d (λ tree g. plain-tree c tt g)
      (λ tree g. reference-read c here column.name 0 (length (numbered_columns 0 front)) column.kind (found-at front rest column is e) outside g) others refl
