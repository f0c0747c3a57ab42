-- A SELECT with GROUP BY over the columns and arguments that stand below it, as it is read.
use Rattle.std.proofs.Common.{◌≡◌, ℕ, zero, suc, ◌+◌, ◌<◌, ◌≤◌, ◌^◌, Bool, true, false, cond, not, ◌||◌, List, [], ◌∷◌, ◌++◌, flat_map, filter_map, length, map, Option, Some, None, refl, sym, ap, subst, ◌∙◌, arith}
use Rattle.std.specs.List.{cons_option, list_any, position, prefix_len, range_with_len}
use Rattle.std.specs.Option.{option_map_or}
use Rattle.std.specs.Prelude.{nat_eq, nat_lt, slice_get}
use Rattle.std.specs.Fmt.{decimal}
use Rattle.std.proofs.lemmas.Bool.Decides.{nat_tests}
use Rattle.std.proofs.lemmas.List.{length-map}
use Rattle.std.proofs.lemmas.List.FromFn.{length-range_with_len}
use Rattle.perm_values.specs.Rows.{PlacesWithin}
use Rattle.perm_values.specs.declared.kind.Kind.{Kind}
use Rattle.perm_values.specs.declared.kind.Kind.TheVariants as kinds
use Rattle.bag_algebra.specs.Kinds.{kind_in, kinds_in, item_kinds, aggregate_kinds}
use Rattle.bag_algebra.specs.WellFormed.{AggregatesForm, aggr_form}
use Rattle.bag_algebra.specs.declared.expr.Expr.{Expr}
use Rattle.bag_algebra.specs.declared.expr.Item.{Item}
use Rattle.bag_algebra.specs.declared.query.AggFn.{AggFn}
use Rattle.bag_algebra.specs.declared.query.AggFn.TheVariants as agg
use Rattle.bag_algebra.specs.declared.query.Aggr.{Aggr}
use Rattle.bag_algebra.specs.declared.query.Query.{Query}
use Rattle.bag_algebra.specs.declared.query.Query.TheVariants.{Aggregate, Project}
use Rattle.contribution.proofs.LongerKinds.{slice_get-longer}
use Rattle.perm_catalog.specs.Contents.{Contents}
use Rattle.sql_tree.specs.declared.expression.AggWord.TheVariants as word
use Rattle.sql_tree.specs.declared.expression.ExprTree.{ExprTree}
use Rattle.sql_tree.specs.declared.name.ColRef.{ColRef}
use Rattle.sql_tree.specs.declared.query.Core.{Core}
use Rattle.sql_tree.specs.declared.query.QueryTree.{QueryTree}
use Rattle.sql_tree.specs.declared.query.SelectItem.{SelectItem}
use Rattle.name_meaning.specs.Cores.{core_seen, group_break, group_found, group_place, has_some, is_grouped}
use Rattle.name_meaning.specs.Froms.{from_all, in_clause, in_from}
use Rattle.name_meaning.specs.Items.{SelectPart}
use Rattle.name_meaning.specs.Meanings.{Around, Surroundings, broken}
use Rattle.name_meaning.specs.Scopes.{ScopeItem, found_among, if_some, look_up, scope_of}
use Rattle.name_meaning.specs.Sublinks.{in_argument}
use Rattle.name_meaning.specs.Trees.{from_of, item_of, part_of, query_of}
use Rattle.name_meaning.specs.declared.answer.Break.{Break}
use Rattle.name_meaning.specs.declared.rule.Rule.TheVariants as rule
use Rattle.name_meaning.specs.declared.scope.Found.TheVariants.{Absent as absent, Ambiguous as ambiguous, Column as found}
use Rattle.name_meaning.specs.declared.scope.Scope.{Scope}
use Rattle.tree_texts.specs.Forms as f
use Rattle.tree_texts.specs.Forms.{ColumnForm, ConditionForm, ExprForm}
use Rattle.tree_texts.specs.Trees.{AreColumns, AreItems, IsCore, IsExpr, IsItem, IsQuery, a_column_tree, an_item_tree, bare_tree, count_distinct_tree, count_rows_tree, count_tree, folded_tree, item_tree, no_column_trees, no_item_trees}
use Rattle.query_texts.specs.clauses.Names.{naming, own as own_naming, source_prefix}
use Rattle.query_texts.specs.forms.ShownQueries as writing
use Rattle.query_texts.specs.forms.ShownQueries.{Chain, Listed, below_groups, listed, named_from, one, own_column, own_columns, selected}
use Rattle.sql_printer.specs.rows.Printed as printing
use Rattle.sql_printer.specs.rows.Printed.{column, columns_from, counted, or_counted, or_unread, unread_item}
use Rattle.sql_printer.specs.rows.Writable.{WritableAggregates}
use Rattle.sql_printer.proofs.rows.ShownRows.{shown_kinds}
use Rattle.sql_printer.specs.expressions.Scopes.{Few, ScopesAre, marks}
use Rattle.sql_printer.proofs.groups.GroupedCores.{grouped_core-read, grouped_scope, opened-groups}
use Rattle.sql_printer.proofs.expressions.KindsOf.{kind-is}
use Rattle.sql_printer.proofs.groups.ReadAggregates.{ColumnsRead, FitsArgument, Fitting, GroupedList, aggregates-read, behind_groups, counts, folds, grouped_item-read, groups-read, named_columns, no_groups-read, rows-read}
use Rattle.sql_printer.proofs.groups.ReadArguments.{arguments-read, forms-append, grouped-read, listed-read}
use Rattle.sql_printer.proofs.cores.ReadBlocks.{BlockRead, select-read}
use Rattle.sql_printer.specs.cores.Queries.{QueryRead}
use Rattle.sql_printer.proofs.cores.ReadFroms.{item_of_query, listed_names, scope-over, subquery-read}
use Rattle.sql_printer.proofs.expressions.ReadLeaves.{local-read}
use Rattle.sql_printer.proofs.cores.ReadLists.{item_at, part-is}
use Rattle.sql_printer.proofs.cores.ReadQueries.{CoreRead, alone-read}
use Rattle.sql_printer.proofs.expressions.ReadScopes.{finds, meant-bare, meant-own}

-- ---- the query below

-- the grouped columns, then the arguments
abbrev pub items_below : List Kind → ℕ → List (List Kind) → List ℕ → List ℕ → List Aggr → List Item
items_below own front scopes unread groups aggregates = printing.grouped front own groups ++ printing.arguments (own ∷ scopes) (front ∷ unread) aggregates

abbrev pub item_over : ℕ → List Kind → List ScopeItem
item_over depth below = item_of_query source_prefix (listed_names (suc depth) 1 below) (shown_kinds below) ∷ []

module _ (c : Contents) (depth : ℕ) (scopes : List (List Kind)) (unread : List ℕ) (above : List Scope) (own : List Kind) (front : ℕ)
    (outer : ScopesAre depth scopes unread above) (chain : Chain) (test : ConditionForm) (q : Query) (block : BlockRead c (suc depth) above own front chain test q)
    (groups : List ℕ) (aggregates : List Aggr) (within : PlacesWithin (length own) groups) (formed : AggregatesForm (own ∷ scopes) aggregates)
    (writable : WritableAggregates aggregates) where
  abbrev items : List Item
  items = items_below own front scopes unread groups aggregates

  core_below-read : (tree : Core)
      → IsCore (selected false (listed (own_naming (marks (suc depth))) one (writing.grouped_columns (marks (suc depth)) groups ++ writing.arguments (marks (suc depth)) aggregates)) (writing.sources chain) test []) tree
      → CoreRead c (in_from above) (listed_names (suc depth) 1 (item_kinds items)) (shown_kinds (item_kinds items)) (Project q (or_unread unread_item items) []) tree
  core_below-read tree d =
      let scope = scope_of block.items in
      let here = in_clause scope above true in
      let found = finds (suc depth) (own ∷ scopes) (front ∷ unread) (scope ∷ above) (block.scope, outer) in
      let forms = writing.grouped_columns (marks (suc depth)) groups ++ writing.arguments (marks (suc depth)) aggregates in
      select-read c (suc depth) (in_from above) own front chain test q block false (listed (own_naming (marks (suc depth))) one forms)
      (listed_names (suc depth) 1 (item_kinds items)) (shown_kinds (item_kinds items)) (or_unread unread_item items) []
      (λ has item more e es. record {
        made = λ n. or_unread unread_item items;
        read = listed-read c has scope here forms items
            (forms-append c has scope here (writing.grouped_columns (marks (suc depth)) groups) (writing.arguments (marks (suc depth)) aggregates)
            (printing.grouped front own groups) (printing.arguments (own ∷ scopes) (front ∷ unread) aggregates)
            (grouped-read c has scope here (suc depth) own front scopes unread found refl groups within)
            (arguments-read c has scope here (suc depth) own front scopes unread found refl aggregates formed writable)) (suc depth) 1 e es;
        whole = refl;
      }) tree d

  pub below-read : (tree : QueryTree) → IsQuery (below_groups (marks (suc depth)) groups aggregates chain test) tree
      → QueryRead ((query_of c tree).means (in_from above)) (listed_names (suc depth) 1 (item_kinds items)) (shown_kinds (item_kinds items)) (Project q (or_unread unread_item items) [])
  below-read tree d = alone-read c (in_from above) _ (listed_names (suc depth) 1 (item_kinds items)) (shown_kinds (item_kinds items)) (Project q (or_unread unread_item items) []) core_below-read tree d

-- ---- its columns

get-behind : (front more : List Kind) (i : ℕ) → slice_get (front ++ more) (length front + i) ≡ slice_get more i
get-behind [] more i = let none : 0 + i ≡ i = omega arith in ap (slice_get more) none
get-behind (kind ∷ front) more i =
    let on : suc (length front) + i ≡ suc (length front + i) = omega arith in ap (slice_get (kind ∷ (front ++ more))) on ∙ get-behind front more i

module _ (scopes : List (List Kind)) (unread : List ℕ) where
  fits_argument : (function : AggFn) (part : Option Expr) (kind : Kind) → aggr_form function part scopes kind → FitsArgument function (printing.argument scopes unread part).kind kind
  fits_argument agg.CountRows None kind form = form
  fits_argument agg.CountRows (Some part) kind form = absurd form
  fits_argument agg.Count None kind form = absurd form
  fits_argument agg.Count (Some part) kind form = form.gives
  fits_argument agg.CountDistinct None kind form = absurd form
  fits_argument agg.CountDistinct (Some part) kind form = form.gives
  fits_argument agg.Sum None kind form = absurd form
  fits_argument agg.Sum (Some part) kind form = (kind-is scopes part kinds.Integer form.0, form.1)
  fits_argument agg.Min None kind form = absurd form
  fits_argument agg.Min (Some part) kind form = (kind-is scopes part kind form.0, form.1)
  fits_argument agg.Max None kind form = absurd form
  fits_argument agg.Max (Some part) kind form = (kind-is scopes part kind form.0, form.1)

  all-fitting : (below : List Kind) (place : ℕ) (aggregates : List Aggr) → AggregatesForm scopes aggregates
      → ((i : ℕ) (kind : Kind) → slice_get (item_kinds (printing.arguments scopes unread aggregates)) i ≡ Some kind → slice_get below (place + i) ≡ Some kind)
      → Fitting below place aggregates
  all-fitting below place [] form there = tt
  all-fitting below place (aggregate ∷ aggregates) form there =
      let here : place + 0 ≡ place = omega arith in
      let own = (printing.argument scopes unread aggregate.argument).kind in (
        (own, sym (ap (slice_get below) here) ∙ there 0 own refl, fits_argument aggregate.function aggregate.argument aggregate.kind (form 0 aggregate (omega arith))),
        all-fitting below (suc place) aggregates (λ k e h. form (suc k) e (omega (arith, h)))
            (λ i kind e. let on : suc place + i ≡ place + suc i = omega arith in ap (slice_get below) on ∙ there (suc i) kind e),
      )

-- ---- places among the groups

steps-to : (start n place : ℕ) → place < n → prefix_len (λ x. not (nat_eq (start + place) x)) (range_with_len start n) ≡ place
steps-to start zero place low = absurd (omega (arith, low))
steps-to start (suc n) zero low =
    let same : nat_eq (start + 0) start ≡ true = grind (arith, nat_tests) in
    ap (λ b. cond (not b) (1 + prefix_len (λ x. not (nat_eq (start + 0) x)) (range_with_len (start + 1) n)) 0) same
steps-to start (suc n) (suc place) low =
    let apart : nat_eq (start + suc place) start ≡ false = grind (arith, nat_tests) in
    let on : start + 1 + place ≡ start + suc place = omega arith in
    let next : 1 + place ≡ suc place = omega arith in
    ap (λ b. cond (not b) (1 + prefix_len (λ x. not (nat_eq (start + suc place) x)) (range_with_len (start + 1) n)) 0) apart
    ∙ ap (λ m. 1 + prefix_len (λ x. not (nat_eq m x)) (range_with_len (start + 1) n)) (sym on)
    ∙ ap (λ m. 1 + m) (steps-to (start + 1) n place (omega (arith, low))) ∙ next

place-found : (n place : ℕ) → place < n → position (nat_eq (0 + place)) (range_with_len 0 n) ≡ Some place
place-found n place low =
    let steps = steps-to 0 n place low in
    let before : nat_lt place n ≡ true = grind (arith, nat_tests, low) in
    (λ i. cond (nat_lt (steps i) (length-range_with_len 0 n i)) (Some (steps i)) None) ∙ ap (λ b. cond b (Some place) None) before

there : (below : List Kind) (place : ℕ) → place < length below → (kind : Kind) × (slice_get below place ≡ Some kind)
there [] place low = absurd (omega (arith, low))
there (kind ∷ below) zero low = (kind, refl)
there (kind ∷ below) (suc place) low = there below place (omega (arith, low))

-- ---- what the clauses of the grouped SELECT find

abbrev pub over_grouped : ℕ → List Kind → ℕ → Scope
over_grouped depth below n = grouped_scope (item_over depth below) (range_with_len 0 n)

module _ (c : Contents) (depth : ℕ) (outer : List Scope) (below : List Kind) (bound : Few below) (n : ℕ) (enough : n ≤ length below) where
  abbrev items_over : List ScopeItem
  items_over = item_over depth below

  abbrev over_groups : Scope
  over_groups = over_grouped depth below n

  found-below : (more : List Scope) (place : ℕ) (kind : Kind) → slice_get below place ≡ Some kind → (reference : ColRef) → reference.table ≡ None
      → reference.name.text ≡ marks (suc depth) ++ decimal (place + 1)
      → look_up 0 (scope_of items_over ∷ more) reference ≡ found (record { level = 0; place = Some place; kind = kind })
  found-below more place kind e reference none named =
      let here : 0 + place ≡ place = omega arith in
      finds (suc depth) (below ∷ []) (0 ∷ []) (scope_of items_over ∷ more) (scope-over (suc depth) source_prefix below bound, tt) 0 place kind e reference none named
      ∙ ap (λ m. found (record { level = 0; place = Some m; kind = kind })) here

  pub arguments-found : ColumnsRead c (in_argument (in_clause over_groups outer true)) (suc depth) below (length below)
  arguments-found place kind low e tree d =
      local-read c (in_argument (in_clause over_groups outer true)) (marks (suc depth) ++ decimal (place + 1)) place kind (λ reference none named. found-below outer place kind e reference none named) d

  found-grouped : (place : ℕ) (kind : Kind) → place < n → slice_get below place ≡ Some kind → (reference : ColRef) → reference.table ≡ None
      → reference.name.text ≡ marks (suc depth) ++ decimal (place + 1)
      → look_up 0 (over_groups ∷ outer) reference ≡ found (record { level = 0; place = Some place; kind = kind })
  found-grouped place kind low e reference none named =
      let name = marks (suc depth) ++ decimal (place + 1) in
      let o = meant-own (suc depth) 0 below (scope_of items_over) (scope-over (suc depth) source_prefix below bound) place kind e in
      ap (λ columns. option_map_or (found_among 0 over_groups) columns (look_up (suc 0) outer reference)) (meant-bare reference name over_groups none named)
      ∙ ap (λ columns. option_map_or (found_among 0 over_groups) (if_some columns) (look_up (suc 0) outer reference)) o.is
      ∙ (λ i. found (record { level = 0; place = place-found n place low i; kind = o.kind_is i }))

  pub columns-found : ColumnsRead c (in_clause over_groups outer true) (suc depth) below n
  columns-found place kind low e tree d =
      local-read c (in_clause over_groups outer true) (marks (suc depth) ++ decimal (place + 1)) place kind (λ reference none named. found-grouped place kind low e reference none named) d

  pub references-read : (start count : ℕ) → start + count ≤ length below → {columns : List ColRef}
      → AreColumns (map (own_column (marks (suc depth))) (range_with_len (start + 1) count)) columns
      → (flat_map (group_break (scope_of items_over)) columns ≡ []) × (filter_map (group_place (scope_of items_over)) columns ≡ range_with_len start count)
  references-read start zero low no_column_trees = (refl, refl)
  references-read start (suc count) low (a_column_tree {tree = reference} {trees = references} (bare_tree none named) ds) =
      let kind = there below start (omega (arith, low)) in
      let is : group_found (scope_of items_over) reference ≡ found (record { level = 0; place = Some start; kind = kind.0 }) = found-below [] start kind.0 kind.1 reference none named in
      let rest = references-read (start + 1) count (omega (arith, low)) ds in (
        ap (λ at. (elim at as (λ _. List Break) [
          | absent ↦ broken rule.UnknownColumn reference.at ∷ []
          | ambiguous ↦ broken rule.AmbiguousColumn reference.at ∷ []
          | found column ↦ []
        ]) ++ flat_map (group_break (scope_of items_over)) references) is ∙ rest.0,
        ap (λ at. cons_option (elim at as (λ _. Option ℕ) [ absent ↦ None | ambiguous ↦ None | found column ↦ column.place ]) (filter_map (group_place (scope_of items_over)) references)) is
            ∙ ap (λ more. start ∷ more) rest.1,
      )

-- ---- its list

columns-append : (place : ℕ) (first more : List Kind) → columns_from place first ++ columns_from (place + length first) more ≡ columns_from place (first ++ more)
columns-append place [] more = let none : place + 0 ≡ place = omega arith in ap (λ m. columns_from m more) none
columns-append place (kind ∷ first) more =
    let on : place + suc (length first) ≡ suc place + length first = omega arith in
    ap (λ m. column place kind ∷ (columns_from (suc place) first ++ columns_from m more)) on ∙ ap (λ others. column place kind ∷ others) (columns-append (suc place) first more)

module _ (c : Contents) (has_from : Bool) (depth : ℕ) (outer : List Scope) (below : List Kind) (bound : Few below) where
  abbrev grouped_here : ℕ → Surroundings
  grouped_here n = in_clause (over_grouped depth below n) outer true

  -- what it is read as
  record WholeList (n : ℕ) (parts : List SelectPart) (names : List (List ℕ)) (all : List Kind) (columns : List Item) (aggregates : List Aggr) : Type 0 where
    pub made : ℕ → List Item
    pub list : GroupedList has_from (over_grouped depth below n) (grouped_here n) parts names all made aggregates
    pub first : made 0 ≡ columns

  abbrev list_of : ℕ → ℕ → List ℕ → List Aggr → Listed
  list_of out first groups aggregates = listed (naming (marks out) first) f.count_rows
      (writing.columns (marks (suc depth)) (length groups) ++ writing.aggregates_from (marks (suc depth)) (length groups + 1) aggregates)

  whole-list : (own : List Kind) (groups : List ℕ) (aggregates : List Aggr) → length groups ≤ length below
      → ((i : ℕ) (kind : Kind) → slice_get (kinds_in own groups) i ≡ Some kind → slice_get below (0 + i) ≡ Some kind) → Fitting below (length groups) aggregates
      → (out first : ℕ) {item : SelectItem} {trees : List SelectItem} → IsItem (list_of out first groups aggregates).first (list_of out first groups aggregates).name item
      → AreItems (list_of out first groups aggregates).more trees
      → WholeList (length groups) (map (item_of c) (item ∷ trees)) (listed_names out first (kinds_in own groups ++ aggregate_kinds aggregates))
      (shown_kinds (kinds_in own groups ++ aggregate_kinds aggregates))
      (or_unread (column 0 kinds.Integer) (columns_from 0 (kinds_in own groups ++ aggregate_kinds aggregates))) (or_counted groups (printing.aggregates_from (length groups) aggregates))
  whole-list own [] [] enough kinds_are fits out first d no_item_trees = record {
    made = λ b. item_at kinds.Integer (behind_groups c (grouped_here 0) refl b) ∷ [];
    list = grouped_item-read c has_from (over_grouped depth below 0) (grouped_here 0) [] [] kinds.Integer [] (behind_groups c (grouped_here 0) refl) (λ b. []) (counted ∷ []) [] 1 d
        (λ tree x. rows-read c (grouped_here 0) refl tree x) (no_groups-read c has_from (over_grouped depth below 0) (grouped_here 0)) refl;
    first = refl;
  }
  whole-list own [] (aggregate ∷ aggregates) enough kinds_are fits out first d ds = record {
    made = λ b. columns_from (0 + b) (aggregate_kinds (aggregate ∷ aggregates));
    list = aggregates-read c has_from (over_grouped depth below 0) (grouped_here 0) refl (suc depth) below 0 refl (arguments-found c depth outer below bound 0 enough)
        0 out first (aggregate ∷ aggregates) fits (an_item_tree d ds);
    first = refl;
  }
  whole-list own (group ∷ groups) aggregates enough kinds_are fits out first {item = item} {trees = trees} d ds =
      let n = length (group ∷ groups) in
      let all = kinds_in own (group ∷ groups) in
      let long : length all ≡ n = length-map (group ∷ groups) (kind_in own) in
      let none : n + 0 ≡ 0 + length all = omega (arith, long) in
      record {
        made = λ b. columns_from 0 all ++ columns_from (n + b) (aggregate_kinds aggregates);
        list = groups-read c has_from (over_grouped depth below n) (grouped_here n) refl (suc depth) below n (length-range_with_len 0 n) (arguments-found c depth outer below bound n enough)
            (columns-found c depth outer below bound n enough) 0 out first all aggregates (omega (arith, long)) kinds_are fits
            (subst (λ m. AreItems (named_from (marks out) first (named_columns (marks (suc depth)) 1 m ++ writing.aggregates_from (marks (suc depth)) (n + 1) aggregates)) (item ∷ trees)) (sym long)
            (an_item_tree d ds));
        first = ap (λ m. columns_from 0 all ++ columns_from m (aggregate_kinds aggregates)) none ∙ columns-append 0 all (aggregate_kinds aggregates);
      }

  -- it has groups
  aggregated-tree : (function : AggFn) (form : ColumnForm) (tree : ExprTree) → IsExpr (writing.aggregated function form) tree → (part_of c tree).aggregating ≡ true
  aggregated-tree agg.CountRows form tree (count_rows_tree is) = counts c tree word.CountRows is
  aggregated-tree agg.Count form tree (count_tree {x = x} d is) = folds c tree word.Count x is
  aggregated-tree agg.CountDistinct form tree (count_distinct_tree {x = x} d is) = folds c tree word.CountDistinct x is
  aggregated-tree agg.Sum form tree (folded_tree {x = x} d is) = folds c tree word.Sum x is
  aggregated-tree agg.Min form tree (folded_tree {x = x} d is) = folds c tree word.Min x is
  aggregated-tree agg.Max form tree (folded_tree {x = x} d is) = folds c tree word.Max x is

  first-aggregating : {a : ExprForm} {name : List ℕ} {item : SelectItem} (trees : List SelectItem) → IsItem a name item
      → ((tree : ExprTree) → IsExpr a tree → (part_of c tree).aggregating ≡ true) → list_any (λ (part : SelectPart). part.aggregating) (map (item_of c) (item ∷ trees)) ≡ true
  first-aggregating trees (item_tree {x = x} alias d named is) read =
      let more = list_any (λ (part : SelectPart). part.aggregating) (map (item_of c) trees) in
      ap (λ (part : SelectPart). part.aggregating || more) (ap (item_of c) is ∙ part-is c has_from (over_grouped depth below 0) (grouped_here 0) x alias)
      ∙ ap (λ b. b || more) (read x d)

  now-grouped : (groups : List ℕ) (aggregates : List Aggr) (out first : ℕ) {columns : List ColRef} → AreColumns (own_columns (marks (suc depth)) (length groups)) columns
      → {item : SelectItem} (trees : List SelectItem) → IsItem (list_of out first groups aggregates).first (list_of out first groups aggregates).name item
      → is_grouped columns None (map (item_of c) (item ∷ trees)) ≡ true
  now-grouped [] [] out first no_column_trees trees d = first-aggregating trees d (λ tree x. aggregated-tree agg.CountRows (f.bare []) tree x)
  now-grouped [] (aggregate ∷ aggregates) out first no_column_trees trees d = first-aggregating trees d (λ tree x. aggregated-tree aggregate.function _ tree x)
  now-grouped (group ∷ groups) aggregates out first (a_column_tree x xs) trees d = refl

-- ---- the whole

long-below : (own : List Kind) (front : ℕ) (scopes : List (List Kind)) (unread groups : List ℕ) (aggregates : List Aggr)
    → length (item_kinds (items_below own front scopes unread groups aggregates)) ≡ length groups + length aggregates
long-below own front scopes unread [] [] = refl
long-below own front scopes unread [] (aggregate ∷ aggregates) =
    let on : suc (0 + length aggregates) ≡ 0 + suc (length aggregates) = omega arith in ap suc (long-below own front scopes unread [] aggregates) ∙ on
long-below own front scopes unread (place ∷ groups) aggregates =
    let on : suc (length groups + length aggregates) ≡ suc (length groups) + length aggregates = omega arith in
    ap suc (long-below own front scopes unread groups aggregates) ∙ on

kinds-below : (own : List Kind) (front : ℕ) (scopes : List (List Kind)) (unread groups : List ℕ) (aggregates : List Aggr)
    → item_kinds (items_below own front scopes unread groups aggregates) ≡ kinds_in own groups ++ item_kinds (printing.arguments (own ∷ scopes) (front ∷ unread) aggregates)
kinds-below own front scopes unread [] aggregates = refl
kinds-below own front scopes unread (place ∷ groups) aggregates = ap (λ more. kind_in own place ∷ more) (kinds-below own front scopes unread groups aggregates)

pub in_groups-read : (c : Contents) (depth : ℕ) (outer : List (List Kind)) (unread : List ℕ) (around : Around) (own : List Kind) (front : ℕ) → ScopesAre depth outer unread around.outer
    → (chain : Chain) (test : ConditionForm) (q : Query) → BlockRead c (suc depth) around.outer own front chain test q → (groups : List ℕ) (aggregates : List Aggr) → PlacesWithin (length own) groups
    → AggregatesForm (own ∷ outer) aggregates → WritableAggregates aggregates → 1 + (length groups + length aggregates) < 2 ^ 64 → (out first : ℕ) (tree : Core)
    → IsCore (writing.in_groups (marks (suc depth)) (naming (marks out) first) groups aggregates chain test) tree
    → CoreRead c around (listed_names out first (kinds_in own groups ++ aggregate_kinds aggregates)) (shown_kinds (kinds_in own groups ++ aggregate_kinds aggregates))
    (printing.in_groups (own ∷ outer) (front ∷ unread) front groups aggregates own q) tree
in_groups-read c depth outer unread around own front s chain test q block groups aggregates within formed writable small out first tree d =
    let o = opened-groups c d in
    let has = has_some (map (from_of c) o.sources) in
    let items = items_below own front outer unread groups aggregates in
    let all = item_kinds items in
    let inner = Project q (or_unread unread_item items) [] in
    let long = long-below own front outer unread groups aggregates in
    let bound : Few all = omega (arith, long, small) in
    let enough : length groups ≤ length all = omega (arith, long) in
    let split = kinds-below own front outer unread groups aggregates in
    let given = kinds_in own groups ++ aggregate_kinds aggregates in
    let numbered = or_counted groups (printing.aggregates_from (length groups) aggregates) in
    let as_wide : length (kinds_in own groups) ≡ length groups = length-map groups (kind_in own) in
    let from = subquery-read c around.outer (listed_names (suc depth) 1 all) (shown_kinds all) inner o.from
    (below-read c depth outer unread around.outer own front s chain test q block groups aggregates within formed writable) in
    let fits = all-fitting (own ∷ outer) (front ∷ unread) all (length groups) aggregates formed
    (λ i kind e. ap (λ ks. slice_get ks (length groups + i)) split
    ∙ ap (λ m. slice_get (kinds_in own groups ++ item_kinds (printing.arguments (own ∷ outer) (front ∷ unread) aggregates)) (m + i)) (sym as_wide)
    ∙ get-behind (kinds_in own groups) (item_kinds (printing.arguments (own ∷ outer) (front ∷ unread) aggregates)) i ∙ e) in
    let refs = references-read c depth around.outer all bound (length groups) enough 0 (length groups) (omega (arith, enough)) o.grouped in
    let w = whole-list c has depth around.outer all bound own groups aggregates enough
    (λ i kind e. let none : 0 + i ≡ i = omega arith in
    ap (λ ks. slice_get ks (0 + i)) split
    ∙ ap (slice_get (kinds_in own groups ++ item_kinds (printing.arguments (own ∷ outer) (front ∷ unread) aggregates))) none
    ∙ slice_get-longer (kinds_in own groups) (item_kinds (printing.arguments (own ∷ outer) (front ∷ unread) aggregates)) i kind e) fits out first o.first o.rest in
    let core = grouped_core-read around (from_all around.outer (map (from_of c) o.sources)) has (map (item_of c) (o.item ∷ o.items)) o.columns (item_over depth all) inner from
    (range_with_len 0 (length groups)) refs.0 refs.1 (now-grouped c has depth around.outer all bound groups aggregates out first o.grouped o.items o.first)
    (listed_names out first given) (shown_kinds given) w.made numbered w.list in (
      o.unasked,
      subst (λ m. QueryRead m (listed_names out first given) (shown_kinds given) (printing.in_groups (own ∷ outer) (front ∷ unread) front groups aggregates own q)) (sym (o.means around))
          (subst (λ list. QueryRead (core_seen around None (from_all around.outer (map (from_of c) o.sources)) has false (map (item_of c) (o.item ∷ o.items)) None o.columns None)
          (listed_names out first given) (shown_kinds given) (Project (Aggregate inner (range_with_len 0 (length groups)) numbered) list [])) w.first core),
    )
