-- FROM that breaks nothing is made well formed, and its rows hold the columns of its items.
use Rattle.std.specs.Prelude.{◌≡◌, ⊤, ℕ, zero, suc, ◌+◌, ◌≤◌, ◌<◌, Bool, true, false, cond, List, [], ◌∷◌, ◌++◌, map, length, nat_eq, nat_lt, position, slice_get, Option, Some, None, option_map, IfSome}
use Rattle.std.proofs.Common.{refl, ap, sym, ◌∙◌, subst, append-nil, true≢false, arith}
use Rattle.std.proofs.lemmas.List.{length-map, map-append}
use Rattle.std.proofs.lemmas.List.Elements.{All-nil, All-cons}
use Rattle.std.proofs.lemmas.List.FromFn.{length-range_with_len}
use Rattle.std.proofs.lemmas.List.Quantifiers.{position-Some}
use Rattle.std.proofs.lemmas.Option.{same_Some, slice_get-map}
use Rattle.std.specs.List.{list_any, count_by, range_with_len, AllByRecursion as Every}
use Rattle.std.specs.Option.{option_map_or}
use Rattle.perm_values.specs.Rows.{PlacesWithin}
use Rattle.perm_values.specs.declared.kind.Kind.{Kind}
use Rattle.perm_values.specs.declared.kind.Kind.TheVariants.{Boolean}
use Rattle.perm_values.proofs.Lists.{front-none, back-none}
use Rattle.perm_values.proofs.Steps.{by}
use Rattle.bag_algebra.specs.Bags.{Bag}
use Rattle.bag_algebra.specs.built.Openings.{kinds_of-Join, kinds_of-Apply}
use Rattle.bag_algebra.specs.built.Forms.{subs_kinds, WellFormed-Base, WellFormed-Join, WellFormed-Apply}
use Rattle.bag_algebra.specs.Kinds.{kinds_of, width_of}
use Rattle.bag_algebra.specs.WellFormed.{HasKind, WellFormed, label_width, is_dependent}
use Rattle.bag_algebra.specs.declared.expr.Expr.{Expr}
use Rattle.bag_algebra.specs.declared.query.JoinKind.{JoinKind}
use Rattle.bag_algebra.specs.declared.query.JoinKind.TheVariants as join
use Rattle.bag_algebra.specs.declared.query.Label.{Label}
use Rattle.bag_algebra.specs.declared.query.Label.TheVariants.{Relation, External}
use Rattle.bag_algebra.specs.declared.query.Query.{Query}
use Rattle.bag_algebra.specs.declared.query.Query.TheVariants.{Table, Base, Join}
use Rattle.contribution.proofs.LongerKinds.{longer-names, well_formed-longer}
use Rattle.contribution.specs.Conjunctions.{always}
use Rattle.contribution.specs.Longer.{more_lists}
use Rattle.perm_catalog.specs.Changes.{table_named, view_named}
use Rattle.perm_catalog.specs.Columns.{column_kinds}
use Rattle.perm_catalog.specs.Contents.{Contents}
use Rattle.perm_catalog.specs.Sound.{IsSound, IsSoundTable, IsSoundView}
use Rattle.perm_catalog.specs.Stored.{IsSoundStored}
use Rattle.perm_catalog.specs.declared.column.Column.{Column}
use Rattle.perm_catalog.specs.declared.entries.StoredQuery.{StoredQuery}
use Rattle.perm_catalog.specs.declared.entries.TableEntry.{TableEntry}
use Rattle.perm_catalog.specs.declared.entries.ViewEntry.{ViewEntry}
use Rattle.sql_tree.specs.Regular.{is_lateral}
use Rattle.sql_tree.specs.declared.name.Name.{Name}
use Rattle.sql_tree.specs.declared.source.JoinWord.{JoinWord}
use Rattle.sql_tree.specs.declared.source.JoinWord.TheVariants as word
use Rattle.sql_tree.specs.declared.source.ScopeMark.{ScopeMark}
use Rattle.sql_tree.specs.declared.source.ScopeMark.TheVariants as mark
use Rattle.name_meaning.specs.Froms.{names_of, names_at, all_places, table_columns, settled_columns, named_columns, Read, external, read_table, read_view, read_nothing, read_named, read_query, named_so, place_of, column_breaks, attribute_breaks, texts_of, marked, mark_breaks, SourcePart, named as named_source, inner as inner_source, ItemMeant, FromItemPart, read_of, read_names, item_meant, in_on, FromMeant, JoinPart, FromPart, join_kind, scope_items, both_known, first_item, on_meant, optional_breaks, on_built, beside_items, in_from, joined, applied, join_item, joined_item, join_all, beside_from, from_more, from_all}
use Rattle.name_meaning.specs.Meanings.{Around, Part, OutColumn, QueryMeant, broken_if, Built}
use Rattle.name_meaning.specs.Scopes.{KnownColumn, ScopeItem, scope_of, numbered_columns, columns_from}
use Rattle.name_meaning.specs.Sublinks.{nothing_before}
use Rattle.name_meaning.specs.declared.answer.Break.{Break}
use Rattle.name_meaning.specs.declared.scope.Scope.{Scope}
use Rattle.name_meaning.specs.declared.scope.ScopeColumn.{ScopeColumn}
use Rattle.name_meaning.specs.laws.Known.{column_kinds_of, items_kinds}
use Rattle.name_meaning.specs.laws.Standing.{HoldsScope, RowsHold, AggregatesStand}
use Rattle.name_meaning.proofs.Arms.{GoodOptional}
use Rattle.name_meaning.proofs.Cores.{formed-condition}
use Rattle.name_meaning.proofs.Sublinks.{GoodQuery}
use Rattle.name_meaning.specs.declared.rule.Rule.TheVariants as rule
use Rattle.name_meaning.proofs.Every.{unbroken-not}
use Rattle.name_meaning.proofs.KindsOf.{kinds-table_columns, items_kinds-append, kinds-plain, table_with, kinds-table, kinds-marked}
use Rattle.name_meaning.proofs.SettledKinds.{kinds-named_columns, settled-kinds}
use Rattle.name_meaning.proofs.Standing.{stand-whole}

-- ---- places

pub range-in : (from n width : ℕ) → from + n ≤ width → PlacesWithin width (range_with_len from n)
range-in from zero width h = All-nil _
range-in from (suc n) width h =
    All-cons (λ (place : ℕ). place < width) from (range_with_len (from + 1) n) (omega arith) (range-in (from + 1) n width (omega arith))

-- the place of what is there at all
pub position-in : {X : Type 0} (test : X → Bool) (xs : List X) → nat_eq (count_by test xs) 0 ≡ false
    → option_map_or (λ (place : ℕ). place) (position test xs) 0 < length xs
position-in test [] e = absurd (true≢false e)
position-in {X} test (x ∷ xs) e = chosen (position test (x ∷ xs)) refl where
  chosen : (at : Option ℕ) → position test (x ∷ xs) ≡ at → option_map_or (λ (place : ℕ). place) at 0 < suc (length xs)
  chosen None f = omega arith
  chosen (Some at) f = (position-Some test (x ∷ xs) at x f).0

attributes-in : (names earlier : List (List ℕ)) (attributes : List Name) → attribute_breaks (Some names) earlier attributes ≡ []
    → PlacesWithin (length names) (map (place_of names) (texts_of attributes))
attributes-in names earlier [] whole = All-nil _
attributes-in names earlier (attribute ∷ attributes) whole =
    let one : List Break = column_breaks attribute names in
    let again : List Break = broken_if (list_any (named_so attribute.text) earlier) rule.RepeatedColumn attribute.at in
    let rest : List Break = attribute_breaks (Some names) (attribute.text ∷ earlier) attributes in
    let own = front-none one again (front-none (one ++ again) rest whole) in
    let none = front-none (broken_if (nat_eq (count_by (named_so attribute.text) names) 0) rule.UnknownColumn attribute.at)
    (broken_if (nat_lt 1 (count_by (named_so attribute.text) names)) rule.AmbiguousColumn attribute.at) own in
    All-cons (λ (place : ℕ). place < length names) (place_of names attribute.text) (map (place_of names) (texts_of attributes))
    (position-in (named_so attribute.text) names (unbroken-not (nat_eq (count_by (named_so attribute.text) names) 0) rule.UnknownColumn attribute.at none))
    (attributes-in names (attribute.text ∷ earlier) attributes (back-none (one ++ again) rest whole))

-- ---- kinds

kinds-columns_from : (number : ℕ) (items : List ScopeItem) → map (λ (column : ScopeColumn). column.kind) (columns_from number items) ≡ items_kinds items
kinds-columns_from number [] = refl
kinds-columns_from number (item ∷ items) =
    map-append (λ (column : ScopeColumn). column.kind) (numbered_columns number item.columns) (columns_from (suc number) items)
    ∙ (λ i. numbered item.columns i ++ kinds-columns_from (suc number) items i) where
      numbered : (columns : List KnownColumn) → map (λ (column : ScopeColumn). column.kind) (numbered_columns number columns) ≡ column_kinds_of columns
      numbered [] = refl
      numbered (c ∷ columns) = ap (λ (kinds : List Kind). c.kind ∷ kinds) (numbered columns)

-- rows with the columns of all items hold their scope
pub scope-holds : (items : List ScopeItem) (row : List Kind) → row ≡ items_kinds items → HoldsScope (scope_of items) row
scope-holds items row is place at column e there =
    let columns = columns_from 0 items in
    ap (λ r. slice_get r at) (is ∙ sym (kinds-columns_from 0 items))
    ∙ ap (slice_get (map (λ (c : ScopeColumn). c.kind) columns)) (sym (same_Some place at there))
    ∙ slice_get-map (λ (c : ScopeColumn). c.kind) columns place
    ∙ ap (option_map (λ (c : ScopeColumn). c.kind)) e

-- ---- what an item reads

pub record FormedRead (outer : List Scope) (r : Read) : Type 0 where
  pub columns : List KnownColumn
  pub known : r.columns ≡ Some columns
  pub kinds : kinds_of r.query ≡ column_kinds_of columns
  pub plain_kinds : kinds_of r.plain ≡ column_kinds_of columns
  pub formed : (rows : List (List Kind)) → RowsHold outer rows → WellFormed rows r.query
  pub plain_formed : (rows : List (List Kind)) → RowsHold outer rows → WellFormed rows r.plain

abbrev pub GoodRead : List Scope → Read → Type 0
GoodRead outer r = r.breaks ≡ [] → FormedRead outer r

based-formed : (rows : List (List Kind)) (input : Query) (places : List ℕ) (label : Label) → WellFormed rows input → PlacesWithin (width_of input) places
    → label_width label ≡ length places → WellFormed rows (Base input places label)
based-formed rows input places label f within named =
    by (sym (WellFormed-Base rows input places label)) (record { input = f; in_range = within; named = named })

plain-formed : (rows : List (List Kind)) (query : Query) (names : List (List ℕ)) (places : Option (List ℕ)) → WellFormed rows query
    → IfSome places (PlacesWithin (width_of query)) → WellFormed rows (option_map_or (external query names) places query)
plain-formed rows query names None f within = f
plain-formed rows query names (Some places) f within = based-formed rows query places (External (names_at names places)) f within (length-map places _)

module _ (c : Contents) (sound : IsSound c) where
  table-formed : (rows : List (List Kind)) (id : ℕ) (name : List ℕ) (columns : List Column) (held : Bag) (stored : Option StoredQuery)
      → IfSome stored (IsSoundStored c columns held) → WellFormed rows (table_with id name columns stored)
  table-formed rows id name columns held None is =
      let l = length-map columns (λ (column : Column). column.kind) in
      let m : length (names_of (table_columns columns)) ≡ length (all_places columns) =
      length-map (table_columns columns) _ ∙ length-map columns _ ∙ sym (length-range_with_len 0 (length columns)) in
      based-formed rows (Table id (column_kinds columns)) (all_places columns) (Relation name (names_of (table_columns columns))) tt
      (range-in 0 (length columns) (length (column_kinds columns)) (omega (arith, l))) m
  table-formed rows id name columns held (Some mark) is =
      based-formed rows (Table id (column_kinds columns)) mark.places (External (names_at (names_of (table_columns columns)) mark.places)) tt
      (subst (λ (n : ℕ). PlacesWithin n mark.places) (sym (length-map columns (λ (column : Column). column.kind))) is.places)
      (length-map mark.places _)

  good-read_table : (outer : List Scope) (name : List ℕ) (table : TableEntry) → IsSoundTable c table → GoodRead outer (read_table name table)
  good-read_table outer name table is whole = record {
    columns = table_columns table.columns;
    known = refl;
    kinds = kinds-table_columns table.columns;
    plain_kinds = kinds-table table.id name table.columns table.stored ∙ kinds-table_columns table.columns;
    formed = λ rows hold. tt;
    plain_formed = λ rows hold. table-formed rows table.id name table.columns is.rows table.stored is.stored;
  }

  good-read_view : (outer : List Scope) (name : List ℕ) (view : ViewEntry) → IsSoundView c view → GoodRead outer (read_view name view)
  good-read_view outer name view is whole =
      let kinds = sym (kinds-named_columns view.answer.names (kinds_of view.answer.query) is.answer.named) in
      let formed : (rows : List (List Kind)) → WellFormed rows view.answer.query =
      λ rows. well_formed-longer view.answer.query [] rows (longer-names (more_lists rows)) is.answer.closed in
      record {
        columns = named_columns view.answer.names (kinds_of view.answer.query);
        known = refl;
        kinds = kinds;
        plain_kinds = kinds-plain view.answer.query view.answer.names view.places ∙ kinds;
        formed = λ rows hold. formed rows;
        plain_formed = λ rows hold. plain-formed rows view.answer.query view.answer.names view.places (formed rows) is.places;
      }

  good-read_named : (outer : List Scope) (name : Name) → GoodRead outer (read_named c name)
  good-read_named outer name = as_table (table_named c name.text) refl where
    as_view : (view : Option ViewEntry) → view_named c name.text ≡ view → GoodRead outer (option_map_or (read_view name.text) view (read_nothing name))
    as_view None e = λ whole. absurd (cc whole)
    as_view (Some view) e = good-read_view outer name.text view (sound.views name.text view e)

    as_table : (table : Option TableEntry) → table_named c name.text ≡ table
        → GoodRead outer (option_map_or (read_table name.text) table (option_map_or (read_view name.text) (view_named c name.text) (read_nothing name)))
    as_table None e = as_view (view_named c name.text) refl
    as_table (Some table) e = good-read_table outer name.text table (sound.tables name.text table e)

  good-read_query : (around : Around) (m : QueryMeant) → GoodQuery around m → GoodRead around.outer (read_query m)
  good-read_query around m good whole =
      let query = good.known whole in
      let kinds = query.kinds [] ∙ settled-kinds query.columns in
      let names = option_map_or (λ (columns : List OutColumn). names_of (settled_columns columns)) m.columns [] in
      record {
        columns = settled_columns query.columns;
        known = ap (option_map settled_columns) query.known;
        kinds = kinds;
        plain_kinds = kinds-plain (m.make []) names m.places ∙ kinds;
        formed = λ rows hold. good.formed whole rows hold [];
        plain_formed = λ rows hold. plain-formed rows (m.make []) names m.places (good.formed whole rows hold []) (good.places whole);
      }

  abbrev pub GoodSource : SourcePart → Type 0
  GoodSource (named_source name) = ⊤
  GoodSource (inner_source query) = (around : Around) → GoodQuery around (query.means around)

  pub good-read_of : (around : Around) (source : SourcePart) → GoodSource source → GoodRead around.outer (read_of c around source)
  good-read_of around (named_source name) good = good-read_named around.outer name
  good-read_of around (inner_source query) good = good-read_query around (query.means around) (good around)

-- ---- items

pub record FormedItem (outer : List Scope) (m : ItemMeant) : Type 0 where
  pub columns : List KnownColumn
  pub known : m.columns ≡ Some columns
  pub kinds : kinds_of m.query ≡ column_kinds_of columns
  pub formed : (rows : List (List Kind)) → RowsHold outer rows → WellFormed rows m.query

abbrev pub GoodItemMeant : List Scope → ItemMeant → Type 0
GoodItemMeant outer m = m.breaks ≡ [] → FormedItem outer m

abbrev pub GoodFromItem : FromItemPart → Type 0
GoodFromItem item = (around : Around) (earlier : List (List ℕ)) → GoodItemMeant around.outer (item.means around earlier)

marked-formed : (m : ScopeMark) (label : List ℕ) (names : List (List ℕ)) (read : Read) (rows : List (List Kind)) → WellFormed rows read.query → WellFormed rows read.plain
    → length names ≡ width_of read.query → mark_breaks m (Some names) ≡ [] → WellFormed rows (marked m label names read)
marked-formed mark.Plain label names read rows f g width whole = g
marked-formed mark.BaseRelation label names read rows f g width whole =
    based-formed rows read.query (all_places names) (Relation label names) f (range-in 0 (length names) (width_of read.query) (omega (arith, width)))
    (sym (length-range_with_len 0 (length names)))
marked-formed (mark.External attributes) label names read rows f g width whole =
    based-formed rows read.query (map (place_of names) (texts_of attributes)) (External (texts_of attributes)) f
    (subst (λ w. PlacesWithin w (map (place_of names) (texts_of attributes))) width (attributes-in names [] attributes whole))
    (sym (length-map (texts_of attributes) (place_of names)))

pub good-item_meant : (outer : List Scope) (at : ℕ) (m : ScopeMark) (earlier : List (List ℕ)) (name label : List ℕ) (read : Read) → GoodRead outer read
    → GoodItemMeant outer (item_meant at m earlier name label read)
good-item_meant outer at m earlier name label read good whole =
    let same_name : List Break = broken_if (list_any (named_so name) earlier) rule.RepeatedItem at in
    let attributes : List Break = mark_breaks m (option_map names_of read.columns) in
    let r = good (front-none read.breaks same_name (front-none (read.breaks ++ same_name) attributes whole)) in
    let are : read_names read ≡ names_of r.columns = ap (λ (columns : Option (List KnownColumn)). option_map_or names_of columns []) r.known in
    let known : option_map names_of read.columns ≡ Some (read_names read) = ap (option_map names_of) r.known ∙ ap Some (sym are) in
    let width : length (read_names read) ≡ width_of read.query =
    ap length are ∙ length-map r.columns _ ∙ sym (length-map r.columns (λ (column : KnownColumn). column.kind)) ∙ ap length (sym r.kinds) in
    record {
      columns = r.columns;
      known = r.known;
      kinds = kinds-marked m label (read_names read) read (column_kinds_of r.columns) r.kinds r.plain_kinds;
      formed = λ rows hold. marked-formed m label (read_names read) read rows (r.formed rows hold) (r.plain_formed rows hold) width
          (subst (λ (names : Option (List (List ℕ))). mark_breaks m names ≡ []) known (back-none (read.breaks ++ same_name) attributes whole));
    }

-- ---- joins

pub record FormedFrom (outer : List Scope) (m : FromMeant) : Type 0 where
  pub items : List ScopeItem
  pub known : m.items ≡ Some items
  pub kinds : kinds_of m.query ≡ items_kinds items
  pub formed : (rows : List (List Kind)) → RowsHold outer rows → WellFormed rows m.query

abbrev pub GoodFrom : List Scope → FromMeant → Type 0
GoodFrom outer m = m.breaks ≡ [] → FormedFrom outer m

abbrev pub GoodFromPart : FromPart → Type 0
GoodFromPart part = (outer : List Scope) (earlier : List (List ℕ)) → GoodFrom outer (part.means outer earlier)

abbrev pub GoodJoin : JoinPart → Type 0
GoodJoin step = GoodFromItem step.item × GoodOptional step.condition

abbrev item_of : ItemMeant → List KnownColumn → List ScopeItem
item_of m columns = record { name = m.name; columns = columns } ∷ []

pub good-first : (outer : List Scope) (earlier : List (List ℕ)) (m : ItemMeant) → GoodItemMeant outer m → GoodFrom outer (first_item earlier m)
good-first outer earlier m good whole =
    let item = good whole in
    record {
      items = item_of m item.columns;
      known = ap (option_map (λ (columns : List KnownColumn). item_of m columns)) item.known;
      kinds = item.kinds ∙ sym (append-nil (column_kinds_of item.columns));
      formed = item.formed;
    }

yes-holds : (rows : List (List Kind)) → HasKind rows [] always Boolean
yes-holds rows = record { fitting = refl; gives = refl }

crossed-formed : (kind : JoinKind) (left right : Query) (condition : Expr) (rows : List (List Kind)) → WellFormed rows left → WellFormed rows right
    → HasKind ((kinds_of left ++ kinds_of right) ∷ rows) [] condition Boolean → WellFormed rows (Join kind left right condition [])
crossed-formed kind left right condition rows f g h =
    by (sym (WellFormed-Join rows kind left right condition [])) (record { left = f; right = g; subs = tt; condition = h })

-- a condition in the rows up to its own step, with its sublinks
joined-formed : (kind : JoinKind) (left right : Query) (outer : List Scope) (items : List ScopeItem) (condition : Option Part) (rows : List (List Kind))
    → GoodOptional condition → optional_breaks condition (on_meant outer (Some items) condition) ≡ [] → kinds_of left ++ kinds_of right ≡ items_kinds items
    → RowsHold outer rows → WellFormed rows left → WellFormed rows right
    → WellFormed rows (Join kind left right (on_built (on_meant outer (Some items) condition)).expr (on_built (on_meant outer (Some items) condition)).subs)
joined-formed kind left right outer items None rows good whole is hold f g =
    crossed-formed kind left right always rows f g (yes-holds ((kinds_of left ++ kinds_of right) ∷ rows))
joined-formed kind left right outer items (Some part) rows good whole is hold f g =
    let here = in_on items outer in
    let row : List Kind = kinds_of left ++ kinds_of right in
    let made : Built = (part.means here).make Boolean nothing_before in
    let formed = formed-condition here part.at (part.means here) (good.formed here) whole in
    let holds : RowsHold here.scopes (row ∷ rows) = (scope-holds items row is, hold) in
    let stand : AggregatesStand here.scopes 0 made.aggregates (row ∷ rows) =
    subst (λ aggregates. AggregatesStand here.scopes 0 aggregates (row ∷ rows)) (sym (formed.without_aggregates refl)) tt in
    by (sym (WellFormed-Join rows kind left right made.expr made.subs)) (record {
      left = f;
      right = g;
      subs = formed.subs_formed (row ∷ rows) holds stand;
      condition = formed.holds (row ∷ rows) (subs_kinds made.subs) holds stand (stand-whole (subs_kinds made.subs));
    })

-- the items so far, whose columns are known, with one more
more-items : (outer : List Scope) (left : FromMeant) (m : ItemMeant) (from : FormedFrom outer left) (columns : List KnownColumn) → m.columns ≡ Some columns
    → both_known left.items (scope_items m) ≡ Some (from.items ++ item_of m columns)
more-items outer left m from columns known =
    λ i. both_known (from.known i) (ap (option_map (λ (columns : List KnownColumn). item_of m columns)) known i)

more-kinds : (outer : List Scope) (left : FromMeant) (m : ItemMeant) (from : FormedFrom outer left) (columns : List KnownColumn)
    → kinds_of m.query ≡ column_kinds_of columns → kinds_of left.query ++ kinds_of m.query ≡ items_kinds (from.items ++ item_of m columns)
more-kinds outer left m from columns kinds =
    (λ i. from.kinds i ++ (kinds ∙ sym (append-nil (column_kinds_of columns))) i) ∙ sym (items_kinds-append from.items (item_of m columns))

good-joined : (outer : List Scope) (left : FromMeant) (step : JoinPart) (m : ItemMeant) → GoodFrom outer left → GoodItemMeant outer m
    → GoodOptional step.condition
    → GoodFrom outer (joined left step.word step.condition m (on_meant outer (both_known left.items (scope_items m)) step.condition))
good-joined outer left step m l r condition whole =
    let on = on_meant outer (both_known left.items (scope_items m)) step.condition in
    let operands = front-none (left.breaks ++ m.breaks) (optional_breaks step.condition on) whole in
    let from = l (front-none left.breaks m.breaks operands) in
    let item = r (back-none left.breaks m.breaks operands) in
    let items : List ScopeItem = from.items ++ item_of m item.columns in
    let known = more-items outer left m from item.columns item.known in
    let kinds = more-kinds outer left m from item.columns item.kinds in
    let on_whole : optional_breaks step.condition (on_meant outer (Some items) step.condition) ≡ [] =
    subst (λ (found : Option (List ScopeItem)). optional_breaks step.condition (on_meant outer found step.condition) ≡ []) known
    (back-none (left.breaks ++ m.breaks) (optional_breaks step.condition on) whole) in
    record {
      items = items;
      known = known;
      kinds = kinds_of-Join (join_kind step.word) left.query m.query (on_built on).expr (on_built on).subs ∙ kinds;
      formed = λ rows hold.
          subst (λ (found : Option (List ScopeItem)). let built = on_built (on_meant outer found step.condition) in
          WellFormed rows (Join (join_kind step.word) left.query m.query built.expr built.subs)) (sym known)
          (joined-formed (join_kind step.word) left.query m.query outer items step.condition rows condition on_whole kinds hold
          (from.formed rows hold) (item.formed rows hold));
    }

lateral-kinds : (word : JoinWord) → is_lateral word ≡ true → is_dependent (join_kind word) ≡ true
lateral-kinds word.Inner e = absurd (true≢false (sym e))
lateral-kinds word.Left e = absurd (true≢false (sym e))
lateral-kinds word.Right e = absurd (true≢false (sym e))
lateral-kinds word.Full e = absurd (true≢false (sym e))
lateral-kinds word.Cross e = absurd (true≢false (sym e))
lateral-kinds word.CrossLateral e = refl
lateral-kinds word.LeftLateral e = refl

-- a lateral subquery is well formed behind a row of what is before it
good-applied : (outer : List Scope) (left : FromMeant) (word : JoinWord) (m : ItemMeant) → is_lateral word ≡ true → GoodFrom outer left
    → GoodItemMeant (beside_items left.items outer).outer m → GoodFrom outer (applied left word m)
good-applied outer left word m lateral l r whole =
    let from = l (front-none left.breaks m.breaks whole) in
    let item = r (back-none left.breaks m.breaks whole) in
    record {
      items = from.items ++ item_of m item.columns;
      known = more-items outer left m from item.columns item.known;
      kinds = kinds_of-Apply (join_kind word) left.query m.query ∙ more-kinds outer left m from item.columns item.kinds;
      formed = λ rows hold. by (sym (WellFormed-Apply rows (join_kind word) left.query m.query)) (record {
        left = from.formed rows hold;
        right = item.formed (kinds_of left.query ∷ rows)
            (subst (λ found. RowsHold (beside_items found outer).outer (kinds_of left.query ∷ rows)) (sym from.known)
            (scope-holds from.items (kinds_of left.query) from.kinds, hold));
        dependent = lateral-kinds word lateral;
      });
    }

good-join_item : (outer : List Scope) (left : FromMeant) (step : JoinPart) → GoodFrom outer left → GoodJoin step
    → GoodFrom outer (join_item outer left step (joined_item outer left step))
good-join_item outer left step l good = by_word (is_lateral step.word) refl where
  item : (around : Around) → ItemMeant
  item around = step.item.means around left.names

  by_word : (lateral : Bool) → is_lateral step.word ≡ lateral
      → let m = item (cond lateral (beside_items left.items outer) (in_from outer)) in
      GoodFrom outer (cond lateral (applied left step.word m)
      (joined left step.word step.condition m (on_meant outer (both_known left.items (scope_items m)) step.condition)))
  by_word true e =
      good-applied outer left step.word (item (beside_items left.items outer)) e l (good.0 (beside_items left.items outer) left.names)
  by_word false e = good-joined outer left step (item (in_from outer)) l (good.0 (in_from outer) left.names) good.1

pub good-join_all : (outer : List Scope) (left : FromMeant) (steps : List JoinPart) → GoodFrom outer left → Every GoodJoin steps
    → GoodFrom outer (join_all outer left steps)
good-join_all outer left [] l h = l
good-join_all outer left (step ∷ steps) l h =
    good-join_all outer (join_item outer left step (joined_item outer left step)) steps (good-join_item outer left step l h.0) h.1

good-beside : (outer : List Scope) (left right : FromMeant) → GoodFrom outer left → GoodFrom outer right → GoodFrom outer (beside_from left right)
good-beside outer left right l r whole =
    let a = l (front-none left.breaks right.breaks whole) in
    let b = r (back-none left.breaks right.breaks whole) in
    record {
      items = a.items ++ b.items;
      known = λ i. both_known (a.known i) (b.known i);
      kinds = kinds_of-Join join.Inner left.query right.query always [] ∙ (λ i. a.kinds i ++ b.kinds i) ∙ sym (items_kinds-append a.items b.items);
      formed = λ rows hold. crossed-formed join.Inner left.query right.query always rows (a.formed rows hold) (b.formed rows hold) (yes-holds ((kinds_of left.query ++ kinds_of right.query) ∷ rows));
    }

good-more : (outer : List Scope) (left : FromMeant) (parts : List FromPart) → GoodFrom outer left → Every GoodFromPart parts
    → GoodFrom outer (from_more outer left parts)
good-more outer left [] l h = l
good-more outer left (part ∷ parts) l h =
    let right : FromMeant = part.means outer left.names in
    good-more outer (beside_from left right) parts (good-beside outer left right l (h.0 outer left.names)) h.1

pub good-from_all : (outer : List Scope) (parts : List FromPart) → Every GoodFromPart parts → GoodFrom outer (from_all outer parts)
good-from_all outer [] h = λ whole. record { items = []; known = refl; kinds = refl; formed = λ rows hold. tt }
good-from_all outer (part ∷ parts) h = good-more outer (part.means outer []) parts (h.0 outer []) h.1
