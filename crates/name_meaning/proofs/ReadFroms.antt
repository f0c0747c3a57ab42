-- What holds of each table of the catalog, also of those that its views read, holds of each that FROM reads.
use Rattle.std.specs.Prelude.{⊤, ℕ, Bool, true, false, cond, List, [], ◌∷◌, ◌++◌, map, Option, Some, None}
use Rattle.std.proofs.Common.{◌≡◌, refl}
use Rattle.std.specs.Option.{option_map_or}
use Rattle.perm_values.specs.declared.kind.Kind.{Kind}
use Rattle.perm_values.specs.declared.kind.Kind.TheVariants as kind
use Rattle.bag_algebra.specs.TablesRead.{EachTable}
use Rattle.bag_algebra.specs.declared.query.JoinKind.TheVariants as join
use Rattle.bag_algebra.specs.declared.query.Label.TheVariants.{Relation, External}
use Rattle.bag_algebra.specs.declared.query.Query.{Query}
use Rattle.bag_algebra.specs.declared.query.Query.TheVariants.{Table, Base}
use Rattle.perm_catalog.specs.Changes.{table_named, view_named}
use Rattle.perm_catalog.specs.Columns.{column_kinds}
use Rattle.perm_catalog.specs.Contents.{Contents}
use Rattle.perm_catalog.specs.declared.entries.StoredQuery.{StoredQuery}
use Rattle.perm_catalog.specs.declared.entries.TableEntry.{TableEntry}
use Rattle.perm_catalog.specs.declared.entries.ViewEntry.{ViewEntry}
use Rattle.sql_tree.specs.Regular.{is_lateral}
use Rattle.sql_tree.specs.declared.name.Name.{Name}
use Rattle.sql_tree.specs.declared.source.JoinWord.{JoinWord}
use Rattle.sql_tree.specs.declared.source.ScopeMark.{ScopeMark}
use Rattle.sql_tree.specs.declared.source.ScopeMark.TheVariants as mark
use Rattle.name_meaning.specs.Froms.{names_of, names_at, all_places, table_columns, settled_columns, Read, external, read_table, read_view, read_nothing, read_named, read_query, place_of, texts_of, marked, SourcePart, named as named_source, inner as inner_source, ItemMeant, FromItemPart, read_of, read_names, item_meant, FromMeant, JoinPart, FromPart, join_kind, both_known, scope_items, on_meant, on_built, joined, applied, join_item, joined_around, joined_item, join_all, beside_from, from_more, from_all, in_on, optional_inside}
use Rattle.name_meaning.specs.Meanings.{Around, Meant, Part, QueryMeant, nothing_inside}
use Rattle.name_meaning.specs.Scopes.{ScopeItem}
use Rattle.name_meaning.specs.declared.scope.Scope.{Scope}
use Rattle.name_meaning.proofs.ReadMeant.{QueryReads, QueryPartReads}
use Rattle.name_meaning.proofs.ReadNodes.{Grows, wide-left, wide-right, reads-Base, reads-Join, reads-Apply, subs-right}
use Rattle.name_meaning.proofs.ReadCores.{OptionalReads}
use Rattle.name_meaning.specs.Sublinks.{nothing_before}
use Rattle.bag_algebra.specs.built.Forms.{EachTableOfSubs}
use Rattle.contribution.specs.Conjunctions.{always}
use Rattle.contribution.proofs.WhereGood.{Every}

module _ (P : List (List ℕ) → ℕ → List Kind → Type 0) (g : Grows P) where
  -- it holds of the tables that the catalog holds, and of those that its views read
  pub record IsHeld (c : Contents) : Type 0 where
    pub tables : (name : List ℕ) (table : TableEntry) → table_named c name ≡ Some table → P (name ∷ []) table.id (column_kinds table.columns)
    pub views : (name : List ℕ) (view : ViewEntry) → view_named c name ≡ Some view → EachTable (P (name ∷ view.names_used)) view.answer.query

  pub record ReadHolds (r : Read) : Type 0 where
    pub query : EachTable (P r.inside.names) r.query
    pub plain : EachTable (P r.inside.names) r.plain

  reads-external : (inside : List (List ℕ)) (query : Query) (names : List (List ℕ)) (places : Option (List ℕ)) → EachTable (P inside) query
      → EachTable (P inside) (option_map_or (external query names) places query)
  reads-external inside query names None h = h
  reads-external inside query names (Some places) h = reads-Base (P inside) query places (External (names_at names places)) h

  reads-source : (inside : List (List ℕ)) (own : Query) (name : List ℕ) (names : List (List ℕ)) (places : List ℕ) (stored : Option StoredQuery) → EachTable (P inside) own
      → EachTable (P inside) (option_map_or (λ (m : StoredQuery). external own names m.places) stored (Base own places (Relation name names)))
  reads-source inside own name names places None h = reads-Base (P inside) own places (Relation name names) h
  reads-source inside own name names places (Some m) h = reads-Base (P inside) own m.places (External (names_at names m.places)) h

  reads-marked : (m : ScopeMark) (label : List ℕ) (names : List (List ℕ)) (read : Read) → ReadHolds read → EachTable (P read.inside.names) (marked m label names read)
  reads-marked mark.Plain label names read h = h.plain
  reads-marked mark.BaseRelation label names read h = reads-Base (P read.inside.names) read.query (all_places names) (Relation label names) h.query
  reads-marked (mark.External attributes) label names read h =
      reads-Base (P read.inside.names) read.query (map (place_of names) (texts_of attributes)) (External (texts_of attributes)) h.query

  reads-table : (name : List ℕ) (table : TableEntry) → P (name ∷ []) table.id (column_kinds table.columns) → ReadHolds (read_table name table)
  reads-table name table h = record {
    query = h;
    plain = reads-source (name ∷ []) (Table table.id (column_kinds table.columns)) name (names_of (table_columns table.columns)) (all_places table.columns) table.stored h;
  }

  reads-view : (name : List ℕ) (view : ViewEntry) → EachTable (P (name ∷ view.names_used)) view.answer.query → ReadHolds (read_view name view)
  reads-view name view h = record { query = h; plain = reads-external (name ∷ view.names_used) view.answer.query view.answer.names view.places h }

  reads-nothing : (name : Name) → ReadHolds (read_nothing name)
  reads-nothing name = record { query = tt; plain = tt }

  reads-query : (m : QueryMeant) → QueryReads P g m → ReadHolds (read_query m)
  reads-query m h = record {
    query = h [];
    plain = reads-external m.inside.names (m.make []) (option_map_or (λ columns. names_of (settled_columns columns)) m.columns []) m.places (h []);
  }

  abbrev pub SourceReads : SourcePart → Type 0
  SourceReads (named_source name) = ⊤
  SourceReads (inner_source query) = QueryPartReads P g query

  module _ (c : Contents) (held : IsHeld c) where
    reads-named : (name : Name) → ReadHolds (read_named c name)
    reads-named name = as_table (table_named c name.text) refl where
      as_view : (view : Option ViewEntry) → view_named c name.text ≡ view → ReadHolds (option_map_or (read_view name.text) view (read_nothing name))
      as_view None e = reads-nothing name
      as_view (Some view) e = reads-view name.text view (held.views name.text view e)

      as_table : (table : Option TableEntry) → table_named c name.text ≡ table
          → ReadHolds (option_map_or (read_table name.text) table (option_map_or (read_view name.text) (view_named c name.text) (read_nothing name)))
      as_table None e = as_view (view_named c name.text) refl
      as_table (Some table) e = reads-table name.text table (held.tables name.text table e)

    pub reads-read_of : (around : Around) (source : SourcePart) → SourceReads source → ReadHolds (read_of c around source)
    reads-read_of around (named_source name) good = reads-named name
    reads-read_of around (inner_source query) good = reads-query (query.means around) (good around)

  -- ---- items and joins

  abbrev pub FromItemReads : FromItemPart → Type 0
  FromItemReads item = (around : Around) (earlier : List (List ℕ)) → EachTable (P (item.means around earlier).inside.names) (item.means around earlier).query

  pub reads-item_meant : (at : ℕ) (m : ScopeMark) (earlier : List (List ℕ)) (name label : List ℕ) (read : Read) → ReadHolds read
      → EachTable (P read.inside.names) (item_meant at m earlier name label read).query
  reads-item_meant at m earlier name label read good = reads-marked m label (read_names read) read good

  abbrev pub FromPartReads : FromPart → Type 0
  FromPartReads part = (outer : List Scope) (earlier : List (List ℕ)) → EachTable (P (part.means outer earlier).inside.names) (part.means outer earlier).query

  abbrev pub JoinReads : JoinPart → Type 0
  JoinReads step = FromItemReads step.item × OptionalReads P g step.condition

  abbrev pub FromReads : FromMeant → Type 0
  FromReads m = EachTable (P m.inside.names) m.query

  -- what a condition reads
  abbrev OnReads : Option Meant → Type 0
  OnReads on = EachTableOfSubs (P (optional_inside on).names) (on_built on).subs

  reads-on : (outer : List Scope) (items : Option (List ScopeItem)) (condition : Option Part) → OptionalReads P g condition
      → OnReads (on_meant outer items condition)
  reads-on outer None condition good = tt
  reads-on outer (Some items) None good = tt
  reads-on outer (Some items) (Some condition) good = good (in_on items outer) kind.Boolean nothing_before

  reads-joined : (left : FromMeant) (word : JoinWord) (condition : Option Part) (m : ItemMeant) (on : Option Meant) → FromReads left
      → EachTable (P m.inside.names) m.query → OnReads on → FromReads (joined left word condition m on)
  reads-joined left word condition m on l r conditions =
      let of_left : List (List ℕ) = left.inside.names in
      let of_item : List (List ℕ) = m.inside.names in
      let of_on : List (List ℕ) = (option_map_or (λ (meant : Meant). meant.inside) on nothing_inside).names in
      reads-Join (P (of_left ++ (of_item ++ of_on))) (join_kind word) left.query m.query (on_built on).expr (on_built on).subs
      (wide-left P g of_left (of_item ++ of_on) left.query l)
      (wide-right P g of_left (of_item ++ of_on) m.query (wide-left P g of_item of_on m.query r))
      (subs-right P g of_left (of_item ++ of_on) (on_built on).subs (subs-right P g of_item of_on (on_built on).subs conditions))

  reads-applied : (left : FromMeant) (word : JoinWord) (m : ItemMeant) → FromReads left → EachTable (P m.inside.names) m.query
      → FromReads (applied left word m)
  reads-applied left word m l r =
      let of_left : List (List ℕ) = left.inside.names in
      let of_item : List (List ℕ) = m.inside.names in
      reads-Apply (P (of_left ++ of_item)) (join_kind word) left.query m.query
      (wide-left P g of_left of_item left.query l) (wide-right P g of_left of_item m.query r)

  reads-join_item : (outer : List Scope) (left : FromMeant) (step : JoinPart) (m : ItemMeant) → FromReads left
      → EachTable (P m.inside.names) m.query → OptionalReads P g step.condition → FromReads (join_item outer left step m)
  reads-join_item outer left step m l r condition = by_word (is_lateral step.word) where
    items : Option (List ScopeItem)
    items = both_known left.items (scope_items m)

    by_word : (lateral : Bool)
        → FromReads (cond lateral (applied left step.word m) (joined left step.word step.condition m (on_meant outer items step.condition)))
    by_word true = reads-applied left step.word m l r
    by_word false =
        reads-joined left step.word step.condition m (on_meant outer items step.condition) l r (reads-on outer items step.condition condition)

  pub reads-join_all : (outer : List Scope) (left : FromMeant) (steps : List JoinPart) → FromReads left → Every JoinReads steps
      → FromReads (join_all outer left steps)
  reads-join_all outer left [] l h = l
  reads-join_all outer left (step ∷ steps) l h =
      let m : ItemMeant = joined_item outer left step in
      reads-join_all outer (join_item outer left step m) steps
      (reads-join_item outer left step m l (h.0.0 (joined_around step.word outer left.items) left.names) h.0.1) h.1

  reads-beside : (left right : FromMeant) → FromReads left → FromReads right → FromReads (beside_from left right)
  reads-beside left right l r =
      let of_left : List (List ℕ) = left.inside.names in
      let of_right : List (List ℕ) = right.inside.names in
      reads-Join (P (of_left ++ of_right)) join.Inner left.query right.query always [] (wide-left P g of_left of_right left.query l) (wide-right P g of_left of_right right.query r) tt

  reads-more : (outer : List Scope) (left : FromMeant) (parts : List FromPart) → FromReads left → Every FromPartReads parts
      → FromReads (from_more outer left parts)
  reads-more outer left [] l h = l
  reads-more outer left (part ∷ parts) l h =
      let right : FromMeant = part.means outer left.names in
      reads-more outer (beside_from left right) parts (reads-beside left right l (h.0 outer left.names)) h.1

  pub reads-from_all : (outer : List Scope) (parts : List FromPart) → Every FromPartReads parts → FromReads (from_all outer parts)
  reads-from_all outer [] h = tt
  reads-from_all outer (part ∷ parts) h = reads-more outer (part.means outer []) parts (h.0 outer []) h.1
