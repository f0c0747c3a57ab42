-- What FROM keeps: where it breaks nothing its columns are known, and its places are named.
use Rattle.std.specs.Prelude.{◌≡◌, ⊤, ℕ, Bool, true, false, cond, List, [], ◌∷◌, ◌++◌, map, length, Option, Some, None, option_map}
use Rattle.std.proofs.Common.{refl, ap, sym, ◌∙◌, subst, append-nil}
use Rattle.std.proofs.lemmas.List.{length-map}
use Rattle.std.proofs.lemmas.List.FromFn.{length-range_with_len}
use Rattle.std.specs.List.{list_any}
use Rattle.std.specs.Option.{option_map_or}
use Rattle.bag_algebra.specs.built.Openings.{kinds_of-Join, kinds_of-Apply, shape-Base}
use Rattle.bag_algebra.specs.Kinds.{kinds_of, shape}
use Rattle.bag_algebra.specs.WellFormed.{label_width}
use Rattle.bag_algebra.specs.declared.query.JoinKind.TheVariants as join
use Rattle.perm_values.specs.declared.kind.Kind.TheVariants as kind
use Rattle.perm_values.proofs.Lists.{front-none, back-none}
use Rattle.bag_algebra.specs.declared.query.Label.{Label}
use Rattle.bag_algebra.specs.declared.query.Label.TheVariants.{Relation, External}
use Rattle.bag_algebra.specs.declared.query.Query.{Query}
use Rattle.bag_algebra.specs.declared.query.Query.TheVariants.{Table, Base}
use Rattle.perm_catalog.specs.Changes.{table_named, view_named}
use Rattle.perm_catalog.specs.Columns.{column_kinds}
use Rattle.perm_catalog.specs.Contents.{Contents}
use Rattle.perm_catalog.specs.Sound.{IsSound, IsSoundView}
use Rattle.perm_catalog.specs.declared.column.Column.{Column}
use Rattle.perm_catalog.specs.declared.entries.StoredQuery.{StoredQuery}
use Rattle.perm_catalog.specs.declared.entries.TableEntry.{TableEntry}
use Rattle.perm_catalog.specs.declared.entries.ViewEntry.{ViewEntry}
use Rattle.sql_tree.specs.Regular.{is_lateral}
use Rattle.sql_tree.specs.declared.name.Name.{Name}
use Rattle.sql_tree.specs.declared.source.JoinWord.{JoinWord}
use Rattle.sql_tree.specs.declared.source.ScopeMark.{ScopeMark}
use Rattle.sql_tree.specs.declared.source.ScopeMark.TheVariants as mark
use Rattle.contribution.specs.Conjunctions.{always}
use Rattle.contribution.proofs.WhereGood.{Every, every-append}
use Rattle.name_meaning.specs.Froms.{names_of, names_at, all_places, table_columns, settled_columns, named_columns, Read, external, read_table, read_view, read_nothing, read_named, read_query, named_so, place_of, texts_of, marked, mark_breaks, SourcePart, named as named_source, inner as inner_source, ItemMeant, FromItemPart, read_of, read_names, item_meant, FromMeant, JoinPart, FromPart, join_kind, scope_items, both_known, first_item, on_meant, optional_breaks, on_built, joined, applied, join_item, joined_around, joined_item, join_all, beside_from, from_more, from_all, in_on}
use Rattle.name_meaning.specs.Meanings.{Around, Meant, Part, OutColumn, QueryMeant, broken_if}
use Rattle.name_meaning.specs.Scopes.{KnownColumn, ScopeItem}
use Rattle.name_meaning.specs.declared.answer.Break.{Break}
use Rattle.name_meaning.specs.declared.scope.Scope.{Scope}
use Rattle.name_meaning.specs.laws.Facts.{Facts, sub_facts}
use Rattle.name_meaning.specs.laws.Known.{ReadIsKnown, ItemIsKnown, FromIsKnown, column_kinds_of}
use Rattle.name_meaning.proofs.FactsOf.{facts-Join_alone, facts-Join, facts-Apply}
use Rattle.name_meaning.proofs.Kept.{GoodQuery}
use Rattle.name_meaning.proofs.NamedPlaces.{IsNamed, AreNamed, named-base, named-formed}
use Rattle.name_meaning.proofs.SettledKinds.{kinds-named_columns, settled-kinds}
use Rattle.name_meaning.specs.declared.rule.Rule.TheVariants as rule
use Rattle.name_meaning.proofs.KindsOf.{kinds-table_columns, items_kinds-append, kinds-plain, table_with, kinds-table, kinds-marked}
use Rattle.name_meaning.proofs.KeptCores.{GoodOptional, GoodOptionalPart}
use Rattle.name_meaning.specs.Sublinks.{nothing_before}

-- ---- sources

pub named-Base : (input : Query) (places : List ℕ) (label : Label) → label_width label ≡ length places → AreNamed (shape (Base input places label))
named-Base input places label e = subst AreNamed (sym (shape-Base input places label)) (named-base input places label e, tt)

named-external : (query : Query) (names : List (List ℕ)) (places : List ℕ) → AreNamed (shape (external query names places))
named-external query names places = named-Base query places (External (names_at names places)) (length-map places _)

named-all : {X : Type 0} (query : Query) (name : List ℕ) (names : List (List ℕ)) (columns : List X) → length names ≡ length columns
    → AreNamed (shape (Base query (all_places columns) (Relation name names)))
named-all query name names columns e =
    named-Base query (all_places columns) (Relation name names) (e ∙ sym (length-range_with_len 0 (length columns)))

-- the names of a subquery's columns
abbrev pub out_names : QueryMeant → List (List ℕ)
out_names m = option_map_or (λ (columns : List OutColumn). names_of (settled_columns columns)) m.columns []

named-plain : (query : Query) (names : List (List ℕ)) (places : Option (List ℕ)) → AreNamed (shape query) → AreNamed (shape (option_map_or (external query names) places query))
named-plain query names None h = h
named-plain query names (Some places) h = named-external query names places

named-table_plain : (id : ℕ) (name : List ℕ) (columns : List Column) (stored : Option StoredQuery) → AreNamed (shape (table_with id name columns stored))
named-table_plain id name columns None =
    named-all (Table id (column_kinds columns)) name (names_of (table_columns columns)) columns
    (length-map (table_columns columns) _ ∙ length-map columns _)
named-table_plain id name columns (Some m) = named-external (Table id (column_kinds columns)) (names_of (table_columns columns)) m.places

-- ---- what an item reads

module _ (c : Contents) where
  pub record GoodRead (r : Read) : Type 0 where
    pub known : IsSound c → r.breaks ≡ [] → ReadIsKnown r
    pub named : IsSound c → AreNamed (shape r.plain)

  good-read_table : (name : List ℕ) (table : TableEntry) → GoodRead (read_table name table)
  good-read_table name table = record {
    known = λ sound whole. record {
      columns = table_columns table.columns;
      known = refl;
      kinds = kinds-table_columns table.columns;
      plain = kinds-table table.id name table.columns table.stored ∙ kinds-table_columns table.columns;
    };
    named = λ sound. named-table_plain table.id name table.columns table.stored;
  }

  good-read_view : (name : List ℕ) (view : ViewEntry) → (IsSound c → IsSoundView c view) → GoodRead (read_view name view)
  good-read_view name view sound_view = record {
    known = λ sound whole.
        let kinds = sym (kinds-named_columns view.answer.names (kinds_of view.answer.query) (sound_view sound).answer.named) in
        record {
          columns = named_columns view.answer.names (kinds_of view.answer.query);
          known = refl;
          kinds = kinds;
          plain = kinds-plain view.answer.query view.answer.names view.places ∙ kinds;
        };
    named = λ sound. named-plain view.answer.query view.answer.names view.places (named-formed view.answer.query [] (sound_view sound).answer.closed);
  }

  good-read_nothing : (name : Name) → GoodRead (read_nothing name)
  good-read_nothing name = record { known = λ sound whole. absurd (cc whole); named = λ sound. tt }

  pub good-read_named : (name : Name) → GoodRead (read_named c name)
  good-read_named name = as_table (table_named c name.text) where
    as_view : (view : Option ViewEntry) → view_named c name.text ≡ view → GoodRead (option_map_or (read_view name.text) view (read_nothing name))
    as_view None e = good-read_nothing name
    as_view (Some view) e = good-read_view name.text view (λ sound. sound.views name.text view e)

    as_table : (table : Option TableEntry)
        → GoodRead (option_map_or (read_table name.text) table (option_map_or (read_view name.text) (view_named c name.text) (read_nothing name)))
    as_table None = as_view (view_named c name.text) refl
    as_table (Some table) = good-read_table name.text table

  pub good-read_query : (m : QueryMeant) → GoodQuery (IsSound c) m → GoodRead (read_query m)
  good-read_query m good = record {
    known = λ sound whole.
        let query = good.known sound whole in
        let kinds = query.kinds [] ∙ settled-kinds query.columns in
        record {
          columns = settled_columns query.columns;
          known = ap (option_map settled_columns) query.known;
          kinds = kinds;
          plain = kinds-plain (m.make []) (out_names m) m.places ∙ kinds;
        };
    named = λ sound. named-plain (m.make []) (out_names m) m.places (good.named sound []);
  }

  abbrev pub GoodSource : SourcePart → Type 0
  GoodSource (named_source name) = ⊤
  GoodSource (inner_source query) = (around : Around) → GoodQuery (IsSound c) (query.means around)

  pub good-read_of : (around : Around) (source : SourcePart) → GoodSource source → GoodRead (read_of c around source)
  good-read_of around (named_source name) good = good-read_named name
  good-read_of around (inner_source query) good = good-read_query (query.means around) (good around)

  -- ---- items

  pub record GoodItem (m : ItemMeant) : Type 0 where
    pub known : IsSound c → m.breaks ≡ [] → ItemIsKnown m
    pub named : IsSound c → AreNamed (shape m.query)

  abbrev pub GoodFromItem : FromItemPart → Type 0
  GoodFromItem item = (around : Around) (earlier : List (List ℕ)) → GoodItem (item.means around earlier)

  named-marked : (m : ScopeMark) (label : List ℕ) (names : List (List ℕ)) (read : Read) → AreNamed (shape read.plain) → AreNamed (shape (marked m label names read))
  named-marked mark.Plain label names read h = h
  named-marked mark.BaseRelation label names read h = named-all read.query label names names refl
  named-marked (mark.External attributes) label names read h =
      named-Base read.query (map (place_of names) (texts_of attributes)) (External (texts_of attributes)) (sym (length-map (texts_of attributes) (place_of names)))

  pub good-item_meant : (at : ℕ) (m : ScopeMark) (earlier : List (List ℕ)) (name label : List ℕ) (read : Read) → GoodRead read
      → GoodItem (item_meant at m earlier name label read)
  good-item_meant at m earlier name label read good =
      let same_name : List Break = broken_if (list_any (named_so name) earlier) rule.RepeatedItem at in
      let attributes : List Break = mark_breaks m (option_map names_of read.columns) in
      record {
        known = λ sound whole.
            let r = good.known sound (front-none read.breaks same_name (front-none (read.breaks ++ same_name) attributes whole)) in
            record { columns = r.columns; known = r.known; kinds = kinds-marked m label (read_names read) read (column_kinds_of r.columns) r.kinds r.plain };
        named = λ sound. named-marked m label (read_names read) read (good.named sound);
      }

  -- ---- joins

  pub record GoodFrom (m : FromMeant) : Type 0 where
    pub known : IsSound c → m.breaks ≡ [] → FromIsKnown m
    pub named : IsSound c → AreNamed (shape m.query)

  abbrev pub GoodFromPart : FromPart → Type 0
  GoodFromPart part = (outer : List Scope) (earlier : List (List ℕ)) → GoodFrom (part.means outer earlier)

  abbrev pub GoodJoin : JoinPart → Type 0
  GoodJoin step = GoodFromItem step.item × GoodOptionalPart (IsSound c) step.condition

  pub good-first : (earlier : List (List ℕ)) (m : ItemMeant) → GoodItem m → GoodFrom (first_item earlier m)
  good-first earlier m good = record {
    known = λ sound whole.
        let item = good.known sound whole in
        record {
          items = record { name = m.name; columns = item.columns } ∷ [];
          known = ap (option_map (λ (columns : List KnownColumn). record { name = m.name; columns = columns } ∷ [])) item.known;
          kinds = item.kinds ∙ sym (append-nil (column_kinds_of item.columns));
        };
    named = good.named;
  }

  known-both : {X : Type 0} (a b : Option (List X)) (xs ys : List X) → a ≡ Some xs → b ≡ Some ys → both_known a b ≡ Some (xs ++ ys)
  known-both a b xs ys e f = λ i. both_known (e i) (f i)

  good-on : (outer : List Scope) (items : Option (List ScopeItem)) (condition : Option Part) → GoodOptionalPart (IsSound c) condition
      → GoodOptional (IsSound c) (on_meant outer items condition)
  good-on outer None condition good = tt
  good-on outer (Some items) None good = tt
  good-on outer (Some items) (Some condition) good = good (in_on items outer)

  named-on : IsSound c → (on : Option Meant) → GoodOptional (IsSound c) on → AreNamed (sub_facts (on_built on).subs).places
  named-on sound None good = tt
  named-on sound (Some m) good = good.named sound kind.Boolean nothing_before

  -- the columns of the items so far, with one more
  more-known : (m left : FromMeant) (item : ItemMeant) → m.items ≡ both_known left.items (scope_items item)
      → kinds_of m.query ≡ kinds_of left.query ++ kinds_of item.query → FromIsKnown left → ItemIsKnown item → FromIsKnown m
  more-known m left item items kinds l r =
      let own : List ScopeItem = record { name = item.name; columns = r.columns } ∷ [] in
      record {
        items = l.items ++ own;
        known = items ∙ known-both left.items (scope_items item) l.items own l.known
            (ap (option_map (λ (columns : List KnownColumn). record { name = item.name; columns = columns } ∷ [])) r.known);
        kinds = kinds ∙ (λ i. l.kinds i ++ (r.kinds ∙ sym (append-nil (column_kinds_of r.columns))) i) ∙ sym (items_kinds-append l.items own);
      }

  good-joined : (left : FromMeant) (word : JoinWord) (condition : Option Part) (m : ItemMeant) (on : Option Meant) → GoodFrom left → GoodItem m
      → GoodOptional (IsSound c) on → GoodFrom (joined left word condition m on)
  good-joined left word condition m on l r conditions = record {
    known = λ sound whole.
        let operands = front-none (left.breaks ++ m.breaks) (optional_breaks condition on) whole in
        more-known (joined left word condition m on) left m refl
        (kinds_of-Join (join_kind word) left.query m.query (on_built on).expr (on_built on).subs)
        (l.known sound (front-none left.breaks m.breaks operands)) (r.known sound (back-none left.breaks m.breaks operands));
    named = λ sound. subst (λ (facts : Facts). AreNamed facts.places)
        (sym (facts-Join (join_kind word) left.query m.query (on_built on).expr (on_built on).subs))
        (every-append IsNamed (shape left.query ++ shape m.query) (sub_facts (on_built on).subs).places
        (every-append IsNamed (shape left.query) (shape m.query) (l.named sound) (r.named sound)) (named-on sound on conditions));
  }

  good-applied : (left : FromMeant) (word : JoinWord) (m : ItemMeant) → GoodFrom left → GoodItem m → GoodFrom (applied left word m)
  good-applied left word m l r = record {
    known = λ sound whole.
        more-known (applied left word m) left m refl (kinds_of-Apply (join_kind word) left.query m.query)
        (l.known sound (front-none left.breaks m.breaks whole)) (r.known sound (back-none left.breaks m.breaks whole));
    named = λ sound. subst (λ (facts : Facts). AreNamed facts.places) (sym (facts-Apply (join_kind word) left.query m.query))
        (every-append IsNamed (shape left.query) (shape m.query) (l.named sound) (r.named sound));
  }

  good-join_item : (outer : List Scope) (left : FromMeant) (step : JoinPart) (m : ItemMeant) → GoodFrom left → GoodItem m
      → GoodOptionalPart (IsSound c) step.condition → GoodFrom (join_item outer left step m)
  good-join_item outer left step m l r condition = by_word (is_lateral step.word) where
    items : Option (List ScopeItem)
    items = both_known left.items (scope_items m)

    by_word : (lateral : Bool)
        → GoodFrom (cond lateral (applied left step.word m) (joined left step.word step.condition m (on_meant outer items step.condition)))
    by_word true = good-applied left step.word m l r
    by_word false =
        good-joined left step.word step.condition m (on_meant outer items step.condition) l r (good-on outer items step.condition condition)

  pub good-join_all : (outer : List Scope) (left : FromMeant) (steps : List JoinPart) → GoodFrom left → Every GoodJoin steps
      → GoodFrom (join_all outer left steps)
  good-join_all outer left [] l h = l
  good-join_all outer left (step ∷ steps) l h =
      let m : ItemMeant = joined_item outer left step in
      good-join_all outer (join_item outer left step m) steps
      (good-join_item outer left step m l (h.0.0 (joined_around step.word outer left.items) left.names) h.0.1) h.1

  good-beside : (left right : FromMeant) → GoodFrom left → GoodFrom right → GoodFrom (beside_from left right)
  good-beside left right l r = record {
    known = λ sound whole.
        let a = l.known sound (front-none left.breaks right.breaks whole) in
        let b = r.known sound (back-none left.breaks right.breaks whole) in
        record {
          items = a.items ++ b.items;
          known = known-both left.items right.items a.items b.items a.known b.known;
          kinds = kinds_of-Join join.Inner left.query right.query always []
              ∙ (λ i. a.kinds i ++ b.kinds i)
              ∙ sym (items_kinds-append a.items b.items);
        };
    named = λ sound. subst (λ (facts : Facts). AreNamed facts.places) (sym (facts-Join_alone join.Inner left.query right.query always))
        (every-append IsNamed (shape left.query) (shape right.query) (l.named sound) (r.named sound));
  }

  good-more : (outer : List Scope) (left : FromMeant) (parts : List FromPart) → GoodFrom left → Every GoodFromPart parts
      → GoodFrom (from_more outer left parts)
  good-more outer left [] l h = l
  good-more outer left (part ∷ parts) l h =
      let right : FromMeant = part.means outer left.names in
      good-more outer (beside_from left right) parts (good-beside left right l (h.0 outer left.names)) h.1

  pub good-from_all : (outer : List Scope) (parts : List FromPart) → Every GoodFromPart parts → GoodFrom (from_all outer parts)
  good-from_all outer [] h = record {
    known = λ sound whole. record { items = []; known = refl; kinds = refl };
    named = λ sound. tt;
  }
  good-from_all outer (part ∷ parts) h = good-more outer (part.means outer []) parts (h.0 outer []) h.1
