-- What FROM means: its items with their marks, and its joins.
use Rattle.std.specs.Prelude.{ℕ, Bool, true, false, cond, not, List, [], ◌∷◌, ◌++◌, map, length, nat_eq, nat_lt, position, slice_index_or, Option, Some, None, option_map}
use Rattle.std.specs.Cmp.Lexicographic.{pointwise}
use Rattle.std.specs.List.{list_any, count_by, range_with_len}
use Rattle.std.specs.Option.{option_map_or}
use Rattle.perm_values.specs.declared.kind.Kind.{Kind}
use Rattle.perm_values.specs.declared.kind.Kind.TheVariants as kind
use Rattle.bag_algebra.specs.declared.query.JoinKind.{JoinKind}
use Rattle.bag_algebra.specs.declared.query.JoinKind.TheVariants as join
use Rattle.bag_algebra.specs.declared.query.Label.TheVariants.{Relation, External}
use Rattle.bag_algebra.specs.declared.query.Query.{Query}
use Rattle.bag_algebra.specs.declared.query.Query.TheVariants.{Table, Single, Base, Join, Apply}
use Rattle.perm_catalog.specs.Changes.{table_named, view_named}
use Rattle.perm_catalog.specs.Columns.{column_kinds}
use Rattle.perm_catalog.specs.Contents.{Contents}
use Rattle.perm_catalog.specs.declared.column.Column.{Column}
use Rattle.perm_catalog.specs.declared.entries.StoredQuery.{StoredQuery}
use Rattle.perm_catalog.specs.declared.entries.TableEntry.{TableEntry}
use Rattle.perm_catalog.specs.declared.entries.ViewEntry.{ViewEntry}
use Rattle.bag_algebra.specs.Kinds.{kinds_of}
use Rattle.sql_tree.specs.Regular.{is_lateral}
use Rattle.sql_tree.specs.declared.expression.ExprBody.TheOpen.{FromSource-F, FromItem-F, FromTree-F, JoinStep-F}
use Rattle.sql_tree.specs.declared.name.Name.{Name}
use Rattle.sql_tree.specs.declared.source.JoinWord.{JoinWord}
use Rattle.sql_tree.specs.declared.source.JoinWord.TheVariants as word
use Rattle.sql_tree.specs.declared.source.ScopeMark.{ScopeMark}
use Rattle.sql_tree.specs.declared.source.ScopeMark.TheVariants as mark
use Rattle.contribution.specs.Conjunctions.{always}
use Rattle.name_meaning.specs.Meanings.{Inside, nothing_inside, both_inside, Around, Surroundings, Built, Meant, seen_kind, Part, OutColumn, QueryMeant, QueryPart, broken, broken_if, settled, unites}
use Rattle.name_meaning.specs.Scopes.{KnownColumn, ScopeItem, scope_of}
use Rattle.name_meaning.specs.Sublinks.{nothing_before, built_alone}
use Rattle.name_meaning.specs.declared.answer.Break.{Break}
use Rattle.name_meaning.specs.declared.scope.Scope.{Scope}
use Rattle.name_meaning.specs.declared.rule.Rule.TheVariants as rule

-- ---- columns

abbrev pub names_of : List KnownColumn → List (List ℕ)
names_of columns = map (λ (column : KnownColumn). column.name) columns

abbrev pub names_at : List (List ℕ) → List ℕ → List (List ℕ)
names_at names places = map (λ place. slice_index_or names place []) places

abbrev pub all_places : {X : Type 0} → List X → List ℕ
all_places columns = range_with_len 0 (length columns)

abbrev pub table_columns : List Column → List KnownColumn
table_columns columns = map (λ (column : Column). record { name = column.name; kind = column.kind }) columns

-- a column of kind Any is Text at the boundary of a query
abbrev pub settled_columns : List OutColumn → List KnownColumn
settled_columns columns = map (λ (column : OutColumn). record { name = column.name; kind = settled column.kind kind.Text }) columns

abbrev pub named_columns : List (List ℕ) → List Kind → List KnownColumn
named_columns [] kinds = []
named_columns (name ∷ names) [] = []
named_columns (name ∷ names) (kind ∷ kinds) = record { name = name; kind = kind } ∷ named_columns names kinds

-- ---- what an item reads

-- the item's query, and what it resolves to without a mark; the columns where they are known; whether it is a view
pub record Read : Type 0 where
  pub breaks : List Break
  pub columns : Option (List KnownColumn)
  pub query : Query
  pub plain : Query
  pub inside : Inside

-- what stores or gives provenance is a source of its provenance columns
abbrev pub external : Query → List (List ℕ) → List ℕ → Query
external query names places = Base query places (External (names_at names places))

-- a table is a source of all its columns, and one that stores provenance a source of its provenance columns
abbrev pub table_plain : List ℕ → TableEntry → Query
table_plain name table = option_map_or
    (λ (stored : StoredQuery). external (Table table.id (column_kinds table.columns)) (names_of (table_columns table.columns)) stored.places) table.stored
    (Base (Table table.id (column_kinds table.columns)) (all_places table.columns) (Relation name (names_of (table_columns table.columns))))

abbrev pub read_table : List ℕ → TableEntry → Read
read_table name table = record {
  breaks = [];
  columns = Some (table_columns table.columns);
  query = Table table.id (column_kinds table.columns);
  plain = table_plain name table;
  inside = record { queries = []; names = name ∷ [] };
}

abbrev pub read_view : List ℕ → ViewEntry → Read
read_view name view = record {
  breaks = [];
  columns = Some (named_columns view.answer.names (kinds_of view.answer.query));
  query = view.answer.query;
  plain = option_map_or (external view.answer.query view.answer.names) view.places view.answer.query;
  inside = record { queries = []; names = name ∷ view.names_used };
}

abbrev pub read_nothing : Name → Read
read_nothing name = record {
  breaks = broken rule.UnknownRelation name.at ∷ [];
  columns = None;
  query = Single;
  plain = Single;
  inside = nothing_inside;
}

abbrev pub read_named : Contents → Name → Read
read_named c name = option_map_or (read_table name.text) (table_named c name.text)
    (option_map_or (read_view name.text) (view_named c name.text) (read_nothing name))

abbrev pub read_query : QueryMeant → Read
read_query m = record {
  breaks = m.breaks;
  columns = option_map settled_columns m.columns;
  query = m.make [];
  plain = option_map_or (external (m.make []) (option_map_or (λ columns. names_of (settled_columns columns)) m.columns [])) m.places (m.make []);
  inside = m.inside;
}

-- ---- marks

abbrev pub named_so : List ℕ → List ℕ → Bool
named_so name other = pointwise nat_eq name other

abbrev pub place_of : List (List ℕ) → List ℕ → ℕ
place_of names name = option_map_or (λ place. place) (position (named_so name) names) 0

-- an attribute is one column
abbrev pub column_breaks : Name → List (List ℕ) → List Break
column_breaks attribute names = broken_if (nat_eq (count_by (named_so attribute.text) names) 0) rule.UnknownColumn attribute.at
    ++ broken_if (nat_lt 1 (count_by (named_so attribute.text) names)) rule.AmbiguousColumn attribute.at

-- an attribute is one of the columns, where these are known, and is named once
abbrev pub attribute_breaks : Option (List (List ℕ)) → List (List ℕ) → List Name → List Break
attribute_breaks names earlier [] = []
attribute_breaks names earlier (attribute ∷ attributes) =
    option_map_or (column_breaks attribute) names []
    ++ broken_if (list_any (named_so attribute.text) earlier) rule.RepeatedColumn attribute.at
    ++ attribute_breaks names (attribute.text ∷ earlier) attributes

abbrev pub texts_of : List Name → List (List ℕ)
texts_of names = map (λ (name : Name). name.text) names

-- how far provenance is followed: as usual, to the item itself, or to these of its columns
abbrev pub marked : ScopeMark → List ℕ → List (List ℕ) → Read → Query
marked mark.Plain label names read = read.plain
marked mark.BaseRelation label names read = Base read.query (all_places names) (Relation label names)
marked (mark.External attributes) label names read =
    Base read.query (map (place_of names) (texts_of attributes)) (External (texts_of attributes))

abbrev pub mark_breaks : ScopeMark → Option (List (List ℕ)) → List Break
mark_breaks mark.Plain names = []
mark_breaks mark.BaseRelation names = []
mark_breaks (mark.External attributes) names = attribute_breaks names [] attributes

-- ---- items

pub data SourcePart : Type 0 where
  named : Name → SourcePart
  inner : QueryPart → SourcePart

-- an item of FROM; no columns, where they aren't known
pub record ItemMeant : Type 0 where
  pub breaks : List Break
  pub name : List ℕ
  pub columns : Option (List KnownColumn)
  pub query : Query
  pub inside : Inside

-- where a subquery in its place stands, behind items of these names
pub record FromItemPart : Type 0 where
  pub at : ℕ
  pub means : Around → List (List ℕ) → ItemMeant

abbrev pub read_of : Contents → Around → SourcePart → Read
read_of c around (named name) = read_named c name
read_of c around (inner query) = read_query (query.means around)

-- a subquery of FROM sees the scopes around its core, and may ask for its provenance
abbrev pub in_from : List Scope → Around
in_from outer = record { outer = outer; may_ask = true }

-- a lateral one sees before these the items of its own `from` before its step, and may not ask; where they aren't known, what breaks
-- them stands before it
abbrev pub beside_items : Option (List ScopeItem) → List Scope → Around
beside_items items outer = record { outer = scope_of (option_map_or (λ known. known) items []) ∷ outer; may_ask = false }

-- the table's or view's name, or the subquery's alias
abbrev pub label_of : SourcePart → Option Name → List ℕ
label_of (named name) alias = name.text
label_of (inner query) alias = option_map_or (λ (name : Name). name.text) alias []

abbrev pub scope_name : SourcePart → Option Name → List ℕ
scope_name source alias = option_map_or (λ (name : Name). name.text) alias (label_of source alias)

abbrev pub read_names : Read → List (List ℕ)
read_names read = option_map_or names_of read.columns []

abbrev pub item_meant : ℕ → ScopeMark → List (List ℕ) → List ℕ → List ℕ → Read → ItemMeant
item_meant at mark earlier name label read = record {
  breaks = read.breaks ++ broken_if (list_any (named_so name) earlier) rule.RepeatedItem at ++ mark_breaks mark (option_map names_of read.columns);
  name = name;
  columns = read.columns;
  query = marked mark label (read_names read) read;
  inside = read.inside;
}

-- ---- conditions

-- a condition's own breaks, then its kind
abbrev pub condition_breaks : ℕ → Meant → List Break
condition_breaks at m = m.breaks ++ broken_if (not (unites (Some kind.Boolean) (seen_kind m))) rule.UnfitKind at

-- in a clause of a core, sublinks may stand
abbrev pub in_clause : Scope → List Scope → Bool → Surroundings
in_clause scope outer aggregates = record {
  scopes = scope ∷ outer;
  aggregates = aggregates;
  sublinks = true;
  argument = false;
}

abbrev pub optional_meant : Surroundings → Option Part → Option Meant
optional_meant here part = option_map (λ (p : Part). p.means here) part

abbrev pub optional_breaks : Option Part → Option Meant → List Break
optional_breaks None m = []
optional_breaks (Some part) None = []
optional_breaks (Some part) (Some m) = condition_breaks part.at m

abbrev pub optional_inside : Option Meant → Inside
optional_inside m = option_map_or (λ (meant : Meant). meant.inside) m nothing_inside

-- ON stands as a clause over the items up to its own step
abbrev pub in_on : List ScopeItem → List Scope → Surroundings
in_on items outer = in_clause (scope_of items) outer false

-- ---- joins

-- a `from` up to some step; no items, where their columns aren't all known; `names`: of all items of the core so far
pub record FromMeant : Type 0 where
  pub breaks : List Break
  pub names : List (List ℕ)
  pub items : Option (List ScopeItem)
  pub query : Query
  pub inside : Inside

pub record JoinPart : Type 0 where
  pub word : JoinWord
  pub item : FromItemPart
  pub condition : Option Part

pub record FromPart : Type 0 where
  pub means : List Scope → List (List ℕ) → FromMeant

abbrev pub join_kind : JoinWord → JoinKind
join_kind word.Inner = join.Inner
join_kind word.Left = join.Left
join_kind word.Right = join.Right
join_kind word.Full = join.Full
join_kind word.Cross = join.Inner
join_kind word.CrossLateral = join.Inner
join_kind word.LeftLateral = join.Left

abbrev pub scope_items : ItemMeant → Option (List ScopeItem)
scope_items m = option_map (λ columns. record { name = m.name; columns = columns } ∷ []) m.columns

abbrev pub both_known : {X : Type 0} → Option (List X) → Option (List X) → Option (List X)
both_known None other = None
both_known (Some xs) None = None
both_known (Some xs) (Some ys) = Some (xs ++ ys)

abbrev pub first_item : List (List ℕ) → ItemMeant → FromMeant
first_item earlier m = record {
  breaks = m.breaks;
  names = earlier ++ m.name ∷ [];
  items = scope_items m;
  query = m.query;
  inside = m.inside;
}

-- a condition sees the items of its own `from` up to its own step, then the outer scopes
abbrev pub on_meant : List Scope → Option (List ScopeItem) → Option Part → Option Meant
on_meant outer None condition = None
on_meant outer (Some items) condition = optional_meant (in_on items outer) condition

-- its sublinks are those of the join alone
abbrev pub on_built : Option Meant → Built
on_built m = option_map_or (λ (meant : Meant). meant.make kind.Boolean nothing_before) m (built_alone always)

abbrev pub joined : FromMeant → JoinWord → Option Part → ItemMeant → Option Meant → FromMeant
joined left word condition m on = record {
  breaks = left.breaks ++ m.breaks ++ optional_breaks condition on;
  names = left.names ++ m.name ∷ [];
  items = both_known left.items (scope_items m);
  query = Join (join_kind word) left.query m.query (on_built on).expr (on_built on).subs;
  inside = both_inside left.inside (both_inside m.inside (optional_inside on));
}

-- a lateral subquery stands beside each row of what is before it; it has no condition
abbrev pub applied : FromMeant → JoinWord → ItemMeant → FromMeant
applied left word m = record {
  breaks = left.breaks ++ m.breaks;
  names = left.names ++ m.name ∷ [];
  items = both_known left.items (scope_items m);
  query = Apply (join_kind word) left.query m.query;
  inside = both_inside left.inside m.inside;
}

abbrev pub join_item : List Scope → FromMeant → JoinPart → ItemMeant → FromMeant
join_item outer left step m = cond (is_lateral step.word) (applied left step.word m)
    (joined left step.word step.condition m (on_meant outer (both_known left.items (scope_items m)) step.condition))

-- where a subquery that is joined stands
abbrev pub joined_around : JoinWord → List Scope → Option (List ScopeItem) → Around
joined_around word outer items = cond (is_lateral word) (beside_items items outer) (in_from outer)

-- what a join reads
abbrev pub joined_item : List Scope → FromMeant → JoinPart → ItemMeant
joined_item outer left step = step.item.means (joined_around step.word outer left.items) left.names

abbrev pub join_all : List Scope → FromMeant → List JoinPart → FromMeant
join_all outer left [] = left
join_all outer left (step ∷ steps) = join_all outer (join_item outer left step (joined_item outer left step)) steps

-- ---- the steps

abbrev pub source_step : {B I S A U P C W G J K : Type 0} → FromSource-F B I S SourcePart A U P C QueryPart W G J K → SourcePart
source_step (FromSource-F.Named name) = named name
source_step (FromSource-F.Inner query) = inner query

abbrev pub from_item_step : {B I S A U P C Q W G J K : Type 0} → Contents → FromItem-F B I S SourcePart A U P C Q W G J K → FromItemPart
from_item_step c tree = record {
  at = tree.at;
  means = λ around earlier. item_meant tree.at tree.mark earlier (scope_name tree.source tree.alias)
      (label_of tree.source tree.alias) (read_of c around tree.source);
}

abbrev pub from_step : {B I S F A U P C Q W J : Type 0} → FromTree-F B I S F A U P C Q W FromItemPart J JoinPart → FromPart
from_step tree = record {
  means = λ outer earlier. join_all outer (first_item earlier (tree.first.means (in_from outer) earlier)) tree.joins;
}

abbrev pub join_step : {B I S F A U C Q W J K : Type 0} → JoinStep-F B I S F A U Part C Q W FromItemPart J K → JoinPart
join_step tree = record { word = tree.word; item = tree.item; condition = tree.condition }

-- ---- all of FROM

-- the comma is an inner join on TRUE; with no FROM there is one empty row
abbrev pub beside_from : FromMeant → FromMeant → FromMeant
beside_from left right = record {
  breaks = left.breaks ++ right.breaks;
  names = right.names;
  items = both_known left.items right.items;
  query = Join join.Inner left.query right.query always [];
  inside = both_inside left.inside right.inside;
}

abbrev pub from_more : List Scope → FromMeant → List FromPart → FromMeant
from_more outer left [] = left
from_more outer left (part ∷ parts) = from_more outer (beside_from left (part.means outer left.names)) parts

abbrev pub no_from : FromMeant
no_from = record { breaks = []; names = []; items = Some []; query = Single; inside = nothing_inside }

abbrev pub from_all : List Scope → List FromPart → FromMeant
from_all outer [] = no_from
from_all outer (part ∷ parts) = from_more outer (part.means outer []) parts
