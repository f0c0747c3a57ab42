-- Kinds of the queries that FROM and set operations make, and columns that are known.
use Rattle.std.specs.Prelude.{◌≡◌, ℕ, ℤ, nat_abs, Bool, List, [], ◌∷◌, ◌++◌, map, Option, Some, None, cond, option_map}
use Rattle.std.proofs.Common.{refl, ap, sym, ◌∙◌, append_assoc}
use Rattle.std.specs.Option.{option_map_or}
use Rattle.perm_values.specs.declared.key.Key.{Key}
use Rattle.perm_values.specs.declared.kind.Kind.{Kind}
use Rattle.bag_algebra.specs.built.Openings.{kinds_of-Base, kinds_of-Union, kinds_of-Intersect, kinds_of-Except, kinds_of-Limit}
use Rattle.bag_algebra.specs.Kinds.{kinds_of}
use Rattle.bag_algebra.specs.declared.query.Label.TheVariants.{Relation, External}
use Rattle.bag_algebra.specs.declared.query.Query.{Query}
use Rattle.bag_algebra.specs.declared.query.Query.TheVariants.{Table, Base}
use Rattle.perm_catalog.specs.Columns.{column_kinds}
use Rattle.perm_catalog.specs.declared.column.Column.{Column}
use Rattle.perm_catalog.specs.declared.entries.StoredQuery.{StoredQuery}
use Rattle.sql_tree.specs.declared.query.SetWord.{SetWord}
use Rattle.sql_tree.specs.declared.query.SetWord.TheVariants as word
use Rattle.sql_tree.specs.declared.source.ScopeMark.{ScopeMark}
use Rattle.sql_tree.specs.declared.source.ScopeMark.TheVariants as mark
use Rattle.name_meaning.specs.Froms.{names_of, names_at, all_places, table_columns, Read, external, place_of, texts_of, marked}
use Rattle.name_meaning.specs.Meanings.{OutColumn, QueryMeant, is_whole}
use Rattle.name_meaning.specs.Queries.{set_of, limited, columns_so_far, united_columns, columns_with_provenance, provenance_columns}
use Rattle.name_meaning.specs.Scopes.{ScopeItem}
use Rattle.name_meaning.specs.laws.Known.{column_kinds_of, items_kinds}
use Rattle.name_meaning.specs.Items.{Titled}
use Rattle.name_meaning.specs.declared.answer.Break.{Break}

-- ---- columns

pub kinds-table_columns : (columns : List Column) → column_kinds columns ≡ column_kinds_of (table_columns columns)
kinds-table_columns [] = refl
kinds-table_columns (c ∷ columns) = ap (λ (kinds : List Kind). c.kind ∷ kinds) (kinds-table_columns columns)

pub items_kinds-append : (xs ys : List ScopeItem) → items_kinds (xs ++ ys) ≡ items_kinds xs ++ items_kinds ys
items_kinds-append [] ys = refl
items_kinds-append (x ∷ xs) ys =
    ap (λ (kinds : List Kind). column_kinds_of x.columns ++ kinds) (items_kinds-append xs ys)
    ∙ sym (append_assoc (column_kinds_of x.columns) (items_kinds xs) (items_kinds ys))

-- the columns of an item before those of the items behind it
abbrev pub with_known : Option (List Titled) → Option (List Titled) → Option (List Titled)
with_known columns rest = elim columns [
  | None ↦ None
  | Some known ↦ option_map (λ more. known ++ more) rest
]

pub columns-joined : (l r : Option (List OutColumn)) (left right : List OutColumn) → l ≡ Some left → r ≡ Some right → columns_so_far l r ≡ Some (united_columns left right)
columns-joined l r left right e f = λ i. columns_so_far (e i) (f i)

pub known-with_provenance : (body : QueryMeant) (query : Query) (columns : List OutColumn) → body.breaks ≡ [] → body.columns ≡ Some columns
    → columns_with_provenance body query ≡ Some (columns ++ provenance_columns query)
known-with_provenance body query columns whole known =
    ap (λ (breaks : List Break). cond (is_whole breaks) (option_map (λ (own : List OutColumn). own ++ provenance_columns query) body.columns) body.columns) whole
    ∙ ap (option_map (λ (own : List OutColumn). own ++ provenance_columns query)) known

-- ---- sources

pub kinds-plain : (query : Query) (names : List (List ℕ)) (places : Option (List ℕ)) → kinds_of (option_map_or (external query names) places query) ≡ kinds_of query
kinds-plain query names None = refl
kinds-plain query names (Some places) = kinds_of-Base query places (External (names_at names places))

-- a table with the provenance that it stores, if any
abbrev pub table_with : ℕ → List ℕ → List Column → Option StoredQuery → Query
table_with id name columns stored = option_map_or
    (λ (m : StoredQuery). external (Table id (column_kinds columns)) (names_of (table_columns columns)) m.places) stored
    (Base (Table id (column_kinds columns)) (all_places columns) (Relation name (names_of (table_columns columns))))

pub kinds-table : (id : ℕ) (name : List ℕ) (columns : List Column) (stored : Option StoredQuery) → kinds_of (table_with id name columns stored) ≡ column_kinds columns
kinds-table id name columns None =
    kinds_of-Base (Table id (column_kinds columns)) (all_places columns) (Relation name (names_of (table_columns columns)))
kinds-table id name columns (Some m) =
    kinds_of-Base (Table id (column_kinds columns)) m.places (External (names_at (names_of (table_columns columns)) m.places))

pub kinds-marked : (m : ScopeMark) (label : List ℕ) (names : List (List ℕ)) (read : Read) (kinds : List Kind)
    → kinds_of read.query ≡ kinds → kinds_of read.plain ≡ kinds → kinds_of (marked m label names read) ≡ kinds
kinds-marked mark.Plain label names read kinds e f = f
kinds-marked mark.BaseRelation label names read kinds e f = kinds_of-Base read.query (all_places names) (Relation label names) ∙ e
kinds-marked (mark.External attributes) label names read kinds e f =
    kinds_of-Base read.query (map (place_of names) (texts_of attributes)) (External (texts_of attributes)) ∙ e

-- ---- set operations and LIMIT

pub kinds-set : (op : SetWord) (all : Bool) (left right : Query) → kinds_of (set_of op all left right) ≡ kinds_of left
kinds-set word.Union all left right = kinds_of-Union all left right
kinds-set word.Except all left right = kinds_of-Except all left right
kinds-set word.Intersect all left right = kinds_of-Intersect all left right

pub kinds-limited : (limit : Option ℤ) (keys : List Key) (query : Query) → kinds_of (limited limit keys query) ≡ kinds_of query
kinds-limited None keys query = refl
kinds-limited (Some n) keys query = kinds_of-Limit query keys (nat_abs n)
