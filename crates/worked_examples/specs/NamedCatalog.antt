-- A catalog for worked examples of names: tables r(a INTEGER, b TEXT), s(c INTEGER) and wide, of 256 columns; t, which
-- stores provenance in its second column; the views v and w of a column of r, w with its provenance; a view e with a
-- sublink over what is no table; and the views high and lower of queries that are 256 and 255 high.
use Rattle.std.specs.Prelude.{ℕ, zero, suc, List, [], ◌∷◌, map, Option, Some, None, codes}
use Rattle.std.specs.FinMap as rows
use Rattle.std.specs.List.{range_with_len}
use Rattle.perm_values.specs.declared.kind.Kind.{Kind}
use Rattle.perm_values.specs.declared.kind.Kind.TheVariants as kind
use Rattle.bag_algebra.specs.declared.expr.Expr.TheVariants.{Col, Sub}
use Rattle.bag_algebra.specs.declared.expr.Item.{Item}
use Rattle.bag_algebra.specs.declared.query.Label.TheVariants.{Relation}
use Rattle.bag_algebra.specs.declared.query.Query.{Query}
use Rattle.bag_algebra.specs.declared.query.Query.TheVariants.{Table, Single, Base, Filter, Project, Distinct, Prov}
use Rattle.bag_algebra.specs.declared.query.SubKind.TheVariants.{Exists}
use Rattle.perm_catalog.specs.Contents.{Contents}
use Rattle.perm_catalog.specs.declared.column.Column.{Column}
use Rattle.perm_catalog.specs.declared.entries.TableEntry.{TableEntry}
use Rattle.perm_catalog.specs.declared.entries.ViewEntry.{ViewEntry}

-- ---- tables

abbrev pub stored : List ℕ → Kind → Column
stored name kind = record { name = name; kind = kind }

abbrev pub plain_table : ℕ → List Column → TableEntry
plain_table id columns = record { id = id; version = id; columns = columns; stored = None }

abbrev pub table_r : TableEntry
table_r = plain_table 1 (stored (codes "a") kind.Integer ∷ stored (codes "b") kind.Text ∷ [])

abbrev pub table_s : TableEntry
table_s = plain_table 2 (stored (codes "c") kind.Integer ∷ [])

abbrev pub table_t : TableEntry
table_t = record {
  id = 3;
  version = 3;
  columns = stored (codes "z") kind.Integer ∷ stored (codes "prov_r_a") kind.Integer ∷ [];
  stored = Some (record { places = 1 ∷ []; query = Prov Single; kept = [] });
}

-- its columns have names of one character
abbrev pub table_wide : TableEntry
table_wide = plain_table 4 (map (λ number. stored (number ∷ []) kind.Integer) (range_with_len 0 256))

-- ---- queries

abbrev pub table_r_read : Query
table_r_read = Table 1 (kind.Integer ∷ kind.Text ∷ [])

abbrev pub table_s_read : Query
table_s_read = Table 2 (kind.Integer ∷ [])

abbrev pub table_t_read : Query
table_t_read = Table 3 (kind.Integer ∷ kind.Integer ∷ [])

abbrev pub read_r : Query
read_r = Base table_r_read (0 ∷ 1 ∷ []) (Relation (codes "r") (codes "a" ∷ codes "b" ∷ []))

abbrev pub read_s : Query
read_s = Base table_s_read (0 ∷ []) (Relation (codes "s") (codes "c" ∷ []))

abbrev pub column_item : ℕ → Kind → Item
column_item place kind = record { expr = Col 0 place; kind = kind }

-- SELECT a FROM r
abbrev pub a_of_r : Query
a_of_r = Project read_r (column_item 0 kind.Integer ∷ []) []

-- SELECT c FROM s
abbrev pub c_of_s : Query
c_of_s = Project read_s (column_item 0 kind.Integer ∷ []) []

-- SELECT a FROM r WHERE EXISTS (SELECT 1 FROM (SELECT c FROM s) x BASERELATION), but for the list of the sublink
abbrev pub query_e : Query
query_e = Project
    (Filter read_r (Sub 0) (record { kind = Exists; tested = None; query = Base c_of_s (0 ∷ []) (Relation (codes "x") (codes "c" ∷ [])) } ∷ []))
    (column_item 0 kind.Integer ∷ []) []

abbrev pub raised : ℕ → Query
raised zero = c_of_s
raised (suc n) = Distinct (raised n)

-- ---- the catalog

abbrev pub view_of : Query → List (List ℕ) → Option (List ℕ) → List (List ℕ) → ViewEntry
view_of query names places used = record { answer = record { query = query; names = names; keys = [] }; places = places; names_used = used }

abbrev pub provenance_names : List (List ℕ)
provenance_names = codes "a" ∷ codes "prov_r_a" ∷ codes "prov_r_b" ∷ []

abbrev pub contents : Contents
contents = record {
  tables = (codes "r", table_r) ∷ (codes "s", table_s) ∷ (codes "t", table_t) ∷ (codes "wide", table_wide) ∷ [];
  views = (codes "v", view_of a_of_r (codes "a" ∷ []) None (codes "r" ∷ []))
      ∷ (codes "w", view_of (Prov a_of_r) provenance_names (Some (1 ∷ 2 ∷ [])) (codes "r" ∷ []))
      ∷ (codes "e", view_of query_e (codes "a" ∷ []) None (codes "r" ∷ codes "s" ∷ []))
      ∷ (codes "high", view_of (raised 253) (codes "c" ∷ []) None (codes "s" ∷ []))
      ∷ (codes "lower", view_of (raised 252) (codes "c" ∷ []) None (codes "s" ∷ [])) ∷ [];
  rows = rows.empty;
  next = 5;
}
