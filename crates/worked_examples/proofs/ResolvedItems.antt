-- Worked examples of what the items of FROM resolve to, with each mark and without one.
use Rattle.std.specs.Prelude.{◌≡◌, [], ◌∷◌, Some, None, codes}
use Rattle.std.proofs.Common.{refl}
use Rattle.std.specs.Fmt.{digits}
use Rattle.null_logic.specs.declared.compare.Compare.TheVariants.{Equal}
use Rattle.bag_algebra.specs.declared.expr.Expr.TheVariants.{Col, Op}
use Rattle.bag_algebra.specs.declared.query.Label.TheVariants.{Relation, External}
use Rattle.bag_algebra.specs.declared.query.Query.TheVariants.{Base, Join, Prov}
use Rattle.bag_algebra.specs.declared.query.Query.TheBlock.{shape-the_row-Query-0, hidden-the_row-Query-0, shape-the_row-Sublink-1, hidden-the_row-Sublink-1}
use Rattle.name_meaning.specs.Froms.{names_of}
use Rattle.name_meaning.specs.Statements.{query_meant, columns_of}
use Rattle.name_meaning.proofs.Equations.{tree_equations, token-given}
use Rattle.worked_examples.specs.NamedCatalog.{contents, read_r, read_s, a_of_r, provenance_names, table_r_read, table_t_read}
use Rattle.worked_examples.specs.NamedTrees.{name, expr, column, column_of, number, reads, table, join, from, item, select, core, query}
use Rattle.worked_examples.specs.Queries.{yes}
use Rattle.worked_examples.specs.NamedQueries.{one_over}
use Rattle.sql_tree.specs.declared.expression.ExprBody.TheVariants as e
use Rattle.sql_tree.specs.declared.query.SelectItem.TheVariants as i
use Rattle.sql_tree.specs.declared.source.FromSource.TheVariants as source
use Rattle.sql_tree.specs.declared.source.ScopeMark.TheVariants as mark
use Rattle.sql_tree.specs.declared.source.JoinWord.TheVariants as join_word
use Rattle.null_logic.specs.declared.operator.Operator.TheVariants as x
use Rattle.bag_algebra.specs.declared.query.JoinKind.TheVariants as join

-- a table is a source of all its columns: SELECT 1 FROM r
pub item_table :
    (query_meant contents (query 0 (core (select 0 (item (number 7 1) ∷ []) (from (table 14 (codes "r")) [] ∷ []))))).make []
    ≡ one_over read_r
item_table = simp tree_equations (rw token-given refl)

-- a table that stores provenance is a source of its provenance columns: SELECT 1 FROM t
pub item_stored :
    (query_meant contents (query 0 (core (select 0 (item (number 7 1) ∷ []) (from (table 14 (codes "t")) [] ∷ []))))).make []
    ≡ one_over (Base table_t_read (1 ∷ []) (External (codes "prov_r_a" ∷ [])))
item_stored = simp tree_equations (rw token-given refl)

-- a view is its query: SELECT 1 FROM v
pub item_view :
    (query_meant contents (query 0 (core (select 0 (item (number 7 1) ∷ []) (from (table 14 (codes "v")) [] ∷ []))))).make []
    ≡ one_over a_of_r
item_view = simp tree_equations (rw token-given refl)

-- a view made with PROVENANCE is a source of its provenance columns: SELECT 1 FROM w
pub item_view_of_provenance :
    (query_meant contents (query 0 (core (select 0 (item (number 7 1) ∷ []) (from (table 14 (codes "w")) [] ∷ []))))).make []
    ≡ one_over (Base (Prov a_of_r) (1 ∷ 2 ∷ []) (External (codes "prov_r_a" ∷ codes "prov_r_b" ∷ [])))
item_view_of_provenance = simp tree_equations (rw token-given refl)

-- SELECT 1 FROM (SELECT a FROM r) x
pub item_subquery :
    (query_meant contents (query 0 (core (select 0 (item (number 7 1) ∷ []) (from (reads 14 (source.Inner (query 15 (core (select 15 (item (column 22 (codes "a")) ∷ []) (from (table 29 (codes "r")) [] ∷ []))))) (Some (name 32 (codes "x"))) mark.Plain) [] ∷ []))))).make []
    ≡ one_over a_of_r
item_subquery = simp tree_equations (rw token-given refl)

-- SELECT 1 FROM (SELECT PROVENANCE a FROM r) x
pub item_subquery_of_provenance :
    (query_meant contents (query 0 (core (select 0 (item (number 7 1) ∷ []) (from (reads 14 (source.Inner (query 15 (core (record (select 15 (item (column 33 (codes "a")) ∷ []) (from (table 40 (codes "r")) [] ∷ [])) { provenance = Some 22 })))) (Some (name 43 (codes "x"))) mark.Plain) [] ∷ []))))).make []
    ≡ one_over (Base (Prov a_of_r) (1 ∷ 2 ∷ []) (External (codes "prov_r_a" ∷ codes "prov_r_b" ∷ [])))
unfolding shape-the_row-Query-0 hidden-the_row-Query-0 shape-the_row-Sublink-1 hidden-the_row-Sublink-1 package.denote.Hole.Carrier.hidden
item_subquery_of_provenance = simp tree_equations (rw token-given refl)

-- the label is the name of the table: SELECT 1 FROM t y BASERELATION
pub item_table_marked :
    (query_meant contents (query 0 (core (select 0 (item (number 7 1) ∷ []) (from (reads 14 (source.Named (name 14 (codes "t"))) (Some (name 16 (codes "y"))) mark.BaseRelation) [] ∷ []))))).make []
    ≡ one_over (Base table_t_read (0 ∷ 1 ∷ []) (Relation (codes "t") (codes "z" ∷ codes "prov_r_a" ∷ [])))
item_table_marked = simp tree_equations (rw token-given refl)

-- SELECT 1 FROM w y BASERELATION
pub item_view_marked :
    (query_meant contents (query 0 (core (select 0 (item (number 7 1) ∷ []) (from (reads 14 (source.Named (name 14 (codes "w"))) (Some (name 16 (codes "y"))) mark.BaseRelation) [] ∷ []))))).make []
    ≡ one_over (Base (Prov a_of_r) (0 ∷ 1 ∷ 2 ∷ []) (Relation (codes "w") provenance_names))
unfolding shape-the_row-Query-0 hidden-the_row-Query-0 shape-the_row-Sublink-1 hidden-the_row-Sublink-1 package.denote.Hole.Carrier.hidden
item_view_marked = simp tree_equations (rw token-given refl)

-- the label is the alias: SELECT 1 FROM (SELECT a FROM r) x BASERELATION
pub item_subquery_marked :
    (query_meant contents (query 0 (core (select 0 (item (number 7 1) ∷ []) (from (reads 14 (source.Inner (query 15 (core (select 15 (item (column 22 (codes "a")) ∷ []) (from (table 29 (codes "r")) [] ∷ []))))) (Some (name 32 (codes "x"))) mark.BaseRelation) [] ∷ []))))).make []
    ≡ one_over (Base a_of_r (0 ∷ []) (Relation (codes "x") (codes "a" ∷ [])))
item_subquery_marked = simp tree_equations (rw token-given refl)

-- the attributes in the order written: SELECT 1 FROM r PROVENANCE (b, a)
pub item_external :
    (query_meant contents (query 0 (core (select 0 (item (number 7 1) ∷ []) (from (reads 14 (source.Named (name 14 (codes "r"))) None (mark.External (name 28 (codes "b") ∷ name 31 (codes "a") ∷ []))) [] ∷ []))))).make []
    ≡ one_over (Base table_r_read (1 ∷ 0 ∷ []) (External (codes "b" ∷ codes "a" ∷ [])))
unfolding shape-the_row-Query-0 hidden-the_row-Query-0 shape-the_row-Sublink-1 hidden-the_row-Sublink-1 package.denote.Hole.Carrier.hidden
item_external = simp tree_equations (rw token-given refl)

-- what a query with PROVENANCE names its columns; a further place of the same label is numbered: SELECT PROVENANCE x.a AS q FROM r x, r
pub item_names :
    names_of (columns_of (query_meant contents (query 0 (core (record (select 0 (i.Value (column_of 18 (codes "x") (codes "a")) (Some (name 25 (codes "q"))) ∷ []) (from (reads 32 (source.Named (name 32 (codes "r"))) (Some (name 34 (codes "x"))) mark.Plain) [] ∷ from (table 37 (codes "r")) [] ∷ [])) { provenance = Some 7 })))))
    ≡ codes "q" ∷ codes "prov_r_a" ∷ codes "prov_r_b" ∷ codes "prov_r_1_a" ∷ codes "prov_r_1_b" ∷ []
unfolding shape-the_row-Query-0 hidden-the_row-Query-0 shape-the_row-Sublink-1 hidden-the_row-Sublink-1 package.denote.Hole.Carrier.hidden digits
item_names = simp tree_equations (rw token-given refl)

-- they stand behind its own columns: SELECT PROVENANCE c, 1 FROM s
pub item_places :
    (query_meant contents (query 0 (core (record (select 0 (item (column 18 (codes "c")) ∷ item (number 21 1) ∷ []) (from (table 28 (codes "s")) [] ∷ [])) { provenance = Some 7 })))).places
    ≡ Some (2 ∷ [])
unfolding shape-the_row-Query-0 hidden-the_row-Query-0 shape-the_row-Sublink-1 hidden-the_row-Sublink-1 package.denote.Hole.Carrier.hidden
item_places = simp tree_equations (rw token-given refl)

-- no PROVENANCE, no places: SELECT c FROM s
pub no_places :
    (query_meant contents (query 0 (core (select 0 (item (column 7 (codes "c")) ∷ []) (from (table 14 (codes "s")) [] ∷ []))))).places
    ≡ None
no_places = simp tree_equations (rw token-given refl)

-- the comma and CROSS JOIN on TRUE; places of a condition count in its own part of FROM: SELECT 1 FROM r, s LEFT JOIN s x ON s.c = x.c CROSS JOIN r y
pub joined_items :
    (query_meant contents (query 0 (core (select 0 (item (number 7 1) ∷ []) (from (table 14 (codes "r")) [] ∷ from (table 17 (codes "s")) (join join_word.Left (reads 29 (source.Named (name 29 (codes "s"))) (Some (name 31 (codes "x"))) mark.Plain) (Some (expr 36 (e.Compared Equal (column_of 36 (codes "s") (codes "c")) (column_of 42 (codes "x") (codes "c"))))) ∷ join join_word.Cross (reads 57 (source.Named (name 57 (codes "r"))) (Some (name 59 (codes "y"))) mark.Plain) None ∷ []) ∷ []))))).make []
    ≡ one_over (Join join.Inner read_r (Join join.Inner (Join join.Left read_s read_s (Op (x.Compare Equal) (Col 0 0 ∷ Col 0 1 ∷ [])) []) read_r yes []) yes [])
joined_items = simp tree_equations (rw token-given refl)
