-- Worked examples of breaks at the word PROVENANCE, at items of FROM and at their marks.
use Rattle.std.specs.Prelude.{◌≡◌, false, [], ◌∷◌, Some, None, codes}
use Rattle.std.proofs.Common.{refl}
use Rattle.bag_algebra.specs.declared.query.Query.TheBlock.{shape-the_row-Query-0, hidden-the_row-Query-0, shape-the_row-Sublink-1, hidden-the_row-Sublink-1}
use Rattle.name_meaning.specs.Meanings.{broken}
use Rattle.name_meaning.specs.Statements.{name_breaks}
use Rattle.name_meaning.proofs.Equations.{tree_equations, token-given}
use Rattle.worked_examples.specs.NamedCatalog.{contents}
use Rattle.worked_examples.specs.NamedTrees.{name, expr, column, number, reads, table, from, item, select, core, operand, query}
use Rattle.sql_tree.specs.declared.expression.ExprBody.TheVariants as e
use Rattle.sql_tree.specs.declared.query.SetTree.TheVariants as set
use Rattle.sql_tree.specs.declared.query.SetWord.TheVariants as set_word
use Rattle.sql_tree.specs.declared.source.FromSource.TheVariants as source
use Rattle.sql_tree.specs.declared.source.ScopeMark.TheVariants as mark
use Rattle.sql_tree.specs.declared.statement.StatementBody.TheVariants as st
use Rattle.name_meaning.specs.declared.rule.Rule.TheVariants as rule

-- SELECT 1 WHERE EXISTS (SELECT PROVENANCE 1)
pub provenance_in_sublink :
    name_breaks contents (st.Select (query 0 (core (record (select 0 (item (number 7 1) ∷ []) []) { condition = Some (expr 15 (e.Exists (query 23 (core (record (select 23 (item (number 41 1) ∷ []) []) { provenance = Some 30 }))))) }))))
    ≡ broken rule.MisplacedProvenance 30 ∷ []
provenance_in_sublink = simp (tree_equations, name_breaks) (rw token-given refl)

-- then FROM alone, where it breaks: SELECT 1 UNION SELECT PROVENANCE zz FROM nosuch
pub provenance_behind_union :
    name_breaks contents (st.Select (query 0 (set.Chain (core (select 0 (item (number 7 1) ∷ []) [])) (operand set_word.Union false 15 (core (record (select 15 (item (column 33 (codes "zz")) ∷ []) (from (table 41 (codes "nosuch")) [] ∷ [])) { provenance = Some 22 })) ∷ []))))
    ≡ broken rule.MisplacedProvenance 22 ∷ broken rule.UnknownRelation 41 ∷ []
provenance_behind_union = simp (tree_equations, name_breaks) (rw token-given refl)

-- (SELECT PROVENANCE a FROM r)
pub provenance_in_parentheses :
    name_breaks contents (st.Select (query 0 (set.Paren (query 1 (core (record (select 1 (item (column 19 (codes "a")) ∷ []) (from (table 26 (codes "r")) [] ∷ [])) { provenance = Some 8 }))))))
    ≡ broken rule.MisplacedProvenance 8 ∷ []
provenance_in_parentheses = simp (tree_equations, name_breaks) (rw token-given refl)

-- a sublink of what is traced may have a source over anything: SELECT PROVENANCE a FROM r WHERE EXISTS (SELECT 1 FROM (SELECT c FROM s) x BASERELATION)
pub source_in_traced_sublink :
    name_breaks contents (st.Select (query 0 (core (record (select 0 (item (column 18 (codes "a")) ∷ []) (from (table 25 (codes "r")) [] ∷ [])) { provenance = Some 7; condition = Some (expr 33 (e.Exists (query 41 (core (select 41 (item (number 48 1) ∷ []) (from (reads 55 (source.Inner (query 56 (core (select 56 (item (column 63 (codes "c")) ∷ []) (from (table 70 (codes "s")) [] ∷ []))))) (Some (name 73 (codes "x"))) mark.BaseRelation) [] ∷ [])))))) }))))
    ≡ []
unfolding shape-the_row-Query-0 hidden-the_row-Query-0 shape-the_row-Sublink-1 hidden-the_row-Sublink-1 package.denote.Hole.Carrier.hidden
source_in_traced_sublink = simp (tree_equations, name_breaks) (rw token-given refl)

-- and so may a view with a sublink: SELECT PROVENANCE a FROM e
pub view_in_traced_query :
    name_breaks contents (st.Select (query 0 (core (record (select 0 (item (column 18 (codes "a")) ∷ []) (from (table 25 (codes "e")) [] ∷ [])) { provenance = Some 7 }))))
    ≡ []
unfolding shape-the_row-Query-0 hidden-the_row-Query-0 shape-the_row-Sublink-1 hidden-the_row-Sublink-1 package.denote.Hole.Carrier.hidden
view_in_traced_query = simp (tree_equations, name_breaks) (rw token-given refl)

-- in items at every depth: SELECT PROVENANCE a FROM r WHERE EXISTS (SELECT 1 FROM (SELECT 1 FROM t, w) x)
pub innermost_item :
    name_breaks contents (st.Select (query 0 (core (record (select 0 (item (column 18 (codes "a")) ∷ []) (from (table 25 (codes "r")) [] ∷ [])) { provenance = Some 7; condition = Some (expr 33 (e.Exists (query 41 (core (select 41 (item (number 48 1) ∷ []) (from (reads 55 (source.Inner (query 56 (core (select 56 (item (number 63 1) ∷ []) (from (table 70 (codes "t")) [] ∷ from (table 73 (codes "w")) [] ∷ []))))) (Some (name 76 (codes "x"))) mark.Plain) [] ∷ [])))))) }))))
    ≡ []
unfolding shape-the_row-Query-0 hidden-the_row-Query-0 shape-the_row-Sublink-1 hidden-the_row-Sublink-1 package.denote.Hole.Carrier.hidden
innermost_item = simp (tree_equations, name_breaks) (rw token-given refl)

-- each from the left: no such column, two such columns, named before: SELECT 1 FROM (SELECT a, a, b FROM r) x PROVENANCE (nosuch, a, b, b)
pub attributes :
    name_breaks contents (st.Select (query 0 (core (select 0 (item (number 7 1) ∷ []) (from (reads 14 (source.Inner (query 15 (core (select 15 (item (column 22 (codes "a")) ∷ item (column 25 (codes "a")) ∷ item (column 28 (codes "b")) ∷ []) (from (table 35 (codes "r")) [] ∷ []))))) (Some (name 38 (codes "x"))) (mark.External (name 52 (codes "nosuch") ∷ name 60 (codes "a") ∷ name 63 (codes "b") ∷ name 66 (codes "b") ∷ []))) [] ∷ [])))))
    ≡ broken rule.UnknownColumn 52 ∷ broken rule.AmbiguousColumn 60 ∷ broken rule.RepeatedColumn 66 ∷ []
attributes = simp (tree_equations, name_breaks) (rw token-given refl)

-- which are named twice is known where the columns are not: SELECT 1 FROM nosuch PROVENANCE (a, a)
pub attributes_of_unknown :
    name_breaks contents (st.Select (query 0 (core (select 0 (item (number 7 1) ∷ []) (from (reads 14 (source.Named (name 14 (codes "nosuch"))) None (mark.External (name 33 (codes "a") ∷ name 36 (codes "a") ∷ []))) [] ∷ [])))))
    ≡ broken rule.UnknownRelation 14 ∷ broken rule.RepeatedColumn 36 ∷ []
attributes_of_unknown = simp (tree_equations, name_breaks) (rw token-given refl)
