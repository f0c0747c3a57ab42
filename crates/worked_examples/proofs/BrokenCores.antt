-- Worked examples of the breaks of a core: the order of its clauses, its scopes, its groups.
use Rattle.std.specs.Prelude.{◌≡◌, pos, false, [], ◌∷◌, Some, None, codes}
use Rattle.std.proofs.Common.{refl}
use Rattle.null_logic.specs.declared.arith.Arith.TheVariants.{Add}
use Rattle.null_logic.specs.declared.compare.Compare.TheVariants.{Equal, Greater}
use Rattle.sql_tree.specs.declared.query.OrderKey.TheVariants.{Named as named_key, Position}
use Rattle.name_meaning.specs.Meanings.{broken}
use Rattle.name_meaning.specs.Statements.{name_breaks}
use Rattle.name_meaning.proofs.Equations.{tree_equations, token-given}
use Rattle.worked_examples.specs.NamedCatalog.{contents}
use Rattle.worked_examples.specs.NamedTrees.{name, reference, expr, column, column_of, number, text, step, reads, table, join, from, item, select, core, key, ordered, query}
use Rattle.sql_tree.specs.declared.expression.ExprBody.TheVariants as e
use Rattle.sql_tree.specs.declared.query.SelectItem.TheVariants as i
use Rattle.sql_tree.specs.declared.source.FromSource.TheVariants as source
use Rattle.sql_tree.specs.declared.source.ScopeMark.TheVariants as mark
use Rattle.sql_tree.specs.declared.source.JoinWord.TheVariants as join_word
use Rattle.sql_tree.specs.declared.expression.AggWord.TheVariants as word
use Rattle.sql_tree.specs.declared.statement.StatementBody.TheVariants as st
use Rattle.null_logic.specs.declared.operator.Operator.TheVariants as x
use Rattle.name_meaning.specs.declared.rule.Rule.TheVariants as rule

-- WHERE before the list, the list from the left: SELECT zz + 1, 'a' + 1 FROM r WHERE yy = 1
pub order_of_clauses :
    name_breaks contents (st.Select (query 0 (core (record (select 0 (item (expr 7 (e.Chain (column 7 (codes "zz")) (step Add (number 12 1) ∷ []))) ∷ item (expr 15 (e.Chain (text 15 (codes "a")) (step Add (number 21 1) ∷ []))) ∷ []) (from (table 28 (codes "r")) [] ∷ [])) { condition = Some (expr 36 (e.Compared Equal (column 36 (codes "yy")) (number 41 1))) }))))
    ≡ broken rule.UnknownColumn 36 ∷ broken rule.UnknownColumn 7 ∷ broken rule.UnfitKind 15 ∷ []
order_of_clauses = simp (tree_equations, name_breaks) (rw token-given refl)

-- GROUP BY, HAVING, the list, ORDER BY: SELECT zz FROM r GROUP BY yy HAVING xx = 1 ORDER BY ww, 1, 2
pub order_of_groups :
    name_breaks contents (st.Select (ordered 0 (core (record (select 0 (item (column 7 (codes "zz")) ∷ []) (from (table 15 (codes "r")) [] ∷ [])) { groups = reference 26 (codes "yy") ∷ []; having = Some (expr 36 (e.Compared Equal (column 36 (codes "xx")) (number 41 1))) })) (key 52 (named_key (codes "ww")) false ∷ key 56 (Position (pos 1)) false ∷ key 59 (Position (pos 2)) false ∷ []) None))
    ≡ broken rule.UnknownColumn 26 ∷ broken rule.UnknownColumn 36 ∷ broken rule.UnknownColumn 7 ∷ broken rule.UnknownColumn 52 ∷ broken rule.UnknownColumn 59 ∷ []
order_of_groups = simp (tree_equations, name_breaks) (rw token-given refl)

-- each is of another kind than a condition's: SELECT 1 FROM r WHERE a HAVING 1
pub kinds_of_conditions :
    name_breaks contents (st.Select (query 0 (core (record (select 0 (item (number 7 1) ∷ []) (from (table 14 (codes "r")) [] ∷ [])) { condition = Some (column 22 (codes "a")); having = Some (number 31 1) }))))
    ≡ broken rule.UnfitKind 22 ∷ broken rule.UnfitKind 31 ∷ []
kinds_of_conditions = simp (tree_equations, name_breaks) (rw token-given refl)

-- of its own core alone, and in one item alone: SELECT 1 FROM r WHERE EXISTS (SELECT 1 FROM s, s x GROUP BY a, c)
pub groups_of_own_core :
    name_breaks contents (st.Select (query 0 (core (record (select 0 (item (number 7 1) ∷ []) (from (table 14 (codes "r")) [] ∷ [])) { condition = Some (expr 22 (e.Exists (query 30 (core (record (select 30 (item (number 37 1) ∷ []) (from (table 44 (codes "s")) [] ∷ from (reads 47 (source.Named (name 47 (codes "s"))) (Some (name 49 (codes "x"))) mark.Plain) [] ∷ [])) { groups = reference 60 (codes "a") ∷ reference 63 (codes "c") ∷ [] }))))) }))))
    ≡ broken rule.UnknownColumn 60 ∷ broken rule.AmbiguousColumn 63 ∷ []
groups_of_own_core = simp (tree_equations, name_breaks) (rw token-given refl)

-- behind a FROM that breaks nothing is looked at: SELECT zz FROM r, nosuch WHERE yy = 1
pub from_alone :
    name_breaks contents (st.Select (query 0 (core (record (select 0 (item (column 7 (codes "zz")) ∷ []) (from (table 15 (codes "r")) [] ∷ from (table 18 (codes "nosuch")) [] ∷ [])) { condition = Some (expr 31 (e.Compared Equal (column 31 (codes "yy")) (number 36 1))) }))))
    ≡ broken rule.UnknownRelation 18 ∷ []
from_alone = simp (tree_equations, name_breaks) (rw token-given refl)

-- a condition sees the items up to its own step: SELECT 1 FROM r JOIN s ON b = c JOIN r x ON y.c = 1 CROSS JOIN s y
pub conditions_of_joins :
    name_breaks contents (st.Select (query 0 (core (select 0 (item (number 7 1) ∷ []) (from (table 14 (codes "r")) (join join_word.Inner (table 21 (codes "s")) (Some (expr 26 (e.Compared Equal (column 26 (codes "b")) (column 30 (codes "c"))))) ∷ join join_word.Inner (reads 37 (source.Named (name 37 (codes "r"))) (Some (name 39 (codes "x"))) mark.Plain) (Some (expr 44 (e.Compared Equal (column_of 44 (codes "y") (codes "c")) (number 50 1)))) ∷ join join_word.Cross (reads 63 (source.Named (name 63 (codes "s"))) (Some (name 65 (codes "y"))) mark.Plain) None ∷ []) ∷ [])))))
    ≡ broken rule.UnfitKind 30 ∷ broken rule.UnknownColumn 44 ∷ []
conditions_of_joins = simp (tree_equations, name_breaks) (rw token-given refl)

-- a lateral subquery sees the items of its own part of FROM before it: SELECT 1 FROM s, r CROSS JOIN LATERAL (SELECT a, c) x
pub lateral_sees :
    name_breaks contents (st.Select (query 0 (core (select 0 (item (number 7 1) ∷ []) (from (table 14 (codes "s")) [] ∷ from (table 17 (codes "r")) (join join_word.CrossLateral (reads 38 (source.Inner (query 39 (core (select 39 (item (column 46 (codes "a")) ∷ item (column 49 (codes "c")) ∷ []) [])))) (Some (name 52 (codes "x"))) mark.Plain) None ∷ []) ∷ [])))))
    ≡ broken rule.UnknownColumn 49 ∷ []
lateral_sees = simp (tree_equations, name_breaks) (rw token-given refl)

-- and none behind it: SELECT 1 FROM r CROSS JOIN LATERAL (SELECT c) x CROSS JOIN s
pub lateral_sees_no_right :
    name_breaks contents (st.Select (query 0 (core (select 0 (item (number 7 1) ∷ []) (from (table 14 (codes "r")) (join join_word.CrossLateral (reads 35 (source.Inner (query 36 (core (select 36 (item (column 43 (codes "c")) ∷ []) [])))) (Some (name 46 (codes "x"))) mark.Plain) None ∷ join join_word.Cross (table 59 (codes "s")) None ∷ []) ∷ [])))))
    ≡ broken rule.UnknownColumn 43 ∷ []
lateral_sees_no_right = simp (tree_equations, name_breaks) (rw token-given refl)

-- it may not ask for provenance: SELECT 1 FROM r CROSS JOIN LATERAL (SELECT PROVENANCE a) x
pub lateral_asks :
    name_breaks contents (st.Select (query 0 (core (select 0 (item (number 7 1) ∷ []) (from (table 14 (codes "r")) (join join_word.CrossLateral (reads 35 (source.Inner (query 36 (core (record (select 36 (item (column 54 (codes "a")) ∷ []) []) { provenance = Some 43 })))) (Some (name 57 (codes "x"))) mark.Plain) None ∷ []) ∷ [])))))
    ≡ broken rule.MisplacedProvenance 43 ∷ []
lateral_asks = simp (tree_equations, name_breaks) (rw token-given refl)

-- a subquery of FROM does not see its neighbours: SELECT 1 FROM r, (SELECT a) x
pub neighbours_unseen :
    name_breaks contents (st.Select (query 0 (core (select 0 (item (number 7 1) ∷ []) (from (table 14 (codes "r")) [] ∷ from (reads 17 (source.Inner (query 18 (core (select 18 (item (column 25 (codes "a")) ∷ []) [])))) (Some (name 28 (codes "x"))) mark.Plain) [] ∷ [])))))
    ≡ broken rule.UnknownColumn 25 ∷ []
neighbours_unseen = simp (tree_equations, name_breaks) (rw token-given refl)

-- but it sees the scopes around its core: SELECT 1 FROM r WHERE EXISTS (SELECT 1 FROM (SELECT a) x)
pub outer_seen :
    name_breaks contents (st.Select (query 0 (core (record (select 0 (item (number 7 1) ∷ []) (from (table 14 (codes "r")) [] ∷ [])) { condition = Some (expr 22 (e.Exists (query 30 (core (select 30 (item (number 37 1) ∷ []) (from (reads 44 (source.Inner (query 45 (core (select 45 (item (column 52 (codes "a")) ∷ []) [])))) (Some (name 55 (codes "x"))) mark.Plain) [] ∷ [])))))) }))))
    ≡ []
outer_seen = simp (tree_equations, name_breaks) (rw token-given refl)

-- an item of that name hides those of outer scopes, though it lacks the column: SELECT 1 FROM r WHERE EXISTS (SELECT r.a FROM s r)
pub named_item_decides :
    name_breaks contents (st.Select (query 0 (core (record (select 0 (item (number 7 1) ∷ []) (from (table 14 (codes "r")) [] ∷ [])) { condition = Some (expr 22 (e.Exists (query 30 (core (select 30 (item (column_of 37 (codes "r") (codes "a")) ∷ []) (from (reads 46 (source.Named (name 46 (codes "s"))) (Some (name 48 (codes "r"))) mark.Plain) [] ∷ [])))))) }))))
    ≡ broken rule.UnknownColumn 37 ∷ []
named_item_decides = simp (tree_equations, name_breaks) (rw token-given refl)

-- not grouped comes first; a part that breaks counts as of any kind: SELECT a FROM r GROUP BY a HAVING EXISTS (SELECT SUM(b) FROM s)
pub not_grouped_and_outer :
    name_breaks contents (st.Select (query 0 (core (record (select 0 (item (column 7 (codes "a")) ∷ []) (from (table 14 (codes "r")) [] ∷ [])) { groups = reference 25 (codes "a") ∷ []; having = Some (expr 34 (e.Exists (query 42 (core (select 42 (item (expr 49 (e.Aggregate word.Sum (Some (column 53 (codes "b"))))) ∷ []) (from (table 61 (codes "s")) [] ∷ [])))))) }))))
    ≡ broken rule.UngroupedColumn 53 ∷ broken rule.MisplacedAggregate 53 ∷ []
not_grouped_and_outer = simp (tree_equations, name_breaks) (rw token-given refl)

-- a group column of an outer core may be named, another may not: SELECT a FROM r GROUP BY a HAVING a IN (SELECT c FROM s WHERE a = c AND b = 'x')
pub grouped_in_sublink :
    name_breaks contents (st.Select (query 0 (core (record (select 0 (item (column 7 (codes "a")) ∷ []) (from (table 14 (codes "r")) [] ∷ [])) { groups = reference 25 (codes "a") ∷ []; having = Some (expr 34 (e.InQuery false (column 34 (codes "a")) (query 40 (core (record (select 40 (item (column 47 (codes "c")) ∷ []) (from (table 54 (codes "s")) [] ∷ [])) { condition = Some (expr 62 (e.Logic x.And (expr 62 (e.Compared Equal (column 62 (codes "a")) (column 66 (codes "c"))) ∷ expr 72 (e.Compared Equal (column 72 (codes "b")) (text 76 (codes "x"))) ∷ []))) }))))) }))))
    ≡ broken rule.UngroupedColumn 72 ∷ []
grouped_in_sublink = simp (tree_equations, name_breaks) (rw token-given refl)

-- in its own aggregate any column may be named: SELECT SUM(a), MIN(b) FROM r HAVING COUNT(b) > 1
pub aggregated_column :
    name_breaks contents (st.Select (query 0 (core (record (select 0 (item (expr 7 (e.Aggregate word.Sum (Some (column 11 (codes "a"))))) ∷ item (expr 15 (e.Aggregate word.Min (Some (column 19 (codes "b"))))) ∷ []) (from (table 27 (codes "r")) [] ∷ [])) { having = Some (expr 36 (e.Compared Greater (expr 36 (e.Aggregate word.Count (Some (column 42 (codes "b"))))) (number 47 1))) }))))
    ≡ []
aggregated_column = simp (tree_equations, name_breaks) (rw token-given refl)

-- neither an aggregate nor a sublink: SELECT SUM(a + COUNT(*)), MAX((SELECT 1)) FROM r
pub argument_of_aggregate :
    name_breaks contents (st.Select (query 0 (core (select 0 (item (expr 7 (e.Aggregate word.Sum (Some (expr 11 (e.Chain (column 11 (codes "a")) (step Add (expr 15 (e.Aggregate word.CountRows None)) ∷ [])))))) ∷ item (expr 26 (e.Aggregate word.Max (Some (expr 30 (e.Scalar (query 31 (core (select 31 (item (number 38 1) ∷ []) [])))))))) ∷ []) (from (table 47 (codes "r")) [] ∷ [])))))
    ≡ broken rule.MisplacedAggregate 15 ∷ broken rule.MisplacedSublink 30 ∷ []
argument_of_aggregate = simp (tree_equations, name_breaks) (rw token-given refl)

-- SUM of a text, MIN of a truth value: SELECT SUM(b), MIN(a = 1), COUNT(a = 1) FROM r
pub boolean_argument :
    name_breaks contents (st.Select (query 0 (core (select 0 (item (expr 7 (e.Aggregate word.Sum (Some (column 11 (codes "b"))))) ∷ item (expr 15 (e.Aggregate word.Min (Some (expr 19 (e.Compared Equal (column 19 (codes "a")) (number 23 1)))))) ∷ item (expr 27 (e.Aggregate word.Count (Some (expr 33 (e.Compared Equal (column 33 (codes "a")) (number 37 1)))))) ∷ []) (from (table 45 (codes "r")) [] ∷ [])))))
    ≡ broken rule.UnfitKind 11 ∷ broken rule.UnfitKind 19 ∷ []
boolean_argument = simp (tree_equations, name_breaks) (rw token-given refl)

-- without FROM, and of no item: SELECT *, r.*
pub stars :
    name_breaks contents (st.Select (query 0 (core (select 0 (i.Star 7 ∷ i.TableStar (name 10 (codes "r")) ∷ []) []))))
    ≡ broken rule.UnknownColumn 7 ∷ broken rule.UnknownColumn 10 ∷ []
stars = simp (tree_equations, name_breaks) (rw token-given refl)

-- the item is none of its own core: SELECT 1 FROM r WHERE EXISTS (SELECT r.* FROM s)
pub star_of_outer :
    name_breaks contents (st.Select (query 0 (core (record (select 0 (item (number 7 1) ∷ []) (from (table 14 (codes "r")) [] ∷ [])) { condition = Some (expr 22 (e.Exists (query 30 (core (select 30 (i.TableStar (name 37 (codes "r")) ∷ []) (from (table 46 (codes "s")) [] ∷ [])))))) }))))
    ≡ broken rule.UnknownColumn 37 ∷ []
star_of_outer = simp (tree_equations, name_breaks) (rw token-given refl)

-- it stands for a column that is not grouped: SELECT *, r.* FROM r GROUP BY a
pub star_of_groups :
    name_breaks contents (st.Select (query 0 (core (record (select 0 (i.Star 7 ∷ i.TableStar (name 10 (codes "r")) ∷ []) (from (table 19 (codes "r")) [] ∷ [])) { groups = reference 30 (codes "a") ∷ [] }))))
    ≡ broken rule.UngroupedColumn 7 ∷ broken rule.UngroupedColumn 10 ∷ []
star_of_groups = simp (tree_equations, name_breaks) (rw token-given refl)

-- here each is: SELECT *, r.* FROM r GROUP BY b, a
pub grouped_star :
    name_breaks contents (st.Select (query 0 (core (record (select 0 (i.Star 7 ∷ i.TableStar (name 10 (codes "r")) ∷ []) (from (table 19 (codes "r")) [] ∷ [])) { groups = reference 30 (codes "b") ∷ reference 33 (codes "a") ∷ [] }))))
    ≡ []
grouped_star = simp (tree_equations, name_breaks) (rw token-given refl)
