-- Worked examples of IMPACT: what it breaks, in order, and what it resolves to.
use Rattle.std.specs.Prelude.{◌≡◌, ℕ, pos, true, cond, List, [], ◌∷◌, Some, None, codes}
use Rattle.std.proofs.Common.{refl}
use Rattle.null_logic.specs.declared.compare.Compare.TheVariants.{Equal}
use Rattle.bag_algebra.specs.declared.expr.Expr.TheVariants.{Col, Op}
use Rattle.bag_algebra.specs.declared.query.Query.TheVariants.{Project}
use Rattle.bag_algebra.specs.declared.query.Query.TheBlock.{shape-the_row-Query-0, hidden-the_row-Query-0, shape-the_row-Sublink-1, hidden-the_row-Sublink-1}
use Rattle.sql_tree.specs.declared.query.OrderKey.TheVariants.{Position}
use Rattle.sql_tree.specs.declared.query.QueryTree.{QueryTree}
use Rattle.name_meaning.specs.Meanings.{QueryMeant, broken, is_whole}
use Rattle.name_meaning.specs.Statements.{breaks, impact_breaks, impact_query, name_breaks, query_limits, resolved_body}
use Rattle.name_meaning.specs.declared.answer.Break.{Break}
use Rattle.name_meaning.proofs.Equations.{tree_equations, token-given}
use Rattle.worked_examples.specs.NamedCatalog.{contents, a_of_r, column_item}
use Rattle.worked_examples.specs.NamedTrees.{name, expr, column, column_of, number, table, from, item, select, core, key, ordered, query, statement}
use Rattle.worked_examples.specs.Queries.{number as whole}
use Rattle.sql_tree.specs.declared.expression.AggWord.TheVariants as word
use Rattle.sql_tree.specs.declared.expression.ExprBody.TheVariants as e
use Rattle.sql_tree.specs.declared.query.SelectItem.TheVariants as i
use Rattle.sql_tree.specs.declared.statement.StatementBody.TheVariants as st
use Rattle.perm_values.specs.declared.kind.Kind.TheVariants as kind
use Rattle.null_logic.specs.declared.operator.Operator.TheVariants as x
use Rattle.name_meaning.specs.declared.answer.Resolved.TheVariants as r
use Rattle.name_meaning.specs.declared.rule.Rule.TheVariants as rule

-- a condition on a table that is not there is not looked at, the query is: IMPACT DELETE FROM nosuch WHERE zz = 1 OF SELECT zz FROM r
pub unknown_table :
    name_breaks contents (st.Impact (name 19 (codes "nosuch")) (Some (expr 32 (e.Compared Equal (column 32 (codes "zz")) (number 37 1)))) (query 42 (core (select 42 (item (column 49 (codes "zz")) ∷ []) (from (table 57 (codes "r")) [] ∷ [])))))
    ≡ broken rule.UnknownRelation 19 ∷ broken rule.UnknownColumn 49 ∷ []
unknown_table = simp (tree_equations, name_breaks) (rw token-given refl)

-- the condition comes before the query: IMPACT DELETE FROM r WHERE a OF SELECT nosuch FROM r
pub condition_first :
    name_breaks contents (st.Impact (name 19 (codes "r")) (Some (column 27 (codes "a"))) (query 32 (core (select 32 (item (column 39 (codes "nosuch")) ∷ []) (from (table 51 (codes "r")) [] ∷ [])))))
    ≡ broken rule.UnfitKind 27 ∷ broken rule.UnknownColumn 39 ∷ []
condition_first = simp (tree_equations, name_breaks) (rw token-given refl)

-- the condition sees the table alone: IMPACT DELETE FROM r WHERE c = 1 OF SELECT c FROM s
pub scope_of_condition :
    name_breaks contents (st.Impact (name 19 (codes "r")) (Some (expr 27 (e.Compared Equal (column 27 (codes "c")) (number 31 1)))) (query 36 (core (select 36 (item (column 43 (codes "c")) ∷ []) (from (table 50 (codes "s")) [] ∷ [])))))
    ≡ broken rule.UnknownColumn 27 ∷ []
scope_of_condition = simp (tree_equations, name_breaks) (rw token-given refl)

-- neither a sublink nor an aggregate stands in it: IMPACT DELETE FROM r WHERE EXISTS (SELECT nosuch) OF SELECT a FROM r
pub sublink_in_condition :
    name_breaks contents (st.Impact (name 19 (codes "r")) (Some (expr 27 (e.Exists (query 35 (core (select 35 (item (column 42 (codes "nosuch")) ∷ []) [])))))) (query 53 (core (select 53 (item (column 60 (codes "a")) ∷ []) (from (table 67 (codes "r")) [] ∷ [])))))
    ≡ broken rule.MisplacedSublink 27 ∷ []
sublink_in_condition = simp (tree_equations, name_breaks) (rw token-given refl)

-- a query that is not monotone: IMPACT DELETE FROM r OF SELECT COUNT(*) FROM r
pub counted :
    name_breaks contents (st.Impact (name 19 (codes "r")) None (query 24 (core (select 24 (item (expr 31 (e.Aggregate word.CountRows None)) ∷ []) (from (table 45 (codes "r")) [] ∷ [])))))
    ≡ broken rule.NotMonotone 24 ∷ []
unfolding shape-the_row-Query-0 hidden-the_row-Query-0 shape-the_row-Sublink-1 hidden-the_row-Sublink-1 package.denote.Hole.Carrier.hidden
counted = simp (tree_equations, name_breaks) (rw token-given refl)

-- not listed where the condition breaks: IMPACT DELETE FROM r WHERE a OF SELECT COUNT(*) FROM r
pub monotone_alone :
    name_breaks contents (st.Impact (name 19 (codes "r")) (Some (column 27 (codes "a"))) (query 32 (core (select 32 (item (expr 39 (e.Aggregate word.CountRows None)) ∷ []) (from (table 53 (codes "r")) [] ∷ [])))))
    ≡ broken rule.UnfitKind 27 ∷ []
monotone_alone = simp (tree_equations, name_breaks) (rw token-given refl)

-- a table that stores provenance is not monotone: IMPACT DELETE FROM r OF SELECT z FROM t
pub stored_table :
    name_breaks contents (st.Impact (name 19 (codes "r")) None (query 24 (core (select 24 (item (column 31 (codes "z")) ∷ []) (from (table 38 (codes "t")) [] ∷ [])))))
    ≡ broken rule.NotMonotone 24 ∷ []
unfolding shape-the_row-Query-0 hidden-the_row-Query-0 shape-the_row-Sublink-1 hidden-the_row-Sublink-1 package.denote.Hole.Carrier.hidden
stored_table = simp (tree_equations, name_breaks) (rw token-given refl)

-- the word PROVENANCE at the front of the query: IMPACT DELETE FROM r OF SELECT PROVENANCE a FROM r
pub provenance_of_query :
    name_breaks contents (st.Impact (name 19 (codes "r")) None (query 24 (core (record (select 24 (item (column 42 (codes "a")) ∷ []) (from (table 49 (codes "r")) [] ∷ [])) { provenance = Some 31 }))))
    ≡ broken rule.MisplacedProvenance 31 ∷ []
provenance_of_query = simp (tree_equations, name_breaks) (rw token-given refl)

-- nothing is broken, and the condition and the query are looked up: IMPACT DELETE FROM r WHERE r.a = 1 OF SELECT a FROM r ORDER BY 1 DESC
pub asked_about :
    name_breaks contents (st.Impact (name 19 (codes "r")) (Some (expr 27 (e.Compared Equal (column_of 27 (codes "r") (codes "a")) (number 33 1)))) (ordered 38 (core (select 38 (item (column 45 (codes "a")) ∷ []) (from (table 52 (codes "r")) [] ∷ []))) (key 63 (Position (pos 1)) true ∷ []) None))
    ≡ []
unfolding shape-the_row-Query-0 hidden-the_row-Query-0 shape-the_row-Sublink-1 hidden-the_row-Sublink-1 package.denote.Hole.Carrier.hidden
asked_about = simp (tree_equations, name_breaks) (rw token-given refl)

-- of the same
pub resolved_impact :
    resolved_body contents (st.Impact (name 19 (codes "r")) (Some (expr 27 (e.Compared Equal (column_of 27 (codes "r") (codes "a")) (number 33 1)))) (ordered 38 (core (select 38 (item (column 45 (codes "a")) ∷ []) (from (table 52 (codes "r")) [] ∷ []))) (key 63 (Position (pos 1)) true ∷ []) None))
    ≡ r.Impact (codes "r") (Some (Op (x.Compare Equal) (Col 0 0 ∷ whole 1 ∷ []))) (record { query = a_of_r; names = codes "a" ∷ []; keys = record { place = 0; descending = true } ∷ [] })
resolved_impact = simp (tree_equations, resolved_body) (rw token-given refl)

-- every row of the table may be meant, and the query may read a view: IMPACT DELETE FROM s OF SELECT a FROM v
pub resolved_view :
    resolved_body contents (st.Impact (name 19 (codes "s")) None (query 24 (core (select 24 (item (column 31 (codes "a")) ∷ []) (from (table 38 (codes "v")) [] ∷ [])))))
    ≡ r.Impact (codes "s") None (record { query = Project a_of_r (column_item 0 kind.Integer ∷ []) []; names = codes "a" ∷ []; keys = [] })
unfolding shape-the_row-Query-0 hidden-the_row-Query-0 shape-the_row-Sublink-1 hidden-the_row-Sublink-1 package.denote.Hole.Carrier.hidden
resolved_view = simp (tree_equations, resolved_body) (rw token-given refl)

-- ---- the limits come last

abbrev whole_breaks : ℕ → QueryMeant → List Break
whole_breaks at m = cond (is_whole (impact_breaks m.breaks at m)) (query_limits at m) (impact_breaks m.breaks at m)

of-impact : (tree : QueryTree) → breaks contents (statement (st.Impact (name 19 (codes "r")) None tree)) ≡ whole_breaks tree.at (impact_query contents tree)
of-impact tree = refl

-- 1,280 columns: IMPACT DELETE FROM r OF SELECT *, *, *, *, * FROM wide
pub columns_of_query :
    breaks contents (statement (st.Impact (name 19 (codes "r")) None (query 24 (core (select 24 (i.Star 31 ∷ i.Star 34 ∷ i.Star 37 ∷ i.Star 40 ∷ i.Star 43 ∷ []) (from (table 50 (codes "wide")) [] ∷ []))))))
    ≡ broken rule.TooManyColumns 24 ∷ []
unfolding shape-the_row-Query-0 hidden-the_row-Query-0 shape-the_row-Sublink-1 hidden-the_row-Sublink-1 package.denote.Hole.Carrier.hidden
columns_of_query = rw of-impact (simp tree_equations (rw token-given refl))

-- behind what is not monotone: IMPACT DELETE FROM r OF SELECT *, *, *, *, * FROM wide LIMIT 1
pub not_monotone_first :
    breaks contents (statement (st.Impact (name 19 (codes "r")) None (ordered 24 (core (select 24 (i.Star 31 ∷ i.Star 34 ∷ i.Star 37 ∷ i.Star 40 ∷ i.Star 43 ∷ []) (from (table 50 (codes "wide")) [] ∷ []))) [] (Some (pos 1)))))
    ≡ broken rule.NotMonotone 24 ∷ []
unfolding shape-the_row-Query-0 hidden-the_row-Query-0 shape-the_row-Sublink-1 hidden-the_row-Sublink-1 package.denote.Hole.Carrier.hidden
not_monotone_first = rw of-impact (simp tree_equations (rw token-given refl))
