-- Worked examples of resolved queries and statements: levels, names, kinds, groups, sublinks.
use Rattle.std.specs.Prelude.{◌≡◌, pos, true, false, [], ◌∷◌, Some, None, codes}
use Rattle.std.proofs.Common.{refl}
use Rattle.std.specs.Fmt.{digits}
use Rattle.null_logic.specs.declared.arith.Arith.TheVariants.{Add, Multiply}
use Rattle.null_logic.specs.declared.compare.Compare.TheVariants.{Equal, NotEqual, Greater, GreaterEqual}
use Rattle.bag_algebra.specs.declared.expr.Expr.TheVariants.{Col, Sub, Op, Chain, Case, IsNull, IsTruth, Same}
use Rattle.bag_algebra.specs.declared.query.Label.TheVariants.{Relation, External}
use Rattle.bag_algebra.specs.declared.query.Query.TheVariants.{Single, Base, Filter, Project, Join, Apply, Union, Except, Distinct, Aggregate, Limit, Prov}
use Rattle.bag_algebra.specs.declared.query.Query.TheBlock.{shape-the_row-Query-0, hidden-the_row-Query-0, shape-the_row-Sublink-1, hidden-the_row-Sublink-1}
use Rattle.bag_algebra.specs.declared.query.SubKind.TheVariants.{Exists, Any, All, Scalar}
use Rattle.sql_tree.specs.declared.query.OrderKey.TheVariants.{Named as named_key, Position}
use Rattle.name_meaning.specs.Froms.{names_of}
use Rattle.name_meaning.specs.Statements.{query_meant, columns_of, resolved_body}
use Rattle.name_meaning.proofs.Equations.{tree_equations, token-given}
use Rattle.worked_examples.specs.NamedCatalog.{contents, read_r, read_s, a_of_r, c_of_s, column_item, stored, view_of, table_s_read, table_t_read}
use Rattle.worked_examples.specs.NamedTrees.{name, reference, expr, column, column_of, number, text, null, step, arm, reads, table, join as join_step, from, item, select, core, operand, key, ordered, query, values}
use Rattle.worked_examples.specs.Queries.{number as whole, text as word, yes, nothing, built, truth as truth_of}
use Rattle.worked_examples.specs.NamedQueries.{one_over, tested, sub, aggregate}
use Rattle.sql_tree.specs.declared.expression.ExprBody.TheVariants as e
use Rattle.sql_tree.specs.declared.query.SelectItem.TheVariants as i
use Rattle.sql_tree.specs.declared.query.SetTree.TheVariants as set
use Rattle.sql_tree.specs.declared.query.SetWord.TheVariants as set_word
use Rattle.sql_tree.specs.declared.source.FromSource.TheVariants as source
use Rattle.sql_tree.specs.declared.source.ScopeMark.TheVariants as mark
use Rattle.sql_tree.specs.declared.source.JoinWord.TheVariants as join_word
use Rattle.sql_tree.specs.declared.expression.AggWord.TheVariants as word
use Rattle.sql_tree.specs.declared.statement.StatementBody.TheVariants as st
use Rattle.perm_values.specs.declared.kind.Kind.TheVariants as kind
use Rattle.null_logic.specs.declared.truth.Truth.TheVariants as truth
use Rattle.null_logic.specs.declared.operator.Operator.TheVariants as x
use Rattle.bag_algebra.specs.declared.query.JoinKind.TheVariants as join
use Rattle.bag_algebra.specs.declared.query.AggFn.TheVariants as fn
use Rattle.name_meaning.specs.declared.answer.Resolved.TheVariants as r

-- ON sees the items up to its own step, and its sublinks are the join's own: SELECT 1 FROM r LEFT JOIN s ON EXISTS (SELECT 1 FROM s z WHERE z.c > r.a)
pub sublink_in_on :
    (query_meant contents (query 0 (core (select 0 (item (number 7 1) ∷ []) (from (table 14 (codes "r")) (join_step join_word.Left (table 26 (codes "s")) (Some (expr 31 (e.Exists (query 39 (core (record (select 39 (item (number 46 1) ∷ []) (from (reads 53 (source.Named (name 53 (codes "s"))) (Some (name 55 (codes "z"))) mark.Plain) [] ∷ [])) { condition = Some (expr 63 (e.Compared Greater (column_of 63 (codes "z") (codes "c")) (column_of 69 (codes "r") (codes "a")))) })))))) ∷ []) ∷ []))))).make []
    ≡ one_over (Join join.Left read_r read_s (Sub 0) (sub Exists (one_over (Filter read_s (Op (x.Compare Greater) (Col 0 0 ∷ Col 1 0 ∷ [])) [])) ∷ []))
sublink_in_on = simp tree_equations (rw token-given refl)

-- a lateral subquery is a level as a sublink is: SELECT 1 FROM r CROSS JOIN LATERAL (SELECT 1 FROM s WHERE EXISTS (SELECT 1 FROM s z WHERE z.c = a)) x
pub lateral_levels :
    (query_meant contents (query 0 (core (select 0 (item (number 7 1) ∷ []) (from (table 14 (codes "r")) (join_step join_word.CrossLateral (reads 35 (source.Inner (query 36 (core (record (select 36 (item (number 43 1) ∷ []) (from (table 50 (codes "s")) [] ∷ [])) { condition = Some (expr 58 (e.Exists (query 66 (core (record (select 66 (item (number 73 1) ∷ []) (from (reads 80 (source.Named (name 80 (codes "s"))) (Some (name 82 (codes "z"))) mark.Plain) [] ∷ [])) { condition = Some (expr 90 (e.Compared Equal (column_of 90 (codes "z") (codes "c")) (column 96 (codes "a")))) }))))) })))) (Some (name 100 (codes "x"))) mark.Plain) None ∷ []) ∷ []))))).make []
    ≡ one_over (Apply join.Inner read_r (one_over (Filter read_s (Sub 0) (sub Exists (one_over (Filter read_s (Op (x.Compare Equal) (Col 0 0 ∷ Col 2 0 ∷ [])) [])) ∷ []))))
lateral_levels = simp tree_equations (rw token-given refl)

-- a left one keeps the rows beside which it gives none: SELECT 1 FROM r LEFT JOIN LATERAL (SELECT 1 FROM s) x ON TRUE
pub lateral_left :
    (query_meant contents (query 0 (core (select 0 (item (number 7 1) ∷ []) (from (table 14 (codes "r")) (join_step join_word.LeftLateral (reads 34 (source.Inner (query 35 (core (select 35 (item (number 42 1) ∷ []) (from (table 49 (codes "s")) [] ∷ []))))) (Some (name 52 (codes "x"))) mark.Plain) None ∷ []) ∷ []))))).make []
    ≡ one_over (Apply join.Left read_r (one_over read_s))
lateral_left = simp tree_equations (rw token-given refl)

-- a column through two sublinks, one, and none: SELECT a FROM r WHERE EXISTS (SELECT 1 FROM s WHERE EXISTS (SELECT 1 FROM s y WHERE a = y.c AND s.c = 1))
pub levels :
    (query_meant contents (query 0 (core (record (select 0 (item (column 7 (codes "a")) ∷ []) (from (table 14 (codes "r")) [] ∷ [])) { condition = Some (expr 22 (e.Exists (query 30 (core (record (select 30 (item (number 37 1) ∷ []) (from (table 44 (codes "s")) [] ∷ [])) { condition = Some (expr 52 (e.Exists (query 60 (core (record (select 60 (item (number 67 1) ∷ []) (from (reads 74 (source.Named (name 74 (codes "s"))) (Some (name 76 (codes "y"))) mark.Plain) [] ∷ [])) { condition = Some (expr 84 (e.Logic x.And (expr 84 (e.Compared Equal (column 84 (codes "a")) (column_of 88 (codes "y") (codes "c"))) ∷ expr 96 (e.Compared Equal (column_of 96 (codes "s") (codes "c")) (number 102 1)) ∷ []))) }))))) }))))) })))).make []
    ≡ Project (Filter read_r (Sub 0) (sub Exists (one_over (Filter read_s (Sub 0) (sub Exists (one_over (Filter read_s (Op x.And (Op (x.Compare Equal) (Col 2 0 ∷ Col 0 0 ∷ []) ∷ Op (x.Compare Equal) (Col 1 0 ∷ whole 1 ∷ []) ∷ [])) [])) ∷ []))) ∷ [])) (column_item 0 kind.Integer ∷ []) []
levels = simp tree_equations (rw token-given refl)

-- the nearest scope with a column of that name: SELECT 1 FROM r WHERE EXISTS (SELECT b FROM r)
pub nearest :
    (query_meant contents (query 0 (core (record (select 0 (item (number 7 1) ∷ []) (from (table 14 (codes "r")) [] ∷ [])) { condition = Some (expr 22 (e.Exists (query 30 (core (select 30 (item (column 37 (codes "b")) ∷ []) (from (table 44 (codes "r")) [] ∷ [])))))) })))).make []
    ≡ one_over (Filter read_r (Sub 0) (sub Exists (Project read_r (column_item 1 kind.Text ∷ []) []) ∷ []))
nearest = simp tree_equations (rw token-given refl)

-- a subquery of FROM adds no level: SELECT 1 FROM r WHERE EXISTS (SELECT 1 FROM (SELECT b) x)
pub subquery_of_sublink :
    (query_meant contents (query 0 (core (record (select 0 (item (number 7 1) ∷ []) (from (table 14 (codes "r")) [] ∷ [])) { condition = Some (expr 22 (e.Exists (query 30 (core (select 30 (item (number 37 1) ∷ []) (from (reads 44 (source.Inner (query 45 (core (select 45 (item (column 52 (codes "b")) ∷ []) [])))) (Some (name 55 (codes "x"))) mark.Plain) [] ∷ [])))))) })))).make []
    ≡ one_over (Filter read_r (Sub 0) (sub Exists (one_over (Project Single (built kind.Text (Col 1 1) ∷ []) [])) ∷ []))
subquery_of_sublink = simp tree_equations (rw token-given refl)

-- all columns of all items, then those of one: SELECT *, s.* FROM r, s
pub star_columns :
    (query_meant contents (query 0 (core (select 0 (i.Star 7 ∷ i.TableStar (name 10 (codes "s")) ∷ []) (from (table 19 (codes "r")) [] ∷ from (table 22 (codes "s")) [] ∷ []))))).make []
    ≡ Project (Join join.Inner read_r read_s yes []) (column_item 0 kind.Integer ∷ column_item 1 kind.Text ∷ column_item 2 kind.Integer ∷ column_item 2 kind.Integer ∷ []) []
star_columns = simp tree_equations (rw token-given refl)

-- SELECT *, s.* FROM r, s
pub star_names :
    names_of (columns_of (query_meant contents (query 0 (core (select 0 (i.Star 7 ∷ i.TableStar (name 10 (codes "s")) ∷ []) (from (table 19 (codes "r")) [] ∷ from (table 22 (codes "s")) [] ∷ []))))))
    ≡ codes "a" ∷ codes "b" ∷ codes "c" ∷ codes "c" ∷ []
unfolding digits
star_names = simp tree_equations (rw token-given refl)

-- parentheses hide no name; a column without one is counted behind `*`: SELECT ((r.b)), 1, *, - a, a q, (a + 1) FROM r
pub output_names :
    names_of (columns_of (query_meant contents (query 0 (core (select 0 (item (expr 7 (e.Paren (expr 8 (e.Paren (column_of 9 (codes "r") (codes "b")))))) ∷ item (number 16 1) ∷ i.Star 19 ∷ item (expr 22 (e.Signs 1 (column 24 (codes "a")))) ∷ i.Value (column 27 (codes "a")) (Some (name 29 (codes "q"))) ∷ item (expr 32 (e.Paren (expr 33 (e.Chain (column 33 (codes "a")) (step Add (number 37 1) ∷ []))))) ∷ []) (from (table 45 (codes "r")) [] ∷ []))))))
    ≡ codes "b" ∷ codes "column2" ∷ codes "a" ∷ codes "b" ∷ codes "column5" ∷ codes "q" ∷ codes "column7" ∷ []
unfolding digits
output_names = simp tree_equations (rw token-given refl)

-- SELECT COUNT(*), (SUM(a)), MIN(a), MAX(b), COUNT(DISTINCT a) FROM r
pub aggregate_names :
    names_of (columns_of (query_meant contents (query 0 (core (select 0 (item (expr 7 (e.Aggregate word.CountRows None)) ∷ item (expr 17 (e.Paren (expr 18 (e.Aggregate word.Sum (Some (column 22 (codes "a"))))))) ∷ item (expr 27 (e.Aggregate word.Min (Some (column 31 (codes "a"))))) ∷ item (expr 35 (e.Aggregate word.Max (Some (column 39 (codes "b"))))) ∷ item (expr 43 (e.Aggregate word.CountDistinct (Some (column 58 (codes "a"))))) ∷ []) (from (table 66 (codes "r")) [] ∷ []))))))
    ≡ codes "count" ∷ codes "sum" ∷ codes "min" ∷ codes "max" ∷ codes "count" ∷ []
unfolding digits
aggregate_names = simp tree_equations (rw token-given refl)

-- those of the first operand: SELECT a FROM r UNION SELECT c FROM s
pub set_names :
    names_of (columns_of (query_meant contents (query 0 (set.Chain (core (select 0 (item (column 7 (codes "a")) ∷ []) (from (table 14 (codes "r")) [] ∷ []))) (operand set_word.Union false 22 (core (select 22 (item (column 29 (codes "c")) ∷ []) (from (table 36 (codes "s")) [] ∷ []))) ∷ [])))))
    ≡ codes "a" ∷ []
unfolding digits
set_names = simp tree_equations (rw token-given refl)

-- a column of no kind is Text: SELECT NULL
pub null_alone :
    (query_meant contents (query 0 (core (select 0 (item (null 7) ∷ []) [])))).make []
    ≡ Project Single (built kind.Text (nothing kind.Text) ∷ []) []
null_alone = simp tree_equations (rw token-given refl)

-- it takes the kind of the columns beside it; in the first column none has one: SELECT NULL, NULL UNION SELECT NULL, 1 EXCEPT ALL SELECT NULL, NULL ORDER BY 2 DESC LIMIT 3
pub null_in_sets :
    (query_meant contents (ordered 0 (set.Chain (core (select 0 (item (null 7) ∷ item (null 13) ∷ []) [])) (operand set_word.Union false 24 (core (select 24 (item (null 31) ∷ item (number 37 1) ∷ []) [])) ∷ operand set_word.Except true 50 (core (select 50 (item (null 57) ∷ item (null 63) ∷ []) [])) ∷ [])) (key 77 (Position (pos 2)) true ∷ []) (Some (pos 3)))).make []
    ≡ Limit (Except true (Union false (Project Single (built kind.Text (nothing kind.Text) ∷ built kind.Integer (nothing kind.Integer) ∷ []) []) (Project Single (built kind.Text (nothing kind.Text) ∷ built kind.Integer (whole 1) ∷ []) [])) (Project Single (built kind.Text (nothing kind.Text) ∷ built kind.Integer (nothing kind.Integer) ∷ []) [])) (record { place = 1; descending = true } ∷ []) 3
null_in_sets = simp tree_equations (rw token-given refl)

-- the kind that is needed goes inwards, through COALESCE and a sublink; without one it is Text: SELECT COALESCE(NULL, NULL) + 1, NULL = NULL, (SELECT NULL) * 2, CASE WHEN NULL THEN NULL ELSE 'x' END
pub null_in_parts :
    (query_meant contents (query 0 (core (select 0 (item (expr 7 (e.Chain (expr 7 (e.Coalesce (null 16 ∷ null 22 ∷ []))) (step Add (number 30 1) ∷ []))) ∷ item (expr 33 (e.Compared Equal (null 33) (null 40))) ∷ item (expr 46 (e.Chain (expr 46 (e.Scalar (query 47 (core (select 47 (item (null 54) ∷ []) []))))) (step Multiply (number 62 2) ∷ []))) ∷ item (expr 65 (e.Case (arm (null 75) (null 85) ∷ []) (Some (text 95 (codes "x"))))) ∷ []) [])))).make []
    ≡ Project Single (built kind.Integer (Chain (Op x.Coalesce (nothing kind.Integer ∷ nothing kind.Integer ∷ [])) (record { op = Add; part = whole 1 } ∷ [])) ∷ built kind.Boolean (Op (x.Compare Equal) (nothing kind.Text ∷ nothing kind.Text ∷ [])) ∷ built kind.Integer (Chain (Sub 0) (record { op = Multiply; part = whole 2 } ∷ [])) ∷ built kind.Text (Case (record { condition = nothing kind.Boolean; value = nothing kind.Text } ∷ []) (word (codes "x"))) ∷ []) (sub Scalar (Project Single (built kind.Integer (nothing kind.Integer) ∷ []) []) ∷ [])
null_in_parts = simp tree_equations (rw token-given refl)

-- SUM needs an Integer; MIN and MAX of no kind, and what COUNT counts, are Text: SELECT SUM(NULL), MIN(NULL), COUNT(NULL)
pub null_of_aggregates :
    (query_meant contents (query 0 (core (select 0 (item (expr 7 (e.Aggregate word.Sum (Some (null 11)))) ∷ item (expr 18 (e.Aggregate word.Min (Some (null 22)))) ∷ item (expr 29 (e.Aggregate word.Count (Some (null 35)))) ∷ []) [])))).make []
    ≡ Project (Aggregate Single [] (aggregate fn.Sum (Some (nothing kind.Integer)) kind.Integer ∷ aggregate fn.Min (Some (nothing kind.Text)) kind.Text ∷ aggregate fn.Count (Some (nothing kind.Text)) kind.Integer ∷ [])) (built kind.Integer (Col 0 0) ∷ built kind.Text (Col 0 1) ∷ built kind.Integer (Col 0 2) ∷ []) []
null_of_aggregates = simp tree_equations (rw token-given refl)

-- groups in the order written, then the aggregates of HAVING, then those of the list: SELECT COUNT(*), a, SUM(a) FROM r WHERE a = 1 GROUP BY b, a HAVING MAX(b) = 'x' AND a > 0
pub groups :
    (query_meant contents (query 0 (core (record (select 0 (item (expr 7 (e.Aggregate word.CountRows None)) ∷ item (column 17 (codes "a")) ∷ item (expr 20 (e.Aggregate word.Sum (Some (column 24 (codes "a"))))) ∷ []) (from (table 32 (codes "r")) [] ∷ [])) { condition = Some (expr 40 (e.Compared Equal (column 40 (codes "a")) (number 44 1))); groups = reference 55 (codes "b") ∷ reference 58 (codes "a") ∷ []; having = Some (expr 67 (e.Logic x.And (expr 67 (e.Compared Equal (expr 67 (e.Aggregate word.Max (Some (column 71 (codes "b"))))) (text 76 (codes "x"))) ∷ expr 84 (e.Compared Greater (column 84 (codes "a")) (number 88 0)) ∷ []))) })))).make []
    ≡ Project (Filter (Aggregate (Filter read_r (Op (x.Compare Equal) (Col 0 0 ∷ whole 1 ∷ [])) []) (1 ∷ 0 ∷ []) (aggregate fn.Max (Some (Col 0 1)) kind.Text ∷ aggregate fn.CountRows None kind.Integer ∷ aggregate fn.Sum (Some (Col 0 0)) kind.Integer ∷ [])) (Op x.And (Op (x.Compare Equal) (Col 0 2 ∷ word (codes "x") ∷ []) ∷ Op (x.Compare Greater) (Col 0 1 ∷ whole 0 ∷ []) ∷ [])) []) (built kind.Integer (Col 0 3) ∷ built kind.Integer (Col 0 1) ∷ built kind.Integer (Col 0 4) ∷ []) []
groups = simp tree_equations (rw token-given refl)

-- a sublink of HAVING sees the groups: SELECT b FROM r GROUP BY b HAVING EXISTS (SELECT 1 WHERE b = 'x')
pub group_of_outer :
    (query_meant contents (query 0 (core (record (select 0 (item (column 7 (codes "b")) ∷ []) (from (table 14 (codes "r")) [] ∷ [])) { groups = reference 25 (codes "b") ∷ []; having = Some (expr 34 (e.Exists (query 42 (core (record (select 42 (item (number 49 1) ∷ []) []) { condition = Some (expr 57 (e.Compared Equal (column 57 (codes "b")) (text 61 (codes "x")))) }))))) })))).make []
    ≡ Project (Filter (Aggregate read_r (1 ∷ []) []) (Sub 0) (sub Exists (one_over (Filter Single (Op (x.Compare Equal) (Col 1 0 ∷ word (codes "x") ∷ [])) [])) ∷ [])) (built kind.Text (Col 0 0) ∷ []) []
group_of_outer = simp tree_equations (rw token-given refl)

-- in each clause from 0, in the order of the text: SELECT a IN (SELECT c FROM s), - (SELECT 1) FROM r WHERE NOT EXISTS (SELECT 1) OR a >= ALL (SELECT c FROM s) OR a NOT IN (SELECT c FROM s)
pub numbered_sublinks :
    (query_meant contents (query 0 (core (record (select 0 (item (expr 7 (e.InQuery false (column 7 (codes "a")) (query 13 (core (select 13 (item (column 20 (codes "c")) ∷ []) (from (table 27 (codes "s")) [] ∷ [])))))) ∷ item (expr 31 (e.Signs 1 (expr 33 (e.Scalar (query 34 (core (select 34 (item (number 41 1) ∷ []) []))))))) ∷ []) (from (table 49 (codes "r")) [] ∷ [])) { condition = Some (expr 57 (e.Logic x.Or (expr 57 (e.Nots 1 (expr 61 (e.Exists (query 69 (core (select 69 (item (number 76 1) ∷ []) [])))))) ∷ expr 82 (e.Quantified true GreaterEqual (column 82 (codes "a")) (query 92 (core (select 92 (item (column 99 (codes "c")) ∷ []) (from (table 106 (codes "s")) [] ∷ []))))) ∷ expr 112 (e.InQuery true (column 112 (codes "a")) (query 122 (core (select 122 (item (column 129 (codes "c")) ∷ []) (from (table 136 (codes "s")) [] ∷ []))))) ∷ []))) })))).make []
    ≡ Project (Filter read_r (Op x.Or (Op x.Not (Sub 0 ∷ []) ∷ Sub 1 ∷ Sub 2 ∷ [])) (sub Exists (one_over Single) ∷ tested (All GreaterEqual) (Col 0 0) c_of_s ∷ tested (All NotEqual) (Col 0 0) c_of_s ∷ [])) (built kind.Boolean (Sub 0) ∷ built kind.Integer (Op x.Negate (Sub 1 ∷ [])) ∷ []) (tested (Any Equal) (Col 0 0) c_of_s ∷ sub Scalar (one_over Single) ∷ [])
numbered_sublinks = simp tree_equations (rw token-given refl)

-- one where the count is odd, and two where it is even: SELECT NOT NOT NOT TRUE, - - - - 1
pub repeated_signs :
    (query_meant contents (query 0 (core (select 0 (item (expr 7 (e.Nots 3 (expr 19 (e.Truth true)))) ∷ item (expr 25 (e.Signs 4 (number 33 1))) ∷ []) [])))).make []
    ≡ Project Single (built kind.Boolean (Op x.Not (yes ∷ [])) ∷ built kind.Integer (Op x.Negate (Op x.Negate (whole 1 ∷ []) ∷ [])) ∷ []) []
repeated_signs = simp tree_equations (rw token-given refl)

-- SELECT b NOT LIKE 'x', a NOT BETWEEN 1 AND 2, a NOT IN (1, 2), a IS NOT NULL, TRUE IS NOT UNKNOWN, a IS DISTINCT FROM 1, a IS NOT DISTINCT FROM 1 FROM r
pub negated_tests :
    (query_meant contents (query 0 (core (select 0 (item (expr 7 (e.Like true (column 7 (codes "b")) (text 18 (codes "x")))) ∷ item (expr 23 (e.Between true (column 23 (codes "a")) (number 37 1) (number 43 2))) ∷ item (expr 46 (e.InList true (column 46 (codes "a")) (number 56 1 ∷ number 59 2 ∷ []))) ∷ item (expr 63 (e.IsNull true (column 63 (codes "a")))) ∷ item (expr 78 (e.IsTruth true truth.Unknown (expr 78 (e.Truth true)))) ∷ item (expr 99 (e.IsDistinct false (column 99 (codes "a")) (number 118 1))) ∷ item (expr 121 (e.IsDistinct true (column 121 (codes "a")) (number 144 1))) ∷ []) (from (table 151 (codes "r")) [] ∷ []))))).make []
    ≡ Project read_r (truth_of (Op x.Not (Op x.Like (Col 0 1 ∷ word (codes "x") ∷ []) ∷ [])) ∷ truth_of (Op x.Not (Op x.Between (Col 0 0 ∷ whole 1 ∷ whole 2 ∷ []) ∷ [])) ∷ truth_of (Op x.Not (Op x.InList (Col 0 0 ∷ whole 1 ∷ whole 2 ∷ []) ∷ [])) ∷ truth_of (Op x.Not (IsNull (Col 0 0) ∷ [])) ∷ truth_of (Op x.Not (IsTruth truth.Unknown yes ∷ [])) ∷ truth_of (Op x.Not (Same (Col 0 0) (whole 1) ∷ [])) ∷ truth_of (Same (Col 0 0) (whole 1)) ∷ []) []
negated_tests = simp tree_equations (rw token-given refl)

-- SELECT DISTINCT a FROM r
pub distinct_on_top :
    (query_meant contents (query 0 (core (record (select 0 (item (column 16 (codes "a")) ∷ []) (from (table 23 (codes "r")) [] ∷ [])) { distinct = true })))).make []
    ≡ Distinct a_of_r
distinct_on_top = simp tree_equations (rw token-given refl)

-- the keys of the outermost query, with no operator of their own: SELECT a, b FROM r ORDER BY b DESC, 1
pub answer_keys :
    (query_meant contents (ordered 0 (core (select 0 (item (column 7 (codes "a")) ∷ item (column 10 (codes "b")) ∷ []) (from (table 17 (codes "r")) [] ∷ []))) (key 28 (named_key (codes "b")) true ∷ key 36 (Position (pos 1)) false ∷ []) None)).keys
    ≡ record { place = 1; descending = true } ∷ record { place = 0; descending = false } ∷ []
answer_keys = simp tree_equations (rw token-given refl)

-- the names that a view uses, directly or through other views, in ascending order: CREATE VIEW q AS SELECT 1 FROM v, s BASERELATION WHERE EXISTS (SELECT 1 FROM t)
pub view_names :
    resolved_body contents (st.CreateView (name 12 (codes "q")) (query 17 (core (record (select 17 (item (number 24 1) ∷ []) (from (table 31 (codes "v")) [] ∷ from (reads 34 (source.Named (name 34 (codes "s"))) None mark.BaseRelation) [] ∷ [])) { condition = Some (expr 55 (e.Exists (query 63 (core (select 63 (item (number 70 1) ∷ []) (from (table 77 (codes "t")) [] ∷ [])))))) }))))
    ≡ r.CreateView (codes "q") (view_of (one_over (Filter (Join join.Inner a_of_r (Base table_s_read (0 ∷ []) (Relation (codes "s") (codes "c" ∷ []))) yes []) (Sub 0) (sub Exists (one_over (Base table_t_read (1 ∷ []) (External (codes "prov_r_a" ∷ [])))) ∷ []))) (codes "column1" ∷ []) None (codes "r" ∷ codes "s" ∷ codes "t" ∷ codes "v" ∷ []))
unfolding digits
view_names = simp (tree_equations, resolved_body) (rw token-given refl)

-- the columns of the table, the query that is kept, and the places of its provenance: CREATE TABLE q AS SELECT PROVENANCE c FROM s
pub stored_query :
    resolved_body contents (st.CreateTableAs (name 13 (codes "q")) (query 18 (core (record (select 18 (item (column 36 (codes "c")) ∷ []) (from (table 43 (codes "s")) [] ∷ [])) { provenance = Some 25 }))))
    ≡ r.CreateTableAs (codes "q") (stored (codes "c") kind.Integer ∷ stored (codes "prov_s_c") kind.Integer ∷ []) (record { query = Prov c_of_s; names = codes "c" ∷ codes "prov_s_c" ∷ []; keys = [] }) (Some (1 ∷ []))
unfolding shape-the_row-Query-0 hidden-the_row-Query-0 shape-the_row-Sublink-1 hidden-the_row-Sublink-1 package.denote.Hole.Carrier.hidden
stored_query = simp (tree_equations, resolved_body) (rw token-given refl)

-- each value at the kind of its column: INSERT INTO r VALUES (NULL, NULL), (1 + 1, 'x')
pub inserted_rows :
    resolved_body contents (st.Insert (name 12 (codes "r")) (values 21 (null 22 ∷ null 28 ∷ []) ∷ values 35 (expr 36 (e.Chain (number 36 1) (step Add (number 40 1) ∷ [])) ∷ text 43 (codes "x") ∷ []) ∷ []))
    ≡ r.Insert (codes "r") ((nothing kind.Integer ∷ nothing kind.Text ∷ []) ∷ (Chain (whole 1) (record { op = Add; part = whole 1 } ∷ []) ∷ word (codes "x") ∷ []) ∷ [])
inserted_rows = simp (tree_equations, resolved_body) (rw token-given refl)

-- the condition sees the table under its name: DELETE FROM r WHERE r.b = 'x' OR NULL
pub deleted_rows :
    resolved_body contents (st.Delete (name 12 (codes "r")) (Some (expr 20 (e.Logic x.Or (expr 20 (e.Compared Equal (column_of 20 (codes "r") (codes "b")) (text 26 (codes "x"))) ∷ null 33 ∷ [])))))
    ≡ r.Delete (codes "r") (Some (Op x.Or (Op (x.Compare Equal) (Col 0 1 ∷ word (codes "x") ∷ []) ∷ nothing kind.Boolean ∷ [])))
deleted_rows = simp (tree_equations, resolved_body) (rw token-given refl)
