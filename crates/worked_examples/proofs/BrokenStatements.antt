-- Worked examples of the breaks of statements: each code with its offset, and the order of two.
use Rattle.std.specs.Prelude.{◌≡◌, pos, false, [], ◌∷◌, Some, None, codes}
use Rattle.std.proofs.Common.{refl}
use Rattle.null_logic.specs.declared.compare.Compare.TheVariants.{Equal, Greater}
use Rattle.sql_tree.specs.declared.query.OrderKey.TheVariants.{Named as named_key, Position}
use Rattle.name_meaning.specs.Meanings.{broken}
use Rattle.name_meaning.specs.Statements.{name_breaks}
use Rattle.name_meaning.proofs.Equations.{tree_equations, token-given}
use Rattle.worked_examples.specs.NamedCatalog.{contents}
use Rattle.worked_examples.specs.NamedTrees.{name, reference, expr, column, number, text, reads, table, join, from, item, select, core, operand, key, ordered, query, defined, values}
use Rattle.sql_tree.specs.declared.expression.ExprBody.TheVariants as e
use Rattle.sql_tree.specs.declared.query.SelectItem.TheVariants as i
use Rattle.sql_tree.specs.declared.query.SetTree.TheVariants as set
use Rattle.sql_tree.specs.declared.query.SetWord.TheVariants as set_word
use Rattle.sql_tree.specs.declared.source.FromSource.TheVariants as source
use Rattle.sql_tree.specs.declared.source.ScopeMark.TheVariants as mark
use Rattle.sql_tree.specs.declared.source.JoinWord.TheVariants as join_word
use Rattle.sql_tree.specs.declared.expression.AggWord.TheVariants as word
use Rattle.null_logic.specs.declared.operator.Operator.TheVariants as x
use Rattle.sql_tree.specs.declared.statement.StatementBody.TheVariants as st
use Rattle.perm_values.specs.declared.kind.Kind.TheVariants as kind
use Rattle.name_meaning.specs.declared.rule.Rule.TheVariants as rule

-- a table that is not there: SELECT 1 FROM nosuch
pub unknown_table :
    name_breaks contents (st.Select (query 0 (core (select 0 (item (number 7 1) ∷ []) (from (table 14 (codes "nosuch")) [] ∷ [])))))
    ≡ broken rule.UnknownRelation 14 ∷ []
unknown_table = simp (tree_equations, name_breaks) (rw token-given refl)

-- a column that no item has: SELECT nosuch FROM r
pub unknown_column :
    name_breaks contents (st.Select (query 0 (core (select 0 (item (column 7 (codes "nosuch")) ∷ []) (from (table 19 (codes "r")) [] ∷ [])))))
    ≡ broken rule.UnknownColumn 7 ∷ []
unknown_column = simp (tree_equations, name_breaks) (rw token-given refl)

-- a column that two items have: SELECT a FROM r, r x
pub ambiguous_column :
    name_breaks contents (st.Select (query 0 (core (select 0 (item (column 7 (codes "a")) ∷ []) (from (table 14 (codes "r")) [] ∷ from (reads 17 (source.Named (name 17 (codes "r"))) (Some (name 19 (codes "x"))) mark.Plain) [] ∷ [])))))
    ≡ broken rule.AmbiguousColumn 7 ∷ []
ambiguous_column = simp (tree_equations, name_breaks) (rw token-given refl)

-- CREATE TABLE r (a INTEGER)
pub taken_name :
    name_breaks contents (st.CreateTable (name 13 (codes "r")) (defined (name 16 (codes "a")) kind.Integer ∷ []))
    ≡ broken rule.TakenName 13 ∷ []
taken_name = refl

-- the name comes before the columns: CREATE TABLE r (a INTEGER, b TEXT, a TEXT)
pub taken_and_repeated :
    name_breaks contents (st.CreateTable (name 13 (codes "r")) (defined (name 16 (codes "a")) kind.Integer ∷ defined (name 27 (codes "b")) kind.Text ∷ defined (name 35 (codes "a")) kind.Text ∷ []))
    ≡ broken rule.TakenName 13 ∷ broken rule.RepeatedColumn 35 ∷ []
taken_and_repeated = refl

-- two items of one name in scope: SELECT 1 FROM r, s r
pub repeated_alias :
    name_breaks contents (st.Select (query 0 (core (select 0 (item (number 7 1) ∷ []) (from (table 14 (codes "r")) [] ∷ from (reads 17 (source.Named (name 17 (codes "s"))) (Some (name 19 (codes "r"))) mark.Plain) [] ∷ [])))))
    ≡ broken rule.RepeatedItem 17 ∷ []
repeated_alias = simp (tree_equations, name_breaks) (rw token-given refl)

-- names of items are compared where one is not there, too: SELECT 1 FROM r, nosuch r
pub alias_of_unknown :
    name_breaks contents (st.Select (query 0 (core (select 0 (item (number 7 1) ∷ []) (from (table 14 (codes "r")) [] ∷ from (reads 17 (source.Named (name 17 (codes "nosuch"))) (Some (name 24 (codes "r"))) mark.Plain) [] ∷ [])))))
    ≡ broken rule.UnknownRelation 17 ∷ broken rule.RepeatedItem 17 ∷ []
alias_of_unknown = simp (tree_equations, name_breaks) (rw token-given refl)

-- a view names it: DROP TABLE r
pub used_table :
    name_breaks contents (st.DropTable (name 11 (codes "r")))
    ≡ broken rule.UsedByView 11 ∷ []
used_table = refl

-- a table is no view: DROP VIEW s
pub no_view :
    name_breaks contents (st.DropView (name 10 (codes "s")))
    ≡ broken rule.UnknownRelation 10 ∷ broken rule.UsedByView 10 ∷ []
no_view = refl

-- SELECT 1 = 'a'
pub unlike_kinds :
    name_breaks contents (st.Select (query 0 (core (select 0 (item (expr 7 (e.Compared Equal (number 7 1) (text 11 (codes "a")))) ∷ []) []))))
    ≡ broken rule.UnfitKind 11 ∷ []
unlike_kinds = simp (tree_equations, name_breaks) (rw token-given refl)

-- in a row of the right width each value has its own breaks, then its kind: INSERT INTO r VALUES ('x', 1), (1), (a, COUNT(*))
pub values_that_do_not_fit :
    name_breaks contents (st.Insert (name 12 (codes "r")) (values 21 (text 22 (codes "x") ∷ number 27 1 ∷ []) ∷ values 31 (number 32 1 ∷ []) ∷ values 36 (column 37 (codes "a") ∷ expr 40 (e.Aggregate word.CountRows None) ∷ []) ∷ []))
    ≡ broken rule.UnfitKind 22 ∷ broken rule.UnfitKind 27 ∷ broken rule.UnfitWidth 31 ∷ broken rule.UnknownColumn 37 ∷ broken rule.MisplacedAggregate 40 ∷ []
values_that_do_not_fit = simp (tree_equations, name_breaks) (rw token-given refl)

-- SELECT a, b FROM r GROUP BY a
pub not_grouped :
    name_breaks contents (st.Select (query 0 (core (record (select 0 (item (column 7 (codes "a")) ∷ item (column 10 (codes "b")) ∷ []) (from (table 17 (codes "r")) [] ∷ [])) { groups = reference 28 (codes "a") ∷ [] }))))
    ≡ broken rule.UngroupedColumn 10 ∷ []
not_grouped = simp (tree_equations, name_breaks) (rw token-given refl)

-- its own kind is not looked at, since it breaks: SELECT SUM(nosuch) FROM r WHERE SUM(b) = 'x'
pub aggregate_in_where :
    name_breaks contents (st.Select (query 0 (core (record (select 0 (item (expr 7 (e.Aggregate word.Sum (Some (column 11 (codes "nosuch"))))) ∷ []) (from (table 24 (codes "r")) [] ∷ [])) { condition = Some (expr 32 (e.Compared Equal (expr 32 (e.Aggregate word.Sum (Some (column 36 (codes "b"))))) (text 41 (codes "x")))) }))))
    ≡ broken rule.MisplacedAggregate 32 ∷ broken rule.UnfitKind 36 ∷ broken rule.UnknownColumn 11 ∷ []
aggregate_in_where = simp (tree_equations, name_breaks) (rw token-given refl)

-- its query is not looked at: DELETE FROM r WHERE EXISTS (SELECT nosuch)
pub sublink_in_delete :
    name_breaks contents (st.Delete (name 12 (codes "r")) (Some (expr 20 (e.Exists (query 28 (core (select 28 (item (column 35 (codes "nosuch")) ∷ []) [])))))))
    ≡ broken rule.MisplacedSublink 20 ∷ []
sublink_in_delete = simp (tree_equations, name_breaks) (rw token-given refl)

-- behind its left operand, at the first token of both: DELETE FROM r WHERE nosuch IN (SELECT 1)
pub left_operand_of_misplaced :
    name_breaks contents (st.Delete (name 12 (codes "r")) (Some (expr 20 (e.InQuery false (column 20 (codes "nosuch")) (query 31 (core (select 31 (item (number 38 1) ∷ []) [])))))))
    ≡ broken rule.UnknownColumn 20 ∷ broken rule.MisplacedSublink 20 ∷ []
left_operand_of_misplaced = simp (tree_equations, name_breaks) (rw token-given refl)

-- a sublink in ON is looked at, and no aggregate stands there: SELECT 1 FROM r JOIN s ON a IN (SELECT nosuch FROM s) AND COUNT(*) > 1
pub sublink_in_on :
    name_breaks contents (st.Select (query 0 (core (select 0 (item (number 7 1) ∷ []) (from (table 14 (codes "r")) (join join_word.Inner (table 21 (codes "s")) (Some (expr 26 (e.Logic x.And (expr 26 (e.InQuery false (column 26 (codes "a")) (query 32 (core (select 32 (item (column 39 (codes "nosuch")) ∷ []) (from (table 51 (codes "s")) [] ∷ []))))) ∷ expr 58 (e.Compared Greater (expr 58 (e.Aggregate word.CountRows None)) (number 69 1)) ∷ [])))) ∷ []) ∷ [])))))
    ≡ broken rule.UnknownColumn 39 ∷ broken rule.MisplacedAggregate 58 ∷ []
sublink_in_on = simp (tree_equations, name_breaks) (rw token-given refl)

-- no sublink stands left of one, and is not looked at there: SELECT (SELECT nosuch) IN (SELECT zz FROM r) FROM r
pub sublink_as_left_operand :
    name_breaks contents (st.Select (query 0 (core (select 0 (item (expr 7 (e.InQuery false (expr 7 (e.Scalar (query 8 (core (select 8 (item (column 15 (codes "nosuch")) ∷ []) []))))) (query 27 (core (select 27 (item (column 34 (codes "zz")) ∷ []) (from (table 42 (codes "r")) [] ∷ [])))))) ∷ []) (from (table 50 (codes "r")) [] ∷ [])))))
    ≡ broken rule.MisplacedSublink 7 ∷ broken rule.UnknownColumn 34 ∷ []
sublink_as_left_operand = simp (tree_equations, name_breaks) (rw token-given refl)

-- at the query: two names agree, and one is of truth values: CREATE TABLE q AS SELECT a, a, a = 1 FROM r
pub stored_columns :
    name_breaks contents (st.CreateTableAs (name 13 (codes "q")) (query 18 (core (select 18 (item (column 25 (codes "a")) ∷ item (column 28 (codes "a")) ∷ item (expr 31 (e.Compared Equal (column 31 (codes "a")) (number 35 1))) ∷ []) (from (table 42 (codes "r")) [] ∷ [])))))
    ≡ broken rule.RepeatedColumn 18 ∷ broken rule.UnfitKind 18 ∷ []
stored_columns = simp (tree_equations, name_breaks) (rw token-given refl)

-- the name of a table, and two names that agree: CREATE VIEW r AS SELECT a, a FROM r
pub viewed_columns :
    name_breaks contents (st.CreateView (name 12 (codes "r")) (query 17 (core (select 17 (item (column 24 (codes "a")) ∷ item (column 27 (codes "a")) ∷ []) (from (table 34 (codes "r")) [] ∷ [])))))
    ≡ broken rule.TakenName 12 ∷ broken rule.RepeatedColumn 17 ∷ []
viewed_columns = simp (tree_equations, name_breaks) (rw token-given refl)

-- at the inner query: not one column, another kind: SELECT a IN (SELECT a, b FROM r), b = ANY (SELECT c FROM s) FROM r
pub columns_of_sublinks :
    name_breaks contents (st.Select (query 0 (core (select 0 (item (expr 7 (e.InQuery false (column 7 (codes "a")) (query 13 (core (select 13 (item (column 20 (codes "a")) ∷ item (column 23 (codes "b")) ∷ []) (from (table 30 (codes "r")) [] ∷ [])))))) ∷ item (expr 34 (e.Quantified false Equal (column 34 (codes "b")) (query 43 (core (select 43 (item (column 50 (codes "c")) ∷ []) (from (table 57 (codes "s")) [] ∷ [])))))) ∷ []) (from (table 65 (codes "r")) [] ∷ [])))))
    ≡ broken rule.UnfitWidth 13 ∷ broken rule.UnfitKind 43 ∷ []
columns_of_sublinks = simp (tree_equations, name_breaks) (rw token-given refl)

-- SELECT a, b AS a FROM r ORDER BY a, 0
pub key_of_two_columns :
    name_breaks contents (st.Select (ordered 0 (core (select 0 (item (column 7 (codes "a")) ∷ i.Value (column 10 (codes "b")) (Some (name 15 (codes "a"))) ∷ []) (from (table 22 (codes "r")) [] ∷ []))) (key 33 (named_key (codes "a")) false ∷ key 36 (Position (pos 0)) false ∷ []) None))
    ≡ broken rule.AmbiguousColumn 33 ∷ broken rule.UnknownColumn 36 ∷ []
key_of_two_columns = simp (tree_equations, name_breaks) (rw token-given refl)

-- kinds at the second, width at the third; then the keys: SELECT a FROM r UNION SELECT b FROM r UNION SELECT a, b FROM r ORDER BY 2, a, z
pub operands :
    name_breaks contents (st.Select (ordered 0 (set.Chain (core (select 0 (item (column 7 (codes "a")) ∷ []) (from (table 14 (codes "r")) [] ∷ []))) (operand set_word.Union false 22 (core (select 22 (item (column 29 (codes "b")) ∷ []) (from (table 36 (codes "r")) [] ∷ []))) ∷ operand set_word.Union false 44 (core (select 44 (item (column 51 (codes "a")) ∷ item (column 54 (codes "b")) ∷ []) (from (table 61 (codes "r")) [] ∷ []))) ∷ [])) (key 72 (Position (pos 2)) false ∷ key 75 (named_key (codes "a")) false ∷ key 78 (named_key (codes "z")) false ∷ []) None))
    ≡ broken rule.UnfitKind 22 ∷ broken rule.UnfitWidth 44 ∷ broken rule.UnknownColumn 72 ∷ broken rule.UnknownColumn 78 ∷ []
operands = simp (tree_equations, name_breaks) (rw token-given refl)
