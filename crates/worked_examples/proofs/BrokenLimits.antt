-- Worked examples of the limits on columns and on size, which come last.
use Rattle.std.specs.Prelude.{◌≡◌, ℕ, cond, List, [], ◌∷◌, map, Some, codes}
use Rattle.std.proofs.Common.{refl}
use Rattle.std.specs.List.{range_with_len}
use Rattle.perm_values.specs.declared.kind.Kind.TheVariants as kind
use Rattle.bag_algebra.specs.declared.query.Query.TheBlock.{shape-the_row-Query-0, hidden-the_row-Query-0, shape-the_row-Sublink-1, hidden-the_row-Sublink-1}
use Rattle.sql_tree.specs.declared.query.QueryTree.{QueryTree}
use Rattle.name_meaning.specs.Meanings.{QueryMeant, broken, is_whole}
use Rattle.name_meaning.specs.declared.answer.Break.{Break}
use Rattle.name_meaning.specs.Statements.{breaks, query_limits, query_meant}
use Rattle.name_meaning.proofs.Equations.{tree_equations, token-given}
use Rattle.worked_examples.specs.NamedCatalog.{contents}
use Rattle.worked_examples.specs.NamedTrees.{name, expr, column, number, reads, table, from, item, select, core, query, defined, statement}
use Rattle.sql_tree.specs.declared.expression.ExprBody.TheVariants as e
use Rattle.sql_tree.specs.declared.query.SelectItem.TheVariants as i
use Rattle.sql_tree.specs.declared.source.FromSource.TheVariants as source
use Rattle.sql_tree.specs.declared.source.ScopeMark.TheVariants as mark
use Rattle.sql_tree.specs.declared.statement.StatementBody.TheVariants as st
use Rattle.name_meaning.specs.declared.rule.Rule.TheVariants as rule

-- the breaks of a query that is a statement, by what it means
abbrev whole_breaks : ℕ → QueryMeant → List Break
whole_breaks at m = cond (is_whole m.breaks) (query_limits at m) m.breaks

of-select : (tree : QueryTree) → breaks contents (statement (st.Select tree)) ≡ whole_breaks tree.at (query_meant contents tree)
of-select tree = refl

-- 1,280 columns, at the inner query, which is the first that has too many: SELECT 1 FROM (SELECT *, *, *, *, * FROM wide) x
pub columns_of_query :
    breaks contents (statement (st.Select (query 0 (core (select 0 (item (number 7 1) ∷ []) (from (reads 14 (source.Inner (query 15 (core (select 15 (i.Star 22 ∷ i.Star 25 ∷ i.Star 28 ∷ i.Star 31 ∷ i.Star 34 ∷ []) (from (table 41 (codes "wide")) [] ∷ []))))) (Some (name 47 (codes "x"))) mark.Plain) [] ∷ []))))))
    ≡ broken rule.TooManyColumns 15 ∷ []
unfolding shape-the_row-Query-0 hidden-the_row-Query-0 shape-the_row-Sublink-1 hidden-the_row-Sublink-1 package.denote.Hole.Carrier.hidden
columns_of_query = rw of-select (simp tree_equations (rw token-given refl))

-- of two queries the first in the text: SELECT *, *, *, *, * FROM wide WHERE EXISTS (SELECT *, *, *, *, * FROM wide)
pub columns_of_whole :
    breaks contents (statement (st.Select (query 0 (core (record (select 0 (i.Star 7 ∷ i.Star 10 ∷ i.Star 13 ∷ i.Star 16 ∷ i.Star 19 ∷ []) (from (table 26 (codes "wide")) [] ∷ [])) { condition = Some (expr 37 (e.Exists (query 45 (core (select 45 (i.Star 52 ∷ i.Star 55 ∷ i.Star 58 ∷ i.Star 61 ∷ i.Star 64 ∷ []) (from (table 71 (codes "wide")) [] ∷ [])))))) })))))
    ≡ broken rule.TooManyColumns 0 ∷ []
unfolding shape-the_row-Query-0 hidden-the_row-Query-0 shape-the_row-Sublink-1 hidden-the_row-Sublink-1 package.denote.Hole.Carrier.hidden
columns_of_whole = rw of-select (simp tree_equations (rw token-given refl))

-- not looked at where a name breaks a rule: SELECT *, *, *, *, *, nosuch FROM wide
pub names_before_limits :
    breaks contents (statement (st.Select (query 0 (core (select 0 (i.Star 7 ∷ i.Star 10 ∷ i.Star 13 ∷ i.Star 16 ∷ i.Star 19 ∷ item (column 22 (codes "nosuch")) ∷ []) (from (table 34 (codes "wide")) [] ∷ []))))))
    ≡ broken rule.UnknownColumn 22 ∷ []
unfolding shape-the_row-Query-0 hidden-the_row-Query-0 shape-the_row-Sublink-1 hidden-the_row-Sublink-1 package.denote.Hole.Carrier.hidden
names_before_limits = rw of-select (simp tree_equations (rw token-given refl))

-- a view that is 256 high, and the list above it: SELECT 1 FROM high
pub too_high :
    breaks contents (statement (st.Select (query 0 (core (select 0 (item (number 7 1) ∷ []) (from (table 14 (codes "high")) [] ∷ []))))))
    ≡ broken rule.TooLarge 0 ∷ []
unfolding shape-the_row-Query-0 hidden-the_row-Query-0 shape-the_row-Sublink-1 hidden-the_row-Sublink-1 package.denote.Hole.Carrier.hidden
too_high = rw of-select (simp tree_equations (rw token-given refl))

-- a view that is 255 high: SELECT 1 FROM lower
pub high_enough :
    breaks contents (statement (st.Select (query 0 (core (select 0 (item (number 7 1) ∷ []) (from (table 14 (codes "lower")) [] ∷ []))))))
    ≡ []
unfolding shape-the_row-Query-0 hidden-the_row-Query-0 shape-the_row-Sublink-1 hidden-the_row-Sublink-1 package.denote.Hole.Carrier.hidden
high_enough = rw of-select (simp tree_equations (rw token-given refl))

-- 257 columns, at the name of the table: CREATE TABLE q (.. INTEGER, .. INTEGER, ..)
pub columns_of_table :
    breaks contents (statement (st.CreateTable (name 13 (codes "q")) (map (λ number. defined (name 16 (number ∷ [])) kind.Integer) (range_with_len 0 257))))
    ≡ broken rule.TooManyColumns 13 ∷ []
columns_of_table = refl
