-- Worked examples of sublinks that are rewritten by dependent joins, over the tables r(a INTEGER) and s(c INTEGER): the rewriting
-- has the rows of the PROVENANCE of the query, also over a source that isn't a table.
use Rattle.std.specs.Prelude.{◌≡◌, [], ◌∷◌, Some, refl, codes}
use Rattle.null_logic.specs.declared.compare.Compare.TheVariants as compare
use Rattle.perm_values.specs.declared.kind.Kind.TheVariants as kind
use Rattle.perm_values.specs.declared.value.Value.TheVariants.{Null}
use Rattle.bag_algebra.specs.Bags.{Bag}
use Rattle.bag_algebra.specs.ColumnItems.{column_items}
use Rattle.bag_algebra.specs.Outcome.{Good}
use Rattle.bag_algebra.specs.built.Patterns.{BaseOf, FilterOf, IsNullOf, ProjectOf, ProvOf}
use Rattle.bag_algebra.specs.declared.expr.Expr.{Expr}
use Rattle.bag_algebra.specs.declared.expr.Expr.TheBlock.{shape-the_row-Expr-0, hidden-the_row-Expr-0, shape-the_row-Expr-1, hidden-the_row-Expr-1}
use Rattle.bag_algebra.specs.declared.expr.Expr.TheVariants.{Col, Lit, Sub}
use Rattle.bag_algebra.specs.declared.query.Label.TheVariants.{Relation}
use Rattle.bag_algebra.specs.declared.query.Query.{Query, end_of-Sublink}
use Rattle.bag_algebra.specs.declared.query.Query.TheBlock.{shape-the_row-Query-0, hidden-the_row-Query-0, shape-the_row-Sublink-1, hidden-the_row-Sublink-1}
use Rattle.bag_algebra.specs.declared.query.Query.TheVariants.{Filter}
use Rattle.bag_algebra.specs.declared.query.SubKind.TheVariants.{Any}
use Rattle.bag_algebra.specs.declared.query.Sublink.{Sublink}
use Rattle.lateral_rewrite.specs.Dependent.{all_contributed}
use Rattle.worked_examples.specs.Queries.{num, compared, isnt, printed}
use Rattle.worked_examples.specs.RewrittenRows.{table, twice, node, below, exists, three_and_two, rows_below, all_others, rows_alike, scalar, one_and_none}

abbrev rewritten : Expr → Sublink → Query → Query
rewritten condition standing rewriting = all_contributed (Filter (twice 1) condition (standing ∷ [])) (standing ∷ []) (rewriting ∷ [])

-- EXISTS (SELECT c FROM s WHERE c < a): each row that the sublink has under the row
exists-by_join : printed (rewritten (Sub 0) (exists (table 2)) (below (twice 2))) three_and_two ≡ Good rows_below
unfolding shape-the_row-Query-0 hidden-the_row-Query-0 shape-the_row-Sublink-1 hidden-the_row-Sublink-1 shape-the_row-Expr-0 hidden-the_row-Expr-0 shape-the_row-Expr-1 hidden-the_row-Expr-1 package.denote.Hole.Carrier.hidden
exists-by_join = refl

-- NOT a <> ALL (SELECT c FROM s): the rows that make ALL false
false_all-by_join : printed (rewritten (isnt (Sub 0)) (all_others (table 2)) (twice 2)) three_and_two ≡ Good rows_alike
unfolding shape-the_row-Query-0 hidden-the_row-Query-0 shape-the_row-Sublink-1 hidden-the_row-Sublink-1 shape-the_row-Expr-0 hidden-the_row-Expr-0 shape-the_row-Expr-1 hidden-the_row-Expr-1 package.denote.Hole.Carrier.hidden
false_all-by_join = refl

-- (SELECT c FROM s) IS NULL, where s has no row: a row of NULLs
scalar-by_join : printed (rewritten (IsNullOf (Sub 0)) (scalar (table 2)) (twice 2)) one_and_none ≡ Good ((num 1 ∷ num 1 ∷ Null ∷ []) ∷ [])
unfolding shape-the_row-Query-0 hidden-the_row-Query-0 shape-the_row-Sublink-1 hidden-the_row-Sublink-1 shape-the_row-Expr-0 hidden-the_row-Expr-0 shape-the_row-Expr-1 hidden-the_row-Expr-1 package.denote.Hole.Carrier.hidden
scalar-by_join = refl

-- ---- SELECT PROVENANCE a FROM r WHERE a = ANY (SELECT c FROM w), w being SELECT c FROM s WHERE c > 1

abbrev above_one : Query
above_one = FilterOf (table 2) (compared compare.Greater (Col 0 0) (Lit (num 1) kind.Integer)) [] end_of-Sublink

abbrev equal_any : Query → Sublink
equal_any q = record { kind = Any compare.Equal; tested = Some (Col 0 0); query = q }

abbrev rows_equal : Bag
rows_equal = (num 2 ∷ num 2 ∷ num 2 ∷ []) ∷ []

true_any-provenance : printed (ProvOf (node (Sub 0) (equal_any (BaseOf above_one (0 ∷ []) (Relation (codes "w") (codes "c" ∷ [])))))) three_and_two ≡ Good rows_equal
unfolding shape-the_row-Query-0 hidden-the_row-Query-0 shape-the_row-Sublink-1 hidden-the_row-Sublink-1 shape-the_row-Expr-0 hidden-the_row-Expr-0 shape-the_row-Expr-1 hidden-the_row-Expr-1 package.denote.Hole.Carrier.hidden
true_any-provenance = refl

true_any-by_join : printed (rewritten (Sub 0) (equal_any above_one) (ProjectOf above_one (column_items (kind.Integer ∷ []) (0 ∷ 0 ∷ [])) [] end_of-Sublink)) three_and_two ≡ Good rows_equal
unfolding shape-the_row-Query-0 hidden-the_row-Query-0 shape-the_row-Sublink-1 hidden-the_row-Sublink-1 shape-the_row-Expr-0 hidden-the_row-Expr-0 shape-the_row-Expr-1 hidden-the_row-Expr-1 package.denote.Hole.Carrier.hidden
true_any-by_join = refl
