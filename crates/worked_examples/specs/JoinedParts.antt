-- Worked examples of joins with sublinks in ON over the tables r(a INTEGER, b TEXT) and s(c INTEGER), rewritten by parts: the
-- rewriting has the rows of the PROVENANCE of the join.
use Rattle.std.specs.Prelude.{◌≡◌, [], ◌∷◌, Some, refl}
use Rattle.null_logic.specs.declared.compare.Compare.TheVariants as compare
use Rattle.perm_values.specs.declared.kind.Kind.TheVariants as kind
use Rattle.perm_values.specs.declared.value.Value.TheVariants.{Null}
use Rattle.bag_algebra.specs.Bags.{Bag}
use Rattle.bag_algebra.specs.ColumnItems.{column_items}
use Rattle.bag_algebra.specs.Meaning.{Database}
use Rattle.bag_algebra.specs.Outcome.{Good}
use Rattle.bag_algebra.specs.built.Patterns.{JoinOf, ProjectOf, ProvOf}
use Rattle.bag_algebra.specs.declared.expr.Expr.{Expr}
use Rattle.bag_algebra.specs.declared.expr.Expr.TheBlock.{shape-the_row-Expr-0, hidden-the_row-Expr-0, shape-the_row-Expr-1, hidden-the_row-Expr-1, shape-the_row-Arm-3, hidden-the_row-Arm-3}
use Rattle.bag_algebra.specs.declared.expr.Expr.TheVariants.{Sub}
use Rattle.bag_algebra.specs.declared.query.JoinKind.{JoinKind}
use Rattle.bag_algebra.specs.declared.query.JoinKind.TheVariants.{Inner, Left, Right, Full}
use Rattle.bag_algebra.specs.declared.query.Query.{Query, end_of-Sublink}
use Rattle.bag_algebra.specs.declared.query.Query.TheBlock.{shape-the_row-Query-0, hidden-the_row-Query-0, shape-the_row-Sublink-1, hidden-the_row-Sublink-1}
use Rattle.bag_algebra.specs.declared.query.Query.TheVariants.{Filter, Join, Table}
use Rattle.bag_algebra.specs.declared.query.SubKind.TheVariants.{Any}
use Rattle.bag_algebra.specs.declared.query.Sublink.{Sublink}
use Rattle.contribution.specs.Conjunctions.{always}
use Rattle.rewrite_sublink.specs.joins.ByParts.{by_parts}
use Rattle.rewrite_sublink.specs.Candidates.{all_contributed}
use Rattle.worked_examples.specs.Queries.{none, num, x, y, holding, col, compared, and_also, r, s, printed, int_and_text, one_and_two}
use Rattle.worked_examples.specs.RewrittenRows.{below, exists, table, twice}

abbrev s_table : Query
s_table = table 2

-- rewritings of the sources: their columns, and again as their provenance
abbrev r_twice : Query
r_twice = ProjectOf (Table 1 int_and_text) (column_items int_and_text (0 ∷ 1 ∷ 0 ∷ 1 ∷ [])) none end_of-Sublink

abbrev s_twice : Query
s_twice = twice 2

-- all pairs: a, b, c, and then the provenance of r and that of s
abbrev crossed : Query
crossed =
    ProjectOf (JoinOf Inner r_twice s_twice always none end_of-Sublink)
    (column_items (kind.Integer ∷ kind.Text ∷ kind.Integer ∷ kind.Text ∷ kind.Integer ∷ kind.Integer ∷ []) (0 ∷ 1 ∷ 4 ∷ 2 ∷ 3 ∷ 5 ∷ [])) none end_of-Sublink

-- r JOIN s ON r.a = s.c AND the sublink
abbrev on : Expr
on = and_also (compared compare.Equal (col 0 0) (col 0 2)) (Sub 0)

abbrev node : JoinKind → Sublink → Query
node kind sub = Join kind r s on (sub ∷ [])

-- the pairs by candidates, and the join by parts
abbrev rewritten : JoinKind → Sublink → Sublink → Query → Query
rewritten kind sub standing rewriting =
    by_parts kind r r_twice s s_twice (all_contributed (Filter crossed on (standing ∷ [])) (sub ∷ []) (standing ∷ []) (rewriting ∷ []))

-- ---- r LEFT JOIN s ON r.a = s.c AND EXISTS (SELECT c FROM s z WHERE z.c < r.a)

-- the pair of 1 and 1 meets the equation and not the sublink, so its left row stands alone
abbrev rows_of_left : Bag
rows_of_left =
    (num 1 ∷ x ∷ Null ∷ num 1 ∷ x ∷ Null ∷ Null ∷ [])
    ∷ (num 2 ∷ y ∷ num 2 ∷ num 2 ∷ y ∷ num 2 ∷ num 1 ∷ [])
    ∷ []

exists-in_left_join : printed (ProvOf (node Left (exists s))) one_and_two ≡ Good rows_of_left
unfolding shape-the_row-Query-0 hidden-the_row-Query-0 shape-the_row-Sublink-1 hidden-the_row-Sublink-1 shape-the_row-Expr-0 hidden-the_row-Expr-0 shape-the_row-Expr-1 hidden-the_row-Expr-1 shape-the_row-Arm-3 hidden-the_row-Arm-3 package.denote.Hole.Carrier.hidden
exists-in_left_join = refl

exists-in_left_join-rewritten : printed (rewritten Left (exists s) (exists s_table) (below s_twice)) one_and_two ≡ Good rows_of_left
unfolding shape-the_row-Query-0 hidden-the_row-Query-0 shape-the_row-Sublink-1 hidden-the_row-Sublink-1 shape-the_row-Expr-0 hidden-the_row-Expr-0 shape-the_row-Expr-1 hidden-the_row-Expr-1 shape-the_row-Arm-3 hidden-the_row-Arm-3 package.denote.Hole.Carrier.hidden
exists-in_left_join-rewritten = refl

-- ---- r RIGHT JOIN s ON r.a = s.c AND s.c IN (SELECT z.c FROM s z)

abbrev is_among : Query → Sublink
is_among q = record { kind = Any compare.Equal; tested = Some (col 0 2); query = q }

abbrev one_and_three : Database
one_and_three = holding ((num 1 ∷ x ∷ []) ∷ []) ((num 1 ∷ []) ∷ (num 3 ∷ []) ∷ [])

-- a right row that stands in no pair has nothing at the places of r and of the sublink
abbrev rows_of_right : Bag
rows_of_right =
    (num 1 ∷ x ∷ num 1 ∷ num 1 ∷ x ∷ num 1 ∷ num 1 ∷ [])
    ∷ (Null ∷ Null ∷ num 3 ∷ Null ∷ Null ∷ num 3 ∷ Null ∷ [])
    ∷ []

in-in_right_join : printed (ProvOf (node Right (is_among s))) one_and_three ≡ Good rows_of_right
unfolding shape-the_row-Query-0 hidden-the_row-Query-0 shape-the_row-Sublink-1 hidden-the_row-Sublink-1 shape-the_row-Expr-0 hidden-the_row-Expr-0 shape-the_row-Expr-1 hidden-the_row-Expr-1 shape-the_row-Arm-3 hidden-the_row-Arm-3 package.denote.Hole.Carrier.hidden
in-in_right_join = refl

in-in_right_join-rewritten : printed (rewritten Right (is_among s) (is_among s_table) s_twice) one_and_three ≡ Good rows_of_right
unfolding shape-the_row-Query-0 hidden-the_row-Query-0 shape-the_row-Sublink-1 hidden-the_row-Sublink-1 shape-the_row-Expr-0 hidden-the_row-Expr-0 shape-the_row-Expr-1 hidden-the_row-Expr-1 shape-the_row-Arm-3 hidden-the_row-Arm-3 package.denote.Hole.Carrier.hidden
in-in_right_join-rewritten = refl

-- ---- r FULL JOIN s ON r.a = s.c AND EXISTS (SELECT c FROM s z WHERE z.c < r.a), where left rows are equal

abbrev equal_rows : Database
equal_rows = holding ((num 1 ∷ x ∷ []) ∷ (num 1 ∷ x ∷ []) ∷ (num 2 ∷ y ∷ []) ∷ []) ((num 1 ∷ []) ∷ (num 2 ∷ []) ∷ [])

-- equal rows stand alone together; of the right rows the one that only the sublink keeps from its pair does too
abbrev rows_of_full : Bag
rows_of_full =
    (num 1 ∷ x ∷ Null ∷ num 1 ∷ x ∷ Null ∷ Null ∷ [])
    ∷ (num 2 ∷ y ∷ num 2 ∷ num 2 ∷ y ∷ num 2 ∷ num 1 ∷ [])
    ∷ (Null ∷ Null ∷ num 1 ∷ Null ∷ Null ∷ num 1 ∷ Null ∷ [])
    ∷ []

exists-in_full_join : printed (ProvOf (node Full (exists s))) equal_rows ≡ Good rows_of_full
unfolding shape-the_row-Query-0 hidden-the_row-Query-0 shape-the_row-Sublink-1 hidden-the_row-Sublink-1 shape-the_row-Expr-0 hidden-the_row-Expr-0 shape-the_row-Expr-1 hidden-the_row-Expr-1 shape-the_row-Arm-3 hidden-the_row-Arm-3 package.denote.Hole.Carrier.hidden
exists-in_full_join = refl

exists-in_full_join-rewritten : printed (rewritten Full (exists s) (exists s_table) (below s_twice)) equal_rows ≡ Good rows_of_full
unfolding shape-the_row-Query-0 hidden-the_row-Query-0 shape-the_row-Sublink-1 hidden-the_row-Sublink-1 shape-the_row-Expr-0 hidden-the_row-Expr-0 shape-the_row-Expr-1 hidden-the_row-Expr-1 shape-the_row-Arm-3 hidden-the_row-Arm-3 package.denote.Hole.Carrier.hidden
exists-in_full_join-rewritten = refl
