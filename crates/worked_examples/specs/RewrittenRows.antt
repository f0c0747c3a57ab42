-- Worked examples of rewritten sublinks over the tables r(a INTEGER) and s(c INTEGER): the rewriting has the rows of the
-- PROVENANCE of the query.
use Rattle.std.specs.Prelude.{◌≡◌, ℕ, [], ◌∷◌, Some, None, refl, codes}
use Rattle.null_logic.specs.declared.compare.Compare.TheVariants as compare
use Rattle.perm_values.specs.declared.kind.Kind.TheVariants as kind
use Rattle.perm_values.specs.declared.value.Value.TheVariants.{Null}
use Rattle.bag_algebra.specs.Bags.{Bag}
use Rattle.bag_algebra.specs.ColumnItems.{column_items}
use Rattle.bag_algebra.specs.Measures.{height_of, size_of}
use Rattle.bag_algebra.specs.Meaning.{Database}
use Rattle.bag_algebra.specs.Outcome.{Good}
use Rattle.bag_algebra.specs.built.Patterns.{BaseOf, FilterOf, IsNullOf, ProjectOf, ProvOf}
use Rattle.bag_algebra.specs.declared.expr.Expr.{Expr}
use Rattle.bag_algebra.specs.declared.expr.Expr.TheBlock.{shape-the_row-Expr-0, hidden-the_row-Expr-0, shape-the_row-Expr-1, hidden-the_row-Expr-1, shape-the_row-Arm-3, hidden-the_row-Arm-3}
use Rattle.bag_algebra.specs.declared.expr.Expr.TheVariants.{Col, Sub}
use Rattle.bag_algebra.specs.declared.query.Label.TheVariants.{Relation}
use Rattle.bag_algebra.specs.declared.query.Query.{Query, end_of-Sublink}
use Rattle.bag_algebra.specs.declared.query.Query.TheBlock.{shape-the_row-Query-0, hidden-the_row-Query-0, shape-the_row-Sublink-1, hidden-the_row-Sublink-1}
use Rattle.bag_algebra.specs.declared.query.Query.TheVariants.{Filter, Table}
use Rattle.bag_algebra.specs.declared.query.SubKind.TheVariants.{Exists, All, Scalar}
use Rattle.bag_algebra.specs.declared.query.Sublink.{Sublink}
use Rattle.rewrite_sublink.specs.Candidates.{all_contributed}
use Rattle.worked_examples.specs.Queries.{num, holding, compared, isnt, s, printed}

abbrev pub table : ℕ → Query
table id = Table id (kind.Integer ∷ [])

abbrev pub r : Query
r = BaseOf (table 1) (0 ∷ []) (Relation (codes "r") (codes "a" ∷ []))

-- the rewriting of a source: its column, and again as its provenance
abbrev pub twice : ℕ → Query
twice id = ProjectOf (table id) (column_items (kind.Integer ∷ []) (0 ∷ 0 ∷ [])) [] end_of-Sublink

-- a node over r, and its rewriting
abbrev pub node : Expr → Sublink → Query
node condition sub = Filter r condition (sub ∷ [])

abbrev rewritten : Expr → Sublink → Sublink → Query → Query
rewritten condition sub standing rewriting =
    all_contributed (Filter (twice 1) condition (standing ∷ [])) (sub ∷ []) (standing ∷ []) (rewriting ∷ [])

-- ---- SELECT PROVENANCE a FROM r WHERE EXISTS (SELECT c FROM s WHERE c < a): each row that the sublink has

abbrev pub below : Query → Query
below q = FilterOf q (compared compare.Less (Col 0 0) (Col 1 0)) [] end_of-Sublink

abbrev pub exists : Query → Sublink
exists q = record { kind = Exists; tested = None; query = below q }

abbrev pub three_and_two : Database
three_and_two = holding ((num 1 ∷ []) ∷ (num 2 ∷ []) ∷ (num 3 ∷ []) ∷ []) ((num 1 ∷ []) ∷ (num 2 ∷ []) ∷ [])

abbrev pub rows_below : Bag
rows_below = (num 2 ∷ num 2 ∷ num 1 ∷ []) ∷ (num 3 ∷ num 3 ∷ num 1 ∷ []) ∷ (num 3 ∷ num 3 ∷ num 2 ∷ []) ∷ []

exists-provenance : printed (ProvOf (node (Sub 0) (exists s))) three_and_two ≡ Good rows_below
unfolding shape-the_row-Query-0 hidden-the_row-Query-0 shape-the_row-Sublink-1 hidden-the_row-Sublink-1 shape-the_row-Expr-0 hidden-the_row-Expr-0 shape-the_row-Expr-1 hidden-the_row-Expr-1 shape-the_row-Arm-3 hidden-the_row-Arm-3 package.denote.Hole.Carrier.hidden
exists-provenance = refl

abbrev exists_rewritten : Query
exists_rewritten = rewritten (Sub 0) (exists s) (exists (table 2)) (below (twice 2))

exists-rewritten : printed exists_rewritten three_and_two ≡ Good rows_below
unfolding shape-the_row-Query-0 hidden-the_row-Query-0 shape-the_row-Sublink-1 hidden-the_row-Sublink-1 shape-the_row-Expr-0 hidden-the_row-Expr-0 shape-the_row-Expr-1 hidden-the_row-Expr-1 shape-the_row-Arm-3 hidden-the_row-Arm-3 package.denote.Hole.Carrier.hidden
exists-rewritten = refl

-- 1 + w and s + b + r + 5 with an input of w = 2 operators, s = 2, one source, r = 3
exists-size : size_of exists_rewritten ≡ 20
unfolding shape-the_row-Query-0 hidden-the_row-Query-0 shape-the_row-Sublink-1 hidden-the_row-Sublink-1 shape-the_row-Expr-0 hidden-the_row-Expr-0 shape-the_row-Expr-1 hidden-the_row-Expr-1 shape-the_row-Arm-3 hidden-the_row-Arm-3 package.denote.Hole.Carrier.hidden
exists-size = refl

exists-height : height_of exists_rewritten ≡ 6
unfolding shape-the_row-Query-0 hidden-the_row-Query-0 shape-the_row-Sublink-1 hidden-the_row-Sublink-1 shape-the_row-Expr-0 hidden-the_row-Expr-0 shape-the_row-Expr-1 hidden-the_row-Expr-1 shape-the_row-Arm-3 hidden-the_row-Arm-3 package.denote.Hole.Carrier.hidden
exists-height = refl

-- ---- SELECT PROVENANCE a FROM r WHERE NOT a <> ALL (SELECT c FROM s): the rows that make ALL false

abbrev pub all_others : Query → Sublink
all_others q = record { kind = All compare.NotEqual; tested = Some (Col 0 0); query = q }

abbrev pub rows_alike : Bag
rows_alike = (num 1 ∷ num 1 ∷ num 1 ∷ []) ∷ (num 2 ∷ num 2 ∷ num 2 ∷ []) ∷ []

false_all-provenance : printed (ProvOf (node (isnt (Sub 0)) (all_others s))) three_and_two ≡ Good rows_alike
unfolding shape-the_row-Query-0 hidden-the_row-Query-0 shape-the_row-Sublink-1 hidden-the_row-Sublink-1 shape-the_row-Expr-0 hidden-the_row-Expr-0 shape-the_row-Expr-1 hidden-the_row-Expr-1 shape-the_row-Arm-3 hidden-the_row-Arm-3 package.denote.Hole.Carrier.hidden
false_all-provenance = refl

abbrev all_rewritten : Query
all_rewritten = rewritten (isnt (Sub 0)) (all_others s) (all_others (table 2)) (twice 2)

false_all-rewritten : printed all_rewritten three_and_two ≡ Good rows_alike
unfolding shape-the_row-Query-0 hidden-the_row-Query-0 shape-the_row-Sublink-1 hidden-the_row-Sublink-1 shape-the_row-Expr-0 hidden-the_row-Expr-0 shape-the_row-Expr-1 hidden-the_row-Expr-1 shape-the_row-Arm-3 hidden-the_row-Arm-3 package.denote.Hole.Carrier.hidden
false_all-rewritten = refl

-- 1 + w and 2s + b + 2r + 9 with s = 1, r = 2
all-size : size_of all_rewritten ≡ 25
unfolding shape-the_row-Query-0 hidden-the_row-Query-0 shape-the_row-Sublink-1 hidden-the_row-Sublink-1 shape-the_row-Expr-0 hidden-the_row-Expr-0 shape-the_row-Expr-1 hidden-the_row-Expr-1 shape-the_row-Arm-3 hidden-the_row-Arm-3 package.denote.Hole.Carrier.hidden
all-size = refl

all-height : height_of all_rewritten ≡ 6
unfolding shape-the_row-Query-0 hidden-the_row-Query-0 shape-the_row-Sublink-1 hidden-the_row-Sublink-1 shape-the_row-Expr-0 hidden-the_row-Expr-0 shape-the_row-Expr-1 hidden-the_row-Expr-1 shape-the_row-Arm-3 hidden-the_row-Arm-3 package.denote.Hole.Carrier.hidden
all-height = refl

-- ---- SELECT PROVENANCE a FROM r WHERE (SELECT c FROM s) IS NULL, where s has no row: a row of NULLs

abbrev pub scalar : Query → Sublink
scalar q = record { kind = Scalar; tested = None; query = q }

abbrev pub one_and_none : Database
one_and_none = holding ((num 1 ∷ []) ∷ []) []

scalar-provenance : printed (ProvOf (node (IsNullOf (Sub 0)) (scalar s))) one_and_none ≡ Good ((num 1 ∷ num 1 ∷ Null ∷ []) ∷ [])
unfolding shape-the_row-Query-0 hidden-the_row-Query-0 shape-the_row-Sublink-1 hidden-the_row-Sublink-1 shape-the_row-Expr-0 hidden-the_row-Expr-0 shape-the_row-Expr-1 hidden-the_row-Expr-1 shape-the_row-Arm-3 hidden-the_row-Arm-3 package.denote.Hole.Carrier.hidden
scalar-provenance = refl

scalar-rewritten : printed (rewritten (IsNullOf (Sub 0)) (scalar s) (scalar (table 2)) (twice 2)) one_and_none
    ≡ Good ((num 1 ∷ num 1 ∷ Null ∷ []) ∷ [])
unfolding shape-the_row-Query-0 hidden-the_row-Query-0 shape-the_row-Sublink-1 hidden-the_row-Sublink-1 shape-the_row-Expr-0 hidden-the_row-Expr-0 shape-the_row-Expr-1 hidden-the_row-Expr-1 shape-the_row-Arm-3 hidden-the_row-Arm-3 package.denote.Hole.Carrier.hidden
scalar-rewritten = refl
