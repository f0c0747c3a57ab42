-- Worked examples of sources: one over a query, external attributes, PROVENANCE in PROVENANCE, and two sublinks of one node.
use Rattle.std.specs.Prelude.{◌≡◌, [], ◌∷◌, Some, None, refl, codes}
use Rattle.null_logic.specs.declared.compare.Compare.TheVariants as compare
use Rattle.perm_values.specs.declared.kind.Kind.TheVariants as kind
use Rattle.perm_values.specs.declared.value.Value.{Value}
use Rattle.perm_values.specs.declared.value.Value.TheVariants.{Text}
use Rattle.bag_algebra.specs.Meaning.{Database}
use Rattle.bag_algebra.specs.Outcome.{Good}
use Rattle.bag_algebra.specs.built.Patterns.{IsNullOf, BaseOf, FilterOf, ProvOf}
use Rattle.bag_algebra.specs.declared.expr.Expr.TheVariants.{Sub}
use Rattle.bag_algebra.specs.declared.query.Label.TheVariants.{Relation, External}
use Rattle.bag_algebra.specs.declared.query.SubKind.TheVariants.{Any, All, Scalar}
use Rattle.bag_algebra.specs.declared.query.Query.{Query, more_of-Sublink, end_of-Sublink}
use Rattle.bag_algebra.specs.declared.query.Query.TheVariants.{Table}
use Rattle.worked_examples.specs.Queries.{none, two, num, x, y, holding, col, number, compared, and_also, isnt, r, s, select_a, printed, one_and_two, traced}

-- ---- BASERELATION: the source is the query itself, and nothing inside counts

-- SELECT a FROM r WHERE a > 1
abbrev large : Query
large = select_a (FilterOf r (compared compare.Greater (col 0 0) (number 1)) none end_of-Sublink)

-- SELECT PROVENANCE a FROM v BASERELATION, where v is that query, and without the mark
base-over_a_query : printed (ProvOf (select_a (BaseOf large (0 ∷ []) (Relation (codes "v") (codes "a" ∷ []))))) one_and_two
    ≡ Good ((num 2 ∷ num 2 ∷ []) ∷ [])
base-over_a_query = refl

query-without_mark : printed (ProvOf (select_a large)) one_and_two ≡ Good ((num 2 ∷ num 2 ∷ y ∷ []) ∷ [])
query-without_mark = refl

-- ---- PROVENANCE (..): the source has the columns that are named

abbrev k1 : Value
k1 = Text (codes "k1")

abbrev k2 : Value
k2 = Text (codes "k2")

-- SELECT PROVENANCE v FROM e PROVENANCE (src) WHERE v > 5, of e(v INTEGER, src TEXT)
external-attributes :
    printed (ProvOf (select_a (FilterOf (BaseOf (Table 1 (kind.Integer ∷ kind.Text ∷ [])) (1 ∷ []) (External (codes "src" ∷ [])))
    (compared compare.Greater (col 0 0) (number 5)) none end_of-Sublink)))
    (holding ((num 5 ∷ k1 ∷ []) ∷ (num 6 ∷ k2 ∷ []) ∷ []) [])
    ≡ Good ((num 6 ∷ k2 ∷ []) ∷ [])
external-attributes = refl

-- ---- PROVENANCE in PROVENANCE

abbrev single : Database
single = holding ((num 1 ∷ x ∷ []) ∷ []) []

-- SELECT PROVENANCE a FROM (SELECT PROVENANCE a FROM r) x: the inner provenance columns are the source
nested-provenance : printed (ProvOf (select_a (BaseOf traced (1 ∷ 2 ∷ []) (External (codes "prov_r_a" ∷ codes "prov_r_b" ∷ []))))) single
    ≡ Good ((num 1 ∷ num 1 ∷ x ∷ []) ∷ [])
nested-provenance = refl

-- with BASERELATION all its columns are
nested-base : printed (ProvOf (select_a (BaseOf traced (0 ∷ 1 ∷ 2 ∷ []) (Relation (codes "x") (codes "a" ∷ codes "prov_r_a" ∷ codes "prov_r_b" ∷ []))))) single
    ≡ Good ((num 1 ∷ num 1 ∷ num 1 ∷ x ∷ []) ∷ [])
nested-base = refl

-- ---- sublinks of one node, each beside the others

-- SELECT PROVENANCE a FROM r WHERE a IN (SELECT c FROM s) AND a >= ALL (SELECT c FROM s): the match of the one, and all
-- rows of the other
two-sublinks :
    printed (ProvOf (select_a (FilterOf r (and_also (Sub 0) (Sub 1)) two
    (more_of-Sublink (Any compare.Equal) (Some (col 0 0)) (select_a s)
    (more_of-Sublink (All compare.GreaterEqual) (Some (col 0 0)) (select_a s) end_of-Sublink))))) one_and_two
    ≡ Good ((num 2 ∷ num 2 ∷ y ∷ num 2 ∷ num 1 ∷ []) ∷ (num 2 ∷ num 2 ∷ y ∷ num 2 ∷ num 2 ∷ []) ∷ [])
two-sublinks = refl

-- over no row: SELECT a FROM r WHERE a > ALL (SELECT c FROM s) AND NOT a = ANY (SELECT c FROM s) AND (SELECT c FROM s) IS NULL
quantifiers-over_no_row :
    printed (select_a (FilterOf r (and_also (Sub 0) (and_also (isnt (Sub 1)) (IsNullOf (Sub 2)))) (tt ∷ tt ∷ tt ∷ [])
    (more_of-Sublink (All compare.Greater) (Some (col 0 0)) (select_a s)
    (more_of-Sublink (Any compare.Equal) (Some (col 0 0)) (select_a s)
    (more_of-Sublink Scalar None (select_a s) end_of-Sublink))))) single
    ≡ Good ((num 1 ∷ []) ∷ [])
quantifiers-over_no_row = refl
