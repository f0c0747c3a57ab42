-- Worked examples of the definitions: queries over r(a INTEGER, b TEXT) and s(c INTEGER), and the rows that SQL and
-- the contribution semantics give them, in the printed order.
use Rattle.std.specs.Prelude.{◌≡◌, true, false, [], ◌∷◌, Some, None, refl}
use Rattle.null_logic.specs.declared.arith.Arith.TheVariants.{Divide}
use Rattle.null_logic.specs.declared.compare.Compare.TheVariants as compare
use Rattle.null_logic.specs.declared.run_fault.RunFault.TheVariants.{DivideByZero, SeveralRows}
use Rattle.perm_values.specs.declared.kind.Kind.TheVariants as kind
use Rattle.perm_values.specs.declared.value.Value.TheVariants.{Null, Boolean}
use Rattle.bag_algebra.specs.Meaning.{Database}
use Rattle.bag_algebra.specs.Outcome.{Good, Bad, only}
use Rattle.bag_algebra.specs.built.Patterns.{FilterOf, ProjectOf, JoinOf, UnionOf, ExceptOf, AggregateOf, ProvOf}
use Rattle.bag_algebra.specs.declared.expr.Expr.TheVariants.{Sub}
use Rattle.bag_algebra.specs.declared.query.JoinKind.TheVariants.{Inner, Left}
use Rattle.bag_algebra.specs.declared.query.SubKind.TheVariants.{Exists, Any, All, Scalar}
use Rattle.bag_algebra.specs.declared.query.Query.{Query, more_of-Sublink, end_of-Sublink}
use Rattle.bag_algebra.specs.declared.query.Query.TheVariants.{Table, Single}
use Rattle.worked_examples.specs.Queries.{none, one, num, x, y, z, holding, col, number, yes, compared, and_also, reckoned, isnt, r, s, item, named, truth, select, select_a, where_sub, printed, count_rows}

-- SELECT a FROM r, and with PROVENANCE
abbrev twice : Database
twice = holding ((num 1 ∷ x ∷ []) ∷ (num 1 ∷ x ∷ []) ∷ []) []

pub plain-keeps_duplicates : printed (select_a r) twice ≡ Good ((num 1 ∷ []) ∷ (num 1 ∷ []) ∷ [])
plain-keeps_duplicates = refl

pub provenance-once : printed (ProvOf (select_a r)) twice ≡ Good ((num 1 ∷ num 1 ∷ x ∷ []) ∷ [])
provenance-once = refl

-- SELECT PROVENANCE r.a, r.b, s.c FROM r LEFT JOIN s ON r.a = s.c
pub left_join-empty_place :
    printed (ProvOf (select (item (col 0 0) ∷ named (col 0 1) ∷ item (col 0 2) ∷ [])
    (JoinOf Left r s (compared compare.Equal (col 0 0) (col 0 2)) none end_of-Sublink))) (holding ((num 1 ∷ x ∷ []) ∷ []) [])
    ≡ Good ((num 1 ∷ x ∷ Null ∷ num 1 ∷ x ∷ Null ∷ []) ∷ [])
left_join-empty_place = refl

-- SELECT PROVENANCE a FROM r UNION SELECT c FROM s
pub union-pads :
    printed (ProvOf (UnionOf false (select_a r) (select_a s))) (holding ((num 1 ∷ x ∷ []) ∷ []) ((num 1 ∷ []) ∷ []))
    ≡ Good ((num 1 ∷ num 1 ∷ x ∷ Null ∷ []) ∷ (num 1 ∷ Null ∷ Null ∷ num 1 ∷ []) ∷ [])
union-pads = refl

-- SELECT PROVENANCE COUNT(*) FROM s
pub aggregate-over_no_row :
    printed (ProvOf (select_a (AggregateOf s [] (count_rows ∷ [])))) (holding [] []) ≡ Good ((num 0 ∷ Null ∷ []) ∷ [])
aggregate-over_no_row = refl

-- SELECT PROVENANCE c, COUNT(*) FROM s GROUP BY c
pub group-of_nulls :
    printed (ProvOf (select (item (col 0 0) ∷ item (col 0 1) ∷ []) (AggregateOf s (0 ∷ []) (count_rows ∷ []))))
    (holding [] ((Null ∷ []) ∷ (Null ∷ []) ∷ (num 1 ∷ []) ∷ []))
    ≡ Good ((num 1 ∷ num 1 ∷ num 1 ∷ []) ∷ (Null ∷ num 2 ∷ Null ∷ []) ∷ [])
group-of_nulls = refl

-- SELECT PROVENANCE x.c FROM s x, s y
pub self_join-two_places :
    printed (ProvOf (select_a (JoinOf Inner s s yes none end_of-Sublink))) (holding [] ((num 1 ∷ []) ∷ (num 2 ∷ []) ∷ []))
    ≡ Good ((num 1 ∷ num 1 ∷ num 1 ∷ []) ∷ (num 1 ∷ num 1 ∷ num 2 ∷ []) ∷ (num 2 ∷ num 2 ∷ num 1 ∷ []) ∷ (num 2 ∷ num 2 ∷ num 2 ∷ []) ∷ [])
self_join-two_places = refl

abbrev matches : Database
matches = holding ((num 1 ∷ x ∷ []) ∷ (num 2 ∷ y ∷ []) ∷ []) ((num 1 ∷ []) ∷ (Null ∷ []) ∷ [])

-- SELECT a FROM r WHERE a NOT IN (SELECT c FROM s)
pub not_in-beside_null :
    printed (select_a (where_sub (Sub 0) (All compare.NotEqual) (Some (col 0 0)) (select_a s) r)) matches ≡ Good []
not_in-beside_null = refl

-- SELECT PROVENANCE a FROM r WHERE a IN (SELECT c FROM s)
pub in-contributes_the_match :
    printed (ProvOf (select_a (where_sub (Sub 0) (Any compare.Equal) (Some (col 0 0)) (select_a s) r))) matches
    ≡ Good ((num 1 ∷ num 1 ∷ x ∷ num 1 ∷ []) ∷ [])
in-contributes_the_match = refl

-- (SELECT c FROM s WHERE EXISTS (SELECT 1 FROM s y WHERE y.c = s.c AND y.c = r.a))
abbrev nested : Query
nested = select_a (where_sub (Sub 0) Exists None
    (select (item (number 1) ∷ []) (FilterOf s (and_also (compared compare.Equal (col 0 0) (col 1 0)) (compared compare.Equal (col 0 0) (col 2 0))) none end_of-Sublink)) s)

abbrev nest_data : Database
nest_data = holding ((num 1 ∷ x ∷ []) ∷ (num 2 ∷ y ∷ []) ∷ []) ((num 1 ∷ []) ∷ [])

-- SELECT PROVENANCE a FROM r WHERE NOT EXISTS (..), and without the NOT
pub not_exists-nested :
    printed (ProvOf (select_a (where_sub (isnt (Sub 0)) Exists None nested r))) nest_data
    ≡ Good ((num 2 ∷ num 2 ∷ y ∷ Null ∷ Null ∷ []) ∷ [])
not_exists-nested = refl

pub exists-nested :
    printed (ProvOf (select_a (where_sub (Sub 0) Exists None nested r))) nest_data
    ≡ Good ((num 1 ∷ num 1 ∷ x ∷ num 1 ∷ num 1 ∷ []) ∷ [])
exists-nested = refl

-- SELECT PROVENANCE a, a > ALL (SELECT c FROM s) AS f FROM r
pub all-in_the_select_list :
    printed (ProvOf (ProjectOf r (item (col 0 0) ∷ truth (Sub 0) ∷ []) one (more_of-Sublink (All compare.Greater) (Some (col 0 0)) (select_a s) end_of-Sublink)))
    (holding ((num 2 ∷ y ∷ []) ∷ []) ((num 1 ∷ []) ∷ (num 3 ∷ []) ∷ []))
    ≡ Good ((num 2 ∷ Boolean false ∷ num 2 ∷ y ∷ num 3 ∷ []) ∷ [])
all-in_the_select_list = refl

-- SELECT PROVENANCE a FROM r EXCEPT [ALL] SELECT c FROM s
pub except-contributes_what_differs :
    printed (ProvOf (ExceptOf false (select_a r) (select_a s))) (holding ((num 1 ∷ x ∷ []) ∷ (num 2 ∷ y ∷ []) ∷ []) ((num 2 ∷ []) ∷ (num 3 ∷ []) ∷ []))
    ≡ Good ((num 1 ∷ num 1 ∷ x ∷ num 2 ∷ []) ∷ (num 1 ∷ num 1 ∷ x ∷ num 3 ∷ []) ∷ [])
except-contributes_what_differs = refl

pub except_all-without_differing_rows :
    printed (ProvOf (ExceptOf true (select_a r) (select_a s))) (holding ((num 1 ∷ x ∷ []) ∷ (num 1 ∷ z ∷ []) ∷ []) ((num 1 ∷ []) ∷ []))
    ≡ Good ((num 1 ∷ num 1 ∷ x ∷ Null ∷ []) ∷ (num 1 ∷ num 1 ∷ z ∷ Null ∷ []) ∷ [])
except_all-without_differing_rows = refl

-- t(a INTEGER, b INTEGER) with (6, 0): SELECT a FROM t WHERE b <> 0 AND a / b > 1
pub division-is_strict :
    printed (select_a (FilterOf (Table 1 (kind.Integer ∷ kind.Integer ∷ []))
    (and_also (compared compare.NotEqual (col 0 1) (number 0))
    (compared compare.Greater (reckoned Divide (col 0 0) (col 0 1)) (number 1))) none end_of-Sublink))
    (holding ((num 6 ∷ num 0 ∷ []) ∷ []) [])
    ≡ Bad (only DivideByZero)
division-is_strict = refl

-- SELECT (SELECT c FROM s) AS v
pub scalar-of_two_equal_rows :
    printed (ProjectOf Single (item (Sub 0) ∷ []) one (more_of-Sublink Scalar None (select_a s) end_of-Sublink)) (holding [] ((num 1 ∷ []) ∷ (num 1 ∷ []) ∷ []))
    ≡ Bad (only SeveralRows)
scalar-of_two_equal_rows = refl
