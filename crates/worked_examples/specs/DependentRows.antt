-- Worked examples of dependent joins, of sublinks in the condition of a RIGHT join, and of a source inside a sublink that
-- isn't a table.
use Rattle.std.specs.Prelude.{◌≡◌, [], ◌∷◌, Some, None, refl, codes}
use Rattle.null_logic.specs.declared.arith.Arith.TheVariants.{Divide}
use Rattle.null_logic.specs.declared.compare.Compare.TheVariants as compare
use Rattle.null_logic.specs.declared.run_fault.RunFault.TheVariants.{DivideByZero}
use Rattle.perm_values.specs.declared.kind.Kind.TheVariants as kind
use Rattle.perm_values.specs.declared.value.Value.TheVariants.{Null}
use Rattle.bag_algebra.specs.Meaning.{witnesses}
use Rattle.bag_algebra.specs.Means.{Held, Empty}
use Rattle.bag_algebra.specs.Outcome.{Good, Bad, only}
use Rattle.bag_algebra.specs.built.Patterns.{AggregateOf, ApplyOf, BaseOf, FilterOf, JoinOf, ProvOf}
use Rattle.bag_algebra.specs.declared.expr.Expr.TheVariants.{Sub}
use Rattle.bag_algebra.specs.declared.query.AggFn.TheVariants.{Max}
use Rattle.bag_algebra.specs.declared.query.JoinKind.{JoinKind}
use Rattle.bag_algebra.specs.declared.query.JoinKind.TheVariants.{Inner, Left, Right}
use Rattle.bag_algebra.specs.declared.query.Label.TheVariants.{Relation}
use Rattle.bag_algebra.specs.declared.query.Query.{Query, more_of-Sublink, end_of-Sublink}
use Rattle.bag_algebra.specs.declared.query.SubKind.TheVariants.{Any, Exists}
use Rattle.worked_examples.specs.Queries.{none, one, num, x, y, holding, col, number, compared, reckoned, and_also, r, s, item, select, select_a, where_sub, printed, one_and_two, same, two_alone}

-- ---- dependent joins

-- SELECT MAX(c) FROM s WHERE s.c <= r.a
abbrev greatest : Query
greatest = AggregateOf (FilterOf s (compared compare.LessEqual (col 0 0) (col 1 0)) none end_of-Sublink) []
    (record { function = Max; argument = Some (col 0 0); kind = kind.Integer } ∷ [])

-- SELECT PROVENANCE r.a, x.m FROM r CROSS JOIN LATERAL (..) x: each row of s that the right side looked at contributes
greatest-of_each : printed (ProvOf (select (item (col 0 0) ∷ item (col 0 2) ∷ []) (ApplyOf Inner r greatest))) one_and_two
    ≡ Good ((num 1 ∷ num 1 ∷ num 1 ∷ x ∷ num 1 ∷ []) ∷ (num 2 ∷ num 2 ∷ num 2 ∷ y ∷ num 1 ∷ []) ∷ (num 2 ∷ num 2 ∷ num 2 ∷ y ∷ num 2 ∷ []) ∷ [])
greatest-of_each = refl

abbrev with_same : JoinKind → Query
with_same kind = ApplyOf kind r same

-- counts multiply; what is equal to nothing, NULL among it, has no partner
inner-counts : printed (with_same Inner) two_alone
    ≡ Good ((num 2 ∷ y ∷ num 2 ∷ []) ∷ (num 2 ∷ y ∷ num 2 ∷ []) ∷ (num 2 ∷ y ∷ num 2 ∷ []) ∷ (num 2 ∷ y ∷ num 2 ∷ []) ∷ [])
inner-counts = refl

-- a left row whose right side is empty stands beside NULLs
left-keeps : printed (with_same Left) (holding ((num 1 ∷ x ∷ []) ∷ (Null ∷ y ∷ []) ∷ []) ((Null ∷ []) ∷ []))
    ≡ Good ((num 1 ∷ x ∷ Null ∷ []) ∷ (Null ∷ y ∷ Null ∷ []) ∷ [])
left-keeps = refl

-- its list has nothing at the right places; a row of the right side that is NULL itself is no empty right side
left-lists : witnesses (with_same Left) two_alone [] (num 1 ∷ x ∷ Null ∷ []) ≡ (Held (num 1 ∷ x ∷ []) ∷ Empty 1 ∷ []) ∷ []
left-lists = refl

null-is_a_row : witnesses (ApplyOf Left r s) (holding ((num 1 ∷ x ∷ []) ∷ []) ((Null ∷ []) ∷ [])) [] (num 1 ∷ x ∷ Null ∷ [])
    ≡ (Held (num 1 ∷ x ∷ []) ∷ Held (Null ∷ []) ∷ []) ∷ []
null-is_a_row = refl

-- 1 / 0 FROM s: the right side is looked at under each left row, and under none where there is none
abbrev dividing : Query
dividing = select (item (reckoned Divide (number 1) (number 0)) ∷ []) s

fault-under_a_row : printed (ApplyOf Left r dividing) one_and_two ≡ Bad (only DivideByZero)
fault-under_a_row = refl

no-row_no_fault : printed (ApplyOf Left r dividing) (holding [] ((num 1 ∷ []) ∷ [])) ≡ Good []
no-row_no_fault = refl

-- ---- sublinks in ON

-- SELECT PROVENANCE r.a, s.c FROM r RIGHT JOIN s ON r.a = s.c AND s.c IN (SELECT z.c FROM s z): a right row that met none has
-- nothing at the places of r and of the sublink
in-in_right_join : printed (ProvOf (select (item (col 0 0) ∷ item (col 0 2) ∷ [])
    (JoinOf Right r s (and_also (compared compare.Equal (col 0 0) (col 0 2)) (Sub 0)) one
    (more_of-Sublink (Any compare.Equal) (Some (col 0 2)) s end_of-Sublink))))
    (holding ((num 1 ∷ x ∷ []) ∷ []) ((num 1 ∷ []) ∷ (num 3 ∷ []) ∷ []))
    ≡ Good ((num 1 ∷ num 1 ∷ num 1 ∷ x ∷ num 1 ∷ num 1 ∷ []) ∷ (Null ∷ num 3 ∷ Null ∷ Null ∷ num 3 ∷ Null ∷ []) ∷ [])
in-in_right_join = refl

-- ---- a source that isn't a table, inside a sublink

-- w: SELECT c FROM s WHERE c > 1
abbrev w : Query
w = BaseOf (select_a (FilterOf s (compared compare.Greater (col 0 0) (number 1)) none end_of-Sublink)) (0 ∷ []) (Relation (codes "w") (codes "c" ∷ []))

-- SELECT PROVENANCE a FROM r WHERE EXISTS (SELECT 1 FROM w BASERELATION WHERE w.c = r.a)
view-in_exists : printed (ProvOf (select_a (where_sub (Sub 0) Exists None
    (select (item (number 1) ∷ []) (FilterOf w (compared compare.Equal (col 0 0) (col 1 0)) none end_of-Sublink)) r)))
    (holding ((num 1 ∷ x ∷ []) ∷ (num 2 ∷ y ∷ []) ∷ []) ((num 1 ∷ []) ∷ (num 2 ∷ []) ∷ (num 2 ∷ []) ∷ []))
    ≡ Good ((num 2 ∷ num 2 ∷ y ∷ num 2 ∷ []) ∷ [])
view-in_exists = refl
