-- IMPACT, worked out.
use Rattle.std.proofs.Common.{◌≡◌, ℕ, true, false, [], ◌∷◌, Option, Some, None, codes}
use Rattle.std.specs.Fmt.{digits}
use Rattle.null_logic.specs.declared.arith.Arith.TheVariants.{Divide}
use Rattle.null_logic.specs.declared.compare.Compare.TheVariants.{Greater, Equal}
use Rattle.perm_values.specs.declared.kind.Kind.TheVariants as kind
use Rattle.perm_values.specs.declared.value.Value.TheVariants.{Null}
use Rattle.bag_algebra.specs.Bags.{Bag}
use Rattle.bag_algebra.specs.built.Patterns.{IsNullOf}
use Rattle.bag_algebra.specs.declared.expr.Expr.{Expr}
use Rattle.bag_algebra.specs.declared.query.Query.{Query}
use Rattle.name_meaning.specs.declared.answer.Resolved.TheVariants as r
use Rattle.statement_meaning.specs.Asking.{Settled, asks}
use Rattle.statement_meaning.specs.Turns.{Accepted, Refused, Meets}
use Rattle.worked_examples.specs.Queries.{num as whole, number, compared, reckoned, r as source_r, built as item, select, united}
use Rattle.worked_examples.specs.HeldRows.{answering, column, holding, impacted, word}

abbrev rows : Bag
rows = (whole 1 ∷ word (codes "x") ∷ []) ∷ (whole 2 ∷ word (codes "x") ∷ []) ∷ (whole 3 ∷ word (codes "z") ∷ []) ∷ []

-- a > n
abbrev above : ℕ → Option Expr
above n = Some (compared Greater (column 0) (number n))

-- SELECT b FROM r
abbrev select_b : Query
select_b = select (item kind.Text (column 1) ∷ []) source_r

-- x stays, since one of its rows does: IMPACT DELETE FROM r WHERE a > 1 OF SELECT b FROM r
pub one_stays :
    asks (holding rows []) 0 (r.Impact (codes "r") (above 1) (answering select_b (codes "b" ∷ []) []))
    ≡ Settled (Accepted (codes "\"b\"\n\"z\"\n(1 rows)\n") (holding rows []))
unfolding digits
one_stays = impacted rows [] 0 (codes "r") (above 1) (answering select_b (codes "b" ∷ []) [])

-- each once, and all rows are still there: IMPACT DELETE FROM r WHERE a > 0 OF SELECT b FROM r
pub each_once :
    asks (holding rows []) 0 (r.Impact (codes "r") (above 0) (answering select_b (codes "b" ∷ []) []))
    ≡ Settled (Accepted (codes "\"b\"\n\"x\"\n\"z\"\n(2 rows)\n") (holding rows []))
unfolding digits
each_once = impacted rows [] 0 (codes "r") (above 0) (answering select_b (codes "b" ∷ []) [])

-- another table has the row of NULL too: IMPACT DELETE FROM s WHERE c IS NULL OF SELECT c FROM s UNION SELECT a FROM r
pub nulls_stay :
    asks (holding ((Null ∷ word (codes "x") ∷ []) ∷ []) ((Null ∷ []) ∷ (whole 1 ∷ []) ∷ [])) 0
    (r.Impact (codes "s") (Some (IsNullOf (column 0))) (answering united (codes "c" ∷ []) []))
    ≡ Settled (Accepted (codes "\"c\"\n(0 rows)\n") (holding ((Null ∷ word (codes "x") ∷ []) ∷ []) ((Null ∷ []) ∷ (whole 1 ∷ []) ∷ [])))
unfolding digits
nulls_stay =
    impacted ((Null ∷ word (codes "x") ∷ []) ∷ []) ((Null ∷ []) ∷ (whole 1 ∷ []) ∷ []) 0 (codes "s") (Some (IsNullOf (column 0))) (answering united (codes "c" ∷ []) [])

-- without a condition all rows go: IMPACT DELETE FROM s OF SELECT c FROM s UNION SELECT a FROM r
pub all_go :
    asks (holding ((whole 2 ∷ Null ∷ []) ∷ []) ((whole 2 ∷ []) ∷ (whole 1 ∷ []) ∷ [])) 0 (r.Impact (codes "s") None (answering united (codes "c" ∷ []) []))
    ≡ Settled (Accepted (codes "\"c\"\n1\n(1 rows)\n") (holding ((whole 2 ∷ Null ∷ []) ∷ []) ((whole 2 ∷ []) ∷ (whole 1 ∷ []) ∷ [])))
unfolding digits
all_go = impacted ((whole 2 ∷ Null ∷ []) ∷ []) ((whole 2 ∷ []) ∷ (whole 1 ∷ []) ∷ []) 0 (codes "s") None (answering united (codes "c" ∷ []) [])

-- the condition is looked at on each row of a table that is read: IMPACT DELETE FROM s WHERE 1 / c = 1 OF SELECT c FROM s UNION SELECT a FROM r
pub condition_faults :
    asks (holding [] ((whole 1 ∷ []) ∷ (whole 0 ∷ []) ∷ [])) 5
    (r.Impact (codes "s") (Some (compared Equal (reckoned Divide (number 1) (column 0)) (number 1))) (answering united (codes "c" ∷ []) []))
    ≡ Settled (Refused (Meets (record { divides = true; range = false; several = false }) 5))
condition_faults =
    impacted [] ((whole 1 ∷ []) ∷ (whole 0 ∷ []) ∷ []) 5 (codes "s") (Some (compared Equal (reckoned Divide (number 1) (column 0)) (number 1))) (answering united (codes "c" ∷ []) [])

-- and on none of one that isn't: IMPACT DELETE FROM s WHERE 1 / c = 1 OF SELECT b FROM r
pub unread_condition :
    asks (holding rows ((whole 0 ∷ []) ∷ [])) 5
    (r.Impact (codes "s") (Some (compared Equal (reckoned Divide (number 1) (column 0)) (number 1))) (answering select_b (codes "b" ∷ []) []))
    ≡ Settled (Accepted (codes "\"b\"\n(0 rows)\n") (holding rows ((whole 0 ∷ []) ∷ [])))
unfolding digits
unread_condition =
    impacted rows ((whole 0 ∷ []) ∷ []) 5 (codes "s") (Some (compared Equal (reckoned Divide (number 1) (column 0)) (number 1))) (answering select_b (codes "b" ∷ []) [])
