-- The rows that a DELETE leaves are those that it doesn't flag.
use Rattle.std.proofs.Common.{◌≡◌, Bool, true, false, not, List, [], ◌∷◌, Option, filter, refl, ap, subst}
use Rattle.perm_values.specs.Marked.{unmarked}
use Rattle.bag_algebra.proofs.Outcomes.{both-is, same_good}
use Rattle.bag_algebra.specs.Bags.{Row, Bag}
use Rattle.bag_algebra.specs.Outcome.{Outcome, Good, each}
use Rattle.bag_algebra.specs.declared.expr.Expr.{Expr}
use Rattle.delete_impact.specs.vanishing.Doomed.{doomed_on}
use Rattle.statement_meaning.specs.laws.Kept.{is_certain, rows_left}

one_more : (f : Row → Outcome Bool) (row : Row) (rows : Bag) (flag : Bool) (flags : List Bool) → f row ≡ Good flag
    → unmarked flags rows ≡ filter (λ (r : Row). not (is_certain (f r))) rows
    → unmarked (flag ∷ flags) (row ∷ rows) ≡ filter (λ (r : Row). not (is_certain (f r))) (row ∷ rows)
one_more f row rows true flags good others = rw good others
one_more f row rows false flags good others = rw good (ap (λ (left : Bag). row ∷ left) others)

left-by : (f : Row → Outcome Bool) (rows : Bag) (flags : List Bool) → each f rows ≡ Good flags
    → unmarked flags rows ≡ filter (λ (r : Row). not (is_certain (f r))) rows
left-by f [] flags e =
    let none : [] ≡ flags = same_good [] flags e in
    subst (λ (fs : List Bool). unmarked {X = Row} fs [] ≡ []) none refl
left-by f (row ∷ rows) flags e =
    let parts = both-is (λ y ys. y ∷ ys) (f row) (each f rows) flags e in
    subst (λ (fs : List Bool). unmarked fs (row ∷ rows) ≡ filter (λ (r : Row). not (is_certain (f r))) (row ∷ rows)) parts.4
    (one_more f row rows parts.0 parts.1 parts.2 (left-by f rows parts.1 parts.3))

pub left-rows : (condition : Option Expr) (rows : Bag) (doomed : List Bool) → each (doomed_on condition) rows ≡ Good doomed → unmarked doomed rows ≡ rows_left condition rows
left-rows condition rows doomed e = left-by (doomed_on condition) rows doomed e
