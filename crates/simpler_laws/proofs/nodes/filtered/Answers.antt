use Rattle.std.proofs.Common.{◌≡◌, ◌<◌, [], ◌∷◌, List, length, IfOk, refl, subst, arith}
use Rattle.bag_algebra.specs.declared.expr.Expr.{Expr}
use Rattle.bag_algebra.specs.Rewriting.{Stands}
use Rattle.bag_algebra.specs.declared.query.Query.{Query}
use Rattle.bag_algebra.specs.declared.query.Query.TheVariants.{Filter}
use Rattle.contribution.proofs.NodeQueries.{of_made}
use Rattle.contribution.specs.Conjunctions.{all_hold}
use Rattle.perm_values.proofs.Taken.{opened}
use Rattle.query_laws.proofs.SameExpressions.{same-itself}
use Rattle.query_laws.proofs.StandingNodes.{stands-Filter}
use Rattle.simpler_laws.specs.Tested.{tested}
use Rattle.simpler_laws.proofs.nodes.filtered.Goals as goal

-- where there is a test
filter-is : (q : Query) (tests : List Expr) → 0 < length tests → Filter q (all_hold tests) [] ≡ tested q tests
filter-is q [] some = absurd (omega (arith, some))
filter-is q (test ∷ tests) some = refl

pub returns : goal.returns
returns c q h =
    let given = c.in_ok-rows.ensures in
    subst (λ n. IfOk c.filter.result (λ p. Stands n p)) (filter-is q c.args.tests.now c.requires)
    (subst (λ (e : Expr). IfOk c.filter.result (λ p. Stands (Filter q e []) p))
    (opened (λ (e : Expr). e ≡ all_hold c.args.tests.now) c.conjunction.result _ given.second_was c.conjunction.ensures)
    (of_made (λ p. Stands (Filter q _ []) p) c.filter.result _ (rw c.new.ensures at c.filter.ensures)
    (stands-Filter q _ (opened (λ b. Stands q b) c.args.rows _ given.first_was h) _ _ (same-itself _) [] [] tt)))
