use Rattle.std.proofs.Common.{◌≡◌, [], IfOk, subst}
use Rattle.bag_algebra.specs.declared.expr.Expr.{Expr}
use Rattle.bag_algebra.specs.Rewriting.{Stands}
use Rattle.bag_algebra.specs.declared.query.JoinKind.TheVariants.{Inner}
use Rattle.bag_algebra.specs.declared.query.Query.TheVariants.{Join}
use Rattle.contribution.proofs.NodeQueries.{of_made}
use Rattle.contribution.specs.Conjunctions.{all_hold}
use Rattle.perm_values.proofs.Taken.{opened}
use Rattle.query_laws.proofs.SameExpressions.{same-itself}
use Rattle.query_laws.proofs.StandingNodes.{stands-Join}
use Rattle.simpler_laws.proofs.nodes.inner_join.Goals as goal

pub returns : goal.returns
returns c q r h k =
    let given = c.in_ok-left.ensures in
    subst (λ (e : Expr). IfOk c.join.result (λ p. Stands (Join Inner q r e []) p))
    (opened (λ (e : Expr). e ≡ all_hold c.args.tests.now) c.conjunction.result _ given.third_was c.conjunction.ensures)
    (of_made (λ p. Stands (Join Inner q r _ []) p) c.join.result _ (rw c.new.ensures at c.join.ensures)
    (stands-Join q _ (opened (λ b. Stands q b) c.args.left _ given.first_was h) r _ (opened (λ d. Stands r d) c.args.right _ given.second_was k) Inner _ _ (same-itself _) [] [] tt))
