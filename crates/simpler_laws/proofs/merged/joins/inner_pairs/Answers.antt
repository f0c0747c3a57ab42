use Rattle.std.proofs.Common.{◌≡◌, ◌≤◌, [], ◌∷◌, List, length, IfOk, refl, sym, subst, arith}
use Rattle.bag_algebra.specs.Rewriting.{Stands}
use Rattle.bag_algebra.specs.declared.expr.Expr.{Expr}
use Rattle.bag_algebra.specs.declared.query.JoinKind.TheVariants.{Inner}
use Rattle.bag_algebra.specs.declared.query.Query.TheVariants.{Join}
use Rattle.contribution.specs.Conjunctions.{all_hold}
use Rattle.simpler_laws.proofs.merged.joins.inner_pairs.Goals as goal

no_test : (tests : List Expr) → length tests ≤ 0 → tests ≡ []
no_test [] h = refl
no_test (test ∷ tests) h = absurd (omega (arith, h))

pub returns : goal.returns
returns c q r h k =
    subst (λ (tests : List Expr). IfOk c.all_pairs.result (λ p. Stands (Join Inner q r (all_hold tests) []) p)) (sym (no_test c.args.tests.now (omega arith)))
    (c.all_pairs.ensures q r h k)
