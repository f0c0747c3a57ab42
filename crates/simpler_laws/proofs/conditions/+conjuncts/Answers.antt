use Rattle.std.proofs.Common.{◌≡◌, List, [], ◌∷◌, cond, true, IfOk, Result, sym, ap, ◌∙◌, subst}
use Rattle.bag_algebra.specs.declared.expr.Expr.{Expr}
use Rattle.bag_algebra.specs.declared.expr.Expr.TheVariants.{Op}
use Rattle.simpler_laws.specs.Conjuncts.{conjuncts}
use Rattle.simpler_laws.specs.built.Conjuncts.{all_conjuncts, conjuncts-Op, conjuncts-Chain, conjuncts-Case, conjuncts-IsNull, conjuncts-IsTruth, conjuncts-Same}
use Rattle.simpler_laws.proofs.conditions.+conjuncts.Goals as goal

along : {E : Type 0} (r : Result (List Expr) E) (x y : List Expr) → x ≡ y → IfOk r (λ found. found ≡ x) → IfOk r (λ found. found ≡ y)
along r x y e h = subst (λ z. IfOk r (λ found. found ≡ z)) e h

-- a condition that is its own conjunct
itself : (condition made : Expr) → condition ≡ made → conjuncts made ≡ made ∷ [] → condition ∷ [] ≡ conjuncts condition
itself condition made is alone = sym (ap conjuncts is ∙ alone ∙ ap (λ e. e ∷ []) (sym is))

pub conjuncts-returns-in-Chain : goal.conjuncts-returns-in-Chain
conjuncts-returns-in-Chain t c =
    along c.alone-in-Chain.result _ _ (itself c.args.condition.now _ c.in-Chain.is (conjuncts-Chain c.in-Chain.first c.in-Chain.steps)) c.alone-in-Chain.ensures

pub conjuncts-returns-in-Case : goal.conjuncts-returns-in-Case
conjuncts-returns-in-Case t c =
    along c.alone-in-Case.result _ _ (itself c.args.condition.now _ c.in-Case.is (conjuncts-Case c.in-Case.arms c.in-Case.otherwise)) c.alone-in-Case.ensures

pub conjuncts-returns-in-IsNull : goal.conjuncts-returns-in-IsNull
conjuncts-returns-in-IsNull t c =
    along c.alone-in-IsNull.result _ _ (itself c.args.condition.now _ c.in-IsNull.is (conjuncts-IsNull c.in-IsNull.part)) c.alone-in-IsNull.ensures

pub conjuncts-returns-in-IsTruth : goal.conjuncts-returns-in-IsTruth
conjuncts-returns-in-IsTruth t c =
    along c.alone-in-IsTruth.result _ _ (itself c.args.condition.now _ c.in-IsTruth.is (conjuncts-IsTruth c.in-IsTruth.truth c.in-IsTruth.part)) c.alone-in-IsTruth.ensures

pub conjuncts-returns-in-Same : goal.conjuncts-returns-in-Same
conjuncts-returns-in-Same t c =
    along c.alone-in-Same.result _ _ (itself c.args.condition.now _ c.in-Same.is (conjuncts-Same c.in-Same.first c.in-Same.second)) c.alone-in-Same.ensures

pub conjuncts-returns-then-is_and : goal.conjuncts-returns-then-is_and
conjuncts-returns-then-is_and t c =
    along c.all_conjuncts.result _ _
    (sym (ap conjuncts c.in-Op.is ∙ conjuncts-Op c.in-Op.op c.in-Op.parts
    ∙ (λ i. cond ((sym c.is_and.ensures ∙ c.if-is_and.true) i) (all_conjuncts c.in-Op.parts) (Op c.in-Op.op c.in-Op.parts ∷ []))))
    (rw c.as_slice.ensures at c.all_conjuncts.ensures)
