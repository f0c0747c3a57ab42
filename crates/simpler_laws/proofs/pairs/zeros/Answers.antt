use Rattle.std.proofs.Common.{◌≡◌, ℕ, zero, suc, ◌+◌, [], ◌∷◌, ◌++◌, refl, ap, ◌∙◌, arith}
use Rattle.simpler_laws.specs.Sides.{zeros}
use Rattle.simpler_laws.proofs.pairs.zeros.Goals as goal

zeros-next : (n : ℕ) → zeros n ++ 0 ∷ [] ≡ zeros (suc n)
zeros-next zero = refl
zeros-next (suc n) = ap (λ ns. 0 ∷ ns) (zeros-next n)

pub loop-preserved : goal.loop-preserved
loop-preserved c =
    let next : suc c.loop.counter ≡ c.loop.counter + 1 = omega arith in
    c.in_ok-push.ensures.ok ∙ ap (λ ns. ns ++ 0 ∷ []) c.loop.invariant ∙ zeros-next c.loop.counter ∙ ap zeros next

pub returns : goal.returns
returns c = c.loop.invariant ∙ ap zeros (omega arith)
