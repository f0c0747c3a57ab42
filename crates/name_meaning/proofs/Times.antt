-- An operator before a part as often as it is written.
use Rattle.std.specs.Prelude.{◌≡◌, ℕ, zero, suc, ◌-◌, ◌*◌, ◌/◌, ◌%◌, ◌≢◌, [], ◌∷◌}
use Rattle.std.proofs.Common.{refl, ap, ◌∙◌, arith}
use Rattle.null_logic.specs.declared.operator.Operator.{Operator}
use Rattle.bag_algebra.specs.declared.expr.Expr.{Expr}
use Rattle.bag_algebra.specs.declared.expr.Expr.TheVariants.{Op}
use Rattle.name_meaning.specs.Expressions.{times}

double : ℕ → ℕ
double zero = zero
double (suc k) = suc (suc (double k))

unfold-double : (k : ℕ) → double k ≡ 2 * k
unfolding double
unfold-double zero = refl
unfold-double (suc k) = let more : double k ≡ 2 * k = unfold-double k in omega (arith, more)

odd-times : (op : Operator) (k : ℕ) (e : Expr) → times op (suc (double k)) e ≡ Op op (e ∷ [])
unfolding double
odd-times op zero e = refl
odd-times op (suc k) e = odd-times op k e

even-times : (op : Operator) (k : ℕ) (e : Expr) → times op (suc (suc (double k))) e ≡ Op op (Op op (e ∷ []) ∷ [])
unfolding double
even-times op zero e = refl
even-times op (suc k) e = even-times op k e

pub times-odd : (op : Operator) (n : ℕ) (e : Expr) → n % 2 ≡ 1 → times op n e ≡ Op op (e ∷ [])
times-odd op n e odd =
    let half = unfold-double (n / 2) in
    let at : n ≡ suc (double (n / 2)) = omega (arith, half, odd) in
    ap (λ n. times op n e) at ∙ odd-times op (n / 2) e

pub times-even : (op : Operator) (n : ℕ) (e : Expr) → n % 2 ≢ 1 → n ≢ 0 → times op n e ≡ Op op (Op op (e ∷ []) ∷ [])
times-even op n e even some =
    let half = unfold-double (n / 2 - 1) in
    let at : n ≡ suc (suc (double (n / 2 - 1))) = omega (arith, half, even, some) in
    ap (λ n. times op n e) at ∙ even-times op (n / 2 - 1) e
