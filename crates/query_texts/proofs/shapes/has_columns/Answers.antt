use Rattle.std.proofs.Common.{◌≡◌, ◌∙◌, ◌^◌, ◌-◌, ◌<◌, ℕ, zero, suc, true, min, refl, ap, arith}
use Rattle.bag_algebra.specs.Kinds.{width_of}
use Rattle.tree_texts.specs.expressions.Words.{is_any}
use Rattle.tree_texts.proofs.Counted.{any-is}
use Rattle.query_texts.proofs.shapes.has_columns.Goals as goal

any-some : (n : ℕ) → 0 < n → is_any n ≡ true
any-some zero some = absurd (omega (arith, some))
any-some (suc n) some = refl

few : (n : ℕ) → is_any (min n (2 ^ 64 - 1)) ≡ is_any n
few zero = refl
few (suc n) = any-some (min (suc n) (2 ^ 64 - 1)) (omega arith)

pub returns : goal.returns
returns c = any-is c.width.result ∙ ap is_any c.width.ensures ∙ few (width_of c.args.query.now)
