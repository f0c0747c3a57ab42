use Rattle.std.proofs.Common.{◌≡◌, ◌+◌, ◌-◌, ◌∷◌, ◌++◌, [], take, sym, ◌∙◌, ap, subst, arith}
use Rattle.std.specs.List.{range_with_len}
use Rattle.bag_algebra.specs.declared.expr.Expr.TheVariants.{Col}
use Rattle.perm_values.proofs.Lists.{taken}
use Rattle.perm_values.proofs.Ranges.{range-pushed}
use Rattle.simpler_laws.proofs.ColumnItems.{columns-more}
use Rattle.simpler_laws.specs.Lowered.{AreColumns}
use Rattle.simplifier.proofs.projections.whole.in_order.Goals as goal

pub loop-number-preserved : goal.loop-number-preserved
loop-number-preserved c =
    let n = c.loop-number.number in
    let items = c.args.items.now in
    let item = c.index-items-number.result in
    let whole : n - 0 ≡ n = omega arith in
    let more : n + 1 - 0 ≡ n + 1 = omega arith in
    subst (λ them. AreColumns them (range_with_len 0 (n + 1))) (sym (taken items n item c.loop-number-test.true c.index-items-number.is))
    (subst (AreColumns (take n items ++ item ∷ [])) (sym (sym (ap (range_with_len 0) more) ∙ range-pushed 0 n (omega arith) ∙ ap (λ count. range_with_len 0 count ++ n ∷ []) whole))
    (columns-more (take n items) (range_with_len 0 n) item n c.loop-number.invariant (c.in-Some.ensures ∙ ap (Col 0) c.if-place-number.false)))
