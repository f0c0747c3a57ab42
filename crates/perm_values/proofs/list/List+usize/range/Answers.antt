use Rattle.std.proofs.Common.{◌++◌, ◌∷◌, [], sym, ap, ◌∙◌}
use Rattle.perm_values.proofs.Ranges.{range-pushed}
use Rattle.perm_values.proofs.list.List+usize.range.Goals as goal

pub loop-number-preserved : goal.loop-number-preserved
loop-number-preserved c =
    c.in_ok-push.ensures.ok
    ∙ ap (λ numbers. numbers ++ c.loop-number.number ∷ []) c.loop-number.invariant
    ∙ sym (range-pushed c.args.first c.loop-number.number c.loop-number.auto.number)
