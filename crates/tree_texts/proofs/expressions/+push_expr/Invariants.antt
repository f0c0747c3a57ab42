use Rattle.std.proofs.Common.{◌≡◌, ◌++◌, drop, map}
use Rattle.tree_texts.specs.expressions.ExpressionTexts.{expr_bytes, steps_of, steps_text, arms_of, arms_text}
use Rattle.tree_texts.specs.expressions.Words.{separated}
use Rattle.tree_texts.proofs.expressions.+push_expr.Given as goal

-- what is joined already, and the parts that are left
abbrev pub invariant-push_parts-loop-number : goal.invariant-push_parts-loop-number
invariant-push_parts-loop-number l =
    l.fn.draft ++ separated l.second l.later 0 (map (expr_bytes l.prefix l.subs) l.parts)
    ≡ l.draft ++ separated l.second l.later l.number (map (expr_bytes l.prefix l.subs) (drop l.number l.parts))

abbrev pub invariant-push_steps_of-loop-step : goal.invariant-push_steps_of-loop-step
invariant-push_steps_of-loop-step l =
    l.fn.draft ++ steps_text l.additive (steps_of l.prefix l.subs l.steps)
    ≡ l.draft ++ steps_text l.additive (steps_of l.prefix l.subs (drop l.step-index l.steps))

abbrev pub invariant-push_arms_alone-loop-arm : goal.invariant-push_arms_alone-loop-arm
invariant-push_arms_alone-loop-arm l =
    l.fn.draft ++ arms_text (arms_of l.prefix l.subs l.arms) ≡ l.draft ++ arms_text (arms_of l.prefix l.subs (drop l.arm-index l.arms))
