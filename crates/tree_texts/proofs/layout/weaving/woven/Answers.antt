use Rattle.std.proofs.Common.{◌≡◌, ◌+◌, ◌-◌, ◌∙◌, [], ◌∷◌, ◌++◌, length, take, drop, sym, ap, subst, arith}
use Rattle.std.proofs.lemmas.List.{drop_more, length-drop, take_all, take_more}
use Rattle.std.specs.List.{slice_range}
use Rattle.tree_texts.specs.layout.Woven.{AddsGap, IsWoven}
use Rattle.tree_texts.proofs.layout.WovenTokens.{woven_next}
use Rattle.tree_texts.proofs.layout.weaving.woven.Goals as goal

pub loop-number-preserved : goal.loop-number-preserved
loop-number-preserved c =
    let text = c.args.text.now in
    let tokens = c.args.tokens.now in
    let number = c.loop-number.number in
    let t = c.index-tokens-number.result in
    let front = take number tokens in
    let others = drop (number + 1) tokens in
    let laid = c.loop-number.laid in
    let follow : drop number tokens ≡ t ∷ others =
    drop_more tokens number t c.loop-number-test.true ∙ ap (λ u. u ∷ others) (sym c.index-tokens-number.is) in
    let added : c.add.new.self ≡ laid ++ slice_range text t.start t.end =
    c.in_ok-add.ensures.ok ∙ ap (λ n. laid ++ slice_range text n c.end.result) c.start.ensures
    ∙ ap (λ n. laid ++ slice_range text t.start n) c.end.ensures in
    let left : take (length tokens - (number + 1)) others ≡ others =
    take_all (length tokens - (number + 1)) others (omega (arith, length-drop (number + 1) tokens)) in
    let gap = subst (λ ts. AddsGap t ts c.add.new.self c.push_gap.new.laid) left c.in_ok-push_gap.ensures in
    subst (λ ts. IsWoven text ts others c.push_gap.new.laid)
    (ap (λ u. front ++ u ∷ []) c.index-tokens-number.is ∙ sym (take_more tokens number t c.loop-number-test.true))
    (woven_next text front t others laid c.add.new.self c.push_gap.new.laid
    (subst (λ ts. IsWoven text front ts laid) follow c.loop-number.invariant) added gap)
