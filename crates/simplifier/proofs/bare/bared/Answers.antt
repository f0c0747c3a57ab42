use Rattle.std.proofs.Common.{◌≡◌, ◌<◌, length, sym, ◌∙◌, subst, arith}
use Rattle.simplifier.proofs.BaredSublinks.{all-themselves, one-bared}
use Rattle.simplifier.specs.Bare.{AllBared}
use Rattle.simplifier.proofs.bare.bared.Goals as goal

pub loop-sub-init : goal.loop-sub-init
loop-sub-init c =
    subst (λ others. AllBared c.args.subs others) (sym (c.deref_mut-sub-items.ensures.value ∙ c.into_vec-others.ensures)) (all-themselves c.args.subs)

pub loop-sub-preserved : goal.loop-sub-preserved
loop-sub-preserved c =
    let low : c.loop-sub.sub-index < length c.loop-sub.sub-items = omega arith in
    one-bared c.args.subs c.loop-sub.sub-items c.loop-sub.sub-index c.sub-item.result c.lay_bare.new.sub c.loop-sub.invariant low c.lay_bare.ensures
