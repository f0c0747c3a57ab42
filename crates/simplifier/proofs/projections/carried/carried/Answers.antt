use Rattle.std.proofs.Common.{◌≡◌, suc, ◌+◌, ◌≤◌, ◌<◌, true≢false, length, set, sym, ◌∙◌, subst, arith}
use Rattle.std.proofs.lemmas.List.{take-append-le, take_all}
use Rattle.simplifier.proofs.projections.CarriedSublinks.{CarriedTo, all-carried, one-carried}
use Rattle.simplifier.specs.projections.Carried.{AllCarried}
use Rattle.simplifier.proofs.projections.carried.carried.Goals as goal
use Rattle.simplifier.proofs.projections.carried.carried.Goals.{then-not-carry, else-not-carry}

pub loop-sub-init : goal.loop-sub-init
loop-sub-init c h = sym (c.deref_mut-sub-items.ensures.value ∙ c.into_vec-others.ensures)

pub loop-sub-preserved : goal.loop-sub-preserved
loop-sub-preserved c h =
    let low : c.loop-sub.sub-index < length c.loop-sub.sub-items = omega arith in
    let next : suc c.loop-sub.sub-index ≡ c.loop-sub.sub-index + 1 = omega arith in
    elim c.if-not-carry.branch [
      | then-not-carry w ↦ absurd (true≢false (sym h ∙ w.all-is))
      | else-not-carry w ↦ subst (λ n. CarriedTo c.args.places.now n c.args.subs (set c.loop-sub.sub-items c.loop-sub.sub-index c.carry.new.sub)) next
          (one-carried c.args.places.now c.args.subs c.loop-sub.sub-items c.loop-sub.sub-index c.sub-item.result c.carry.new.sub
          (c.loop-sub.invariant (sym w.all-is ∙ h)) low (c.carry.ensures w.if-not-carry.false))
    ]

pub returns : goal.returns
returns c =
    let wide : length c.loop-sub.sub-items ≡ c.into_vec-others.result.len = omega (arith, c.loop-sub.auto.sub-items, c.deref_mut-sub-items.ensures.len) in
    let same : c.from_vec-others.result ≡ c.loop-sub.sub-items =
    c.from_vec-others.ensures ∙ take-append-le c.into_vec-others.result.len c.loop-sub.sub-items _ (omega (arith, wide))
    ∙ take_all c.into_vec-others.result.len c.loop-sub.sub-items (omega (arith, wide)) in
    let done : length c.loop-sub.sub-items ≤ c.loop-sub.sub-index = omega arith in
    subst (AllCarried c.args.places.now c.args.subs) (sym same)
    (all-carried c.args.places.now c.args.subs c.loop-sub.sub-items c.loop-sub.sub-index done (c.loop-sub.invariant c.if-not-all.false))
