use Rattle.std.proofs.Common.{◌≡◌, ◌≤◌, ◌+◌, ◌-◌, ◌/◌, ◌<◌, ℕ, suc, take, subst, arith}
use Rattle.name_meaning.specs.Ascending.{Below}
use Rattle.name_meaning.proofs.Ascending.{below-through, from-on}
use Rattle.name_meaning.proofs.scope_columns.before.Goals as goal

pub loop-low-preserved-then-columns-middle : goal.loop-low-preserved-then-columns-middle
loop-low-preserved-then-columns-middle c =
    let i = c.loop-low.invariant in
    let middle = c.loop-low.low + (c.loop-low.high - c.loop-low.low) / 2 in
    let on : middle + 1 ≤ c.loop-low.high = omega (arith, c.loop-low-test.true) in
    let one : suc middle ≡ middle + 1 = omega arith in (
      on,
      i.1,
      (λ a. subst (λ (n : ℕ). Below c.args.number (take n c.args.columns.now)) one
          (below-through c.args.number 0 c.args.columns.now middle c.index-columns-middle.result a (omega (arith, on, i.1)) c.if-columns-middle.true)),
      i.3,
    )

pub loop-low-preserved : goal.loop-low-preserved
loop-low-preserved c =
    let i = c.loop-low.invariant in
    let middle = c.loop-low.low + (c.loop-low.high - c.loop-low.low) / 2 in
    let on : middle < c.loop-low.high = omega (arith, c.loop-low-test.true) in (
      omega arith,
      omega (arith, on, i.1),
      i.2,
      (λ a. from-on c.args.number 0 c.args.columns.now middle c.index-columns-middle.result a (omega (arith, on, i.1)) (omega (arith, c.if-columns-middle.false))),
    )
