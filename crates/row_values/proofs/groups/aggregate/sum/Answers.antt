use Rattle.std.proofs.Common.{◌∙◌, FitsSigned, w64, sym, subst, arith}
use Rattle.std.proofs.lemmas.Int.{ints, to_z-of_z}
use Rattle.row_values.proofs.Totals.{total-taken, total-whole, sum-fits, sum-passes, fits-in, passes}
use Rattle.row_values.proofs.groups.aggregate.sum.Goals as goal

pub loop-value-preserved : goal.loop-value-preserved
loop-value-preserved c =
    let sum = total-taken c.args.values.now c.loop-value.value-index c.value-item.result c.loop-value-test.true c.value-item.is in
    let before = c.loop-value.invariant in
    let more = c.addend.ensures in
    let small = c.addend.type_inv in
    let wide = c.from-total.ensures in
    (grind (arith, ints, to_z-of_z), omega (arith, ints), omega (arith, ints))

pub returns-in-Ok : goal.returns-in-Ok
returns-in-Ok c =
    let is = c.in-Ok.ensures.1 in
    let fits = subst (FitsSigned w64) (sym is) c.in-Ok.ensures.0 in
    rw (to_z-of_z w64 c.in-Ok.total fits)
    (sum-fits c.args.values.now c.in-Ok.total (λ e. c.if-count_present-eq0.false (c.count_present.ensures.counted ∙ e))
    (is ∙ c.loop-value.invariant.0 ∙ total-whole c.args.values.now c.loop-value.value-index c.loop-value-test.false) (fits-in c.in-Ok.total fits))

pub returns-in-Err : goal.returns-in-Err
returns-in-Err c =
    sum-passes c.args.values.now _ (λ e. c.if-count_present-eq0.false (c.count_present.ensures.counted ∙ e))
    (c.loop-value.invariant.0 ∙ total-whole c.args.values.now c.loop-value.value-index c.loop-value-test.false) (passes _ c.in-Err.ensures)
