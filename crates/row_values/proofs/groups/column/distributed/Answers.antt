use Rattle.std.proofs.Common.{get_or, arith}
use Rattle.bag_algebra.specs.Meaning.{optional_value}
use Rattle.row_values.proofs.Outcomes.{handed_on, each_item}
use Rattle.row_values.proofs.Buckets.{distributes-taken, pushed}
use Rattle.row_values.proofs.groups.column.distributed.Goals as goal

pub returns-in_err-value-clause-err : goal.returns-in_err-value-clause-err
returns-in_err-value-clause-err c =
    handed_on _ _ c.from_residual-in_err-value.result c.from_residual-in_err-value.ensures.1
    (each_item (optional_value c.args.argument.now c.args.env.now) c.args.rows.now c.loop-i.i c.index-rows-i.result _ c.loop-i-test.true c.index-rows-i.is c.in_err-value.ensures)

pub loop-i-preserved : goal.loop-i-preserved
loop-i-preserved c =
    distributes-taken (optional_value c.args.argument.now c.args.env.now) c.args.rows.now c.args.numbers.now c.args.count c.loop-i.classes.items c.loop-i.i c.index-rows-i.result _ c.push.new.self
    c.loop-i.invariant c.requires.long c.requires.within c.loop-i-test.true c.index-rows-i.is c.in_ok-value.ensures
    (pushed c.loop-i.classes.items (get_or c.args.numbers.now c.loop-i.i 0) c.index_mut.result.now c.in_ok-value.value c.push.new.self
    (c.requires.within c.loop-i.i 0 (let k = c.requires.long in let low = c.loop-i-test.true in omega arith)) c.loop-i.invariant.long c.index_mut.ensures.value c.in_ok-push.ensures.ok)
