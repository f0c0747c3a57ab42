use Rattle.std.proofs.Common.{arith}
use Rattle.name_seen_parts.specs.Standing.{surroundings}
use Rattle.name_statements.proofs.Values.{row-end, row-more, row-start, value-whole}
use Rattle.name_analysis.proofs.rows.values_made.Goals as goal

pub loop-at-init : goal.loop-at-init
loop-at-init c = row-start c.args.here.now.catalog.now c.args.columns.now c.args.values.now c.new-made.result c.new-made.ensures c.requires.whole

pub value_made-requires-clause-whole : goal.value_made-requires-clause-whole
value_made-requires-clause-whole c =
    value-whole c.args.here.now.catalog.now c.args.columns.now c.args.values.now c.loop-at.at c.index-columns-at.result c.index-values-at.result (surroundings c.args.here.now)
    c.loop-at.made c.requires.alone (omega (arith, c.loop-at-test.true, c.min-at-end.ensures)) c.index-columns-at.is (omega (arith, c.loop-at-test.true, c.min-at-end.ensures)) c.index-values-at.is
    c.loop-at.invariant

pub loop-at-preserved : goal.loop-at-preserved
loop-at-preserved c =
    row-more c.args.here.now.catalog.now c.args.columns.now c.args.values.now c.loop-at.at c.index-columns-at.result c.index-values-at.result (surroundings c.args.here.now)
    c.loop-at.made c.in_ok-made.made c.value_made.result c.requires.alone
    (omega (arith, c.loop-at-test.true, c.min-at-end.ensures)) c.index-columns-at.is (omega (arith, c.loop-at-test.true, c.min-at-end.ensures)) c.index-values-at.is
    c.loop-at.invariant c.value_made.ensures c.in_ok-made.ensures

pub returns : goal.returns
returns c =
    row-end c.args.here.now.catalog.now c.args.columns.now c.args.values.now c.loop-at.at c.min-at-end.result c.loop-at.made c.min-at-end.ensures c.loop-at-test.false c.loop-at.invariant
