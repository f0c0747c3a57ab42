use Rattle.std.specs.Prelude.{Bool, ◌&&◌, ◌+◌}
use Rattle.std.proofs.Common.{refl, sym, ap, ◌∙◌, drop, arith}
use Rattle.name_meaning.specs.Queries.{do_unite}
use Rattle.name_seen_parts.specs.Columns.{columns_of}
use Rattle.name_seen_parts.proofs.Uniting.{unites-at, unites-end}
use Rattle.name_seen_parts.proofs.clauses.operands.do_unite.Goals as goal

pub loop-at-init : goal.loop-at-init
loop-at-init c = refl

pub returns-then-not-unites : goal.returns-then-not-unites
returns-then-not-unites c =
    sym (c.loop-at.invariant
    ∙ unites-at c.args.left.now c.args.right.now c.loop-at.at c.index-left-at.result c.index-right-at.result c.unites.result
    (omega (arith, c.loop-at-test.true, c.min-at-end.ensures)) (omega (arith, c.loop-at-test.true, c.min-at-end.ensures)) c.index-left-at.is c.index-right-at.is c.unites.ensures
    ∙ ap (λ (b : Bool). b && do_unite (columns_of (drop (c.loop-at.at + 1) c.args.left.now)) (columns_of (drop (c.loop-at.at + 1) c.args.right.now))) c.if-not-unites.true)

pub loop-at-preserved : goal.loop-at-preserved
loop-at-preserved c =
    c.loop-at.invariant
    ∙ unites-at c.args.left.now c.args.right.now c.loop-at.at c.index-left-at.result c.index-right-at.result c.unites.result
    (omega (arith, c.loop-at-test.true, c.min-at-end.ensures)) (omega (arith, c.loop-at-test.true, c.min-at-end.ensures)) c.index-left-at.is c.index-right-at.is c.unites.ensures
    ∙ ap (λ (b : Bool). b && do_unite (columns_of (drop (c.loop-at.at + 1) c.args.left.now)) (columns_of (drop (c.loop-at.at + 1) c.args.right.now))) c.if-not-unites.false

pub returns : goal.returns
returns c = sym (c.loop-at.invariant ∙ unites-end c.args.left.now c.args.right.now c.loop-at.at c.min-at-end.result c.min-at-end.ensures c.loop-at-test.false)
