use Rattle.std.proofs.Common.{sym, arith, subst, subst₂}
use Rattle.bag_algebra.specs.Rewriting.{IsRewrite}
use Rattle.bag_algebra.specs.declared.query.Query.{Query}
use Rattle.bag_algebra.specs.declared.query.Sublink.{Sublink}
use Rattle.query_laws.specs.Standing.{SubStands}
use Rattle.rewrite_move.proofs.MovedRows.{from-at, from-length, so_far-first, so_far-next, so_far-last, stand-at}
use Rattle.rewrite_move.proofs.contributions.with_contributions.Goals as goal
use Rattle.rewrite_move.specs.Moved.{Like, moved}
use Rattle.rewrite_move.specs.Traced.{query_from}
use Rattle.rewrite_sublink.proofs.Lengths.{stand-length}

pub loop-at-init : goal.loop-at-init
loop-at-init c = so_far-first c.args.origin c.args.condition.now c.args.rows c.args.subs.now c.args.standing.now c.args.rewritings.now c.requires.plain

pub with_contribution-requires : goal.with_contribution-requires
with_contribution-requires c = record {
  standing = subst₂ (λ sub stand. SubStands sub stand) (sym c.index-subs-at.is) (sym c.index-standing-at.is)
      (stand-at c.args.subs.now c.args.standing.now c.loop-at.at c.index-subs-at.result c.index-standing-at.result c.requires.standing c.loop-at-test.true);
  given = subst₂ (λ (sub : Sublink) r. IsRewrite (query_from c.args.origin sub) r) (sym c.index-subs-at.is) (sym c.index-rewritings-at.is)
      (from-at c.args.origin c.args.subs.now c.args.rewritings.now c.loop-at.at c.index-subs-at.result c.index-rewritings-at.result c.requires.given c.loop-at-test.true);
}

pub bounds-standing-at : goal.bounds-standing-at
bounds-standing-at c = let long = stand-length c.args.subs.now c.args.standing.now c.requires.standing in omega (arith, c.loop-at-test.true, long)

pub bounds-rewritings-at : goal.bounds-rewritings-at
bounds-rewritings-at c = let long = from-length c.args.origin c.args.subs.now c.args.rewritings.now c.requires.given in omega (arith, c.loop-at-test.true, long)

pub loop-at-preserved : goal.loop-at-preserved
loop-at-preserved c =
    let first = stand-length c.args.subs.now c.args.standing.now c.requires.standing in
    let second = from-length c.args.origin c.args.subs.now c.args.rewritings.now c.requires.given in
    so_far-next c.args.origin c.args.condition.now c.args.rows c.loop-at.whole c.in_ok-whole.whole c.args.subs.now c.args.standing.now c.args.rewritings.now c.loop-at.at
    c.index-subs-at.result c.index-standing-at.result c.index-rewritings-at.result
    c.loop-at-test.true (omega (arith, c.loop-at-test.true, first)) (omega (arith, c.loop-at-test.true, second))
    c.index-subs-at.is c.index-standing-at.is c.index-rewritings-at.is c.loop-at.invariant
    (subst (λ known. (whole : Query) → Like whole c.loop-at.whole → Like (moved c.args.origin known whole c.index-subs-at.result c.index-standing-at.result c.index-rewritings-at.result) c.in_ok-whole.whole)
    c.forces-known.ensures c.in_ok-whole.ensures)

pub returns : goal.returns
returns c = so_far-last c.args.origin c.args.condition.now c.args.rows c.loop-at.whole c.args.subs.now c.args.standing.now c.args.rewritings.now c.loop-at.at c.loop-at-test.false c.loop-at.invariant
