use Rattle.std.proofs.Common.{◌≡◌, ◌+◌, ◌-◌, ◌∙◌, ap, sym, take, arith}
use Rattle.std.proofs.Math.Seq.{take-length}
use Rattle.bag_algebra.specs.declared.query.Query.TheVariants.{Single}
use Rattle.contribution.proofs.BuiltSources.{crossed-before}
use Rattle.contribution.proofs.cross.crossed.Goals as goal
use Rattle.contribution.specs.CrossBase.{crossed}

pub loop-at-init : goal.loop-at-init
loop-at-init c = (ap (λ sources. crossed sources Single) (take-length c.args.sources.now), omega arith)

pub loop-at-preserved : goal.loop-at-preserved
loop-at-preserved c =
    let sources = c.args.sources.now in
    let at = c.loop-at.at in
    let back : (at - 1) + 1 ≡ at = omega (arith, c.loop-at-test.true) in (
      ap (crossed (take (at - 1) sources)) c.in_ok-whole.ensures
          ∙ sym (crossed-before sources (at - 1) c.index-sources-at.result c.loop-at.whole (omega (arith, c.loop-at-test.true, c.loop-at.invariant.1)) c.index-sources-at.is)
          ∙ ap (λ n. crossed (take n sources) c.loop-at.whole) back
          ∙ c.loop-at.invariant.0,
      omega (arith, c.loop-at.invariant.1),
    )

pub returns : goal.returns
returns c =
    let none : 0 ≡ c.loop-at.at = omega (arith, c.loop-at-test.false) in
    ap (λ n. crossed (take n c.args.sources.now) c.loop-at.whole) none ∙ c.loop-at.invariant.0
