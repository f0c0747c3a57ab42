use Rattle.std.proofs.Common.{◌∙◌, sym, arith}
use Rattle.refusal_notes.proofs.places.Lines.{start-feed, start-other}
use Rattle.refusal_notes.proofs.places.line.line_start.Goals.{then-is_feed, else-is_feed}
use Rattle.refusal_notes.proofs.places.line.line_start.Goals as goal

pub loop-at-preserved : goal.loop-at-preserved
loop-at-preserved c =
    elim c.if-is_feed.branch [
      | then-is_feed w ↦ rw w.start-is
          (omega arith, start-feed c.args.before.now c.loop-at.at _ c.loop-at-test.true (sym c.is_feed.ensures ∙ w.if-is_feed.true))
      | else-is_feed w ↦ rw w.start-is (
        omega (arith, c.loop-at.invariant.0),
        start-other c.args.before.now c.loop-at.at c.loop-at.start _ c.loop-at-test.true c.loop-at.invariant.0
            (sym c.is_feed.ensures ∙ w.if-is_feed.false) c.loop-at.invariant.1,
      )
    ]
