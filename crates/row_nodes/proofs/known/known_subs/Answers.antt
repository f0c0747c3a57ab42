use Rattle.std.proofs.Common.{take}
use Rattle.perm_values.proofs.Lists.{taken}
use Rattle.row_nodes.specs.Known.{tests_equality}
use Rattle.row_nodes.proofs.Kept.{known_more, new_more}
use Rattle.row_nodes.proofs.known.known_subs.Goals as goal

pub loop-sub-preserved : goal.loop-sub-preserved
loop-sub-preserved c = (
  λ db env.
      rw (taken c.args.subs.now c.loop-sub.sub-index c.sub-item.result c.loop-sub-test.true c.sub-item.is, c.in_ok-push.ensures.items)
      (known_more db env (take c.loop-sub.sub-index c.args.subs.now) c.loop-sub.known.items c.sub-item.result c.in_ok-of.field-0 (c.loop-sub.invariant.0 db env) (c.in_ok-of.ensures.knows db env (tests_equality c.sub-item.result.kind))),
  rw (taken c.args.subs.now c.loop-sub.sub-index c.sub-item.result c.loop-sub-test.true c.sub-item.is, c.in_ok-push.ensures.items)
      (new_more c.args.is_hashed (take c.loop-sub.sub-index c.args.subs.now) c.loop-sub.known.items c.sub-item.result c.in_ok-of.field-0 c.loop-sub.invariant.1 c.in_ok-of.ensures.fresh),
)
