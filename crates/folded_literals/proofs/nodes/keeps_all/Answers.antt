use Rattle.std.proofs.Common.{◌&&◌, refl}
use Rattle.bag_algebra.proofs.Subs.{found_none}
use Rattle.bag_algebra.proofs.Truths.{second-decides, first-decides}
use Rattle.bag_algebra.specs.built.Scopes.{without_subs}
use Rattle.folded_literals.specs.Simple.{is_true}
use Rattle.folded_literals.proofs.nodes.keeps_all.Goals as goal

pub returns-then-is_true : goal.returns-then-is_true
returns-then-is_true c =
    let subs = c.args.subs.now in
    second-decides (is_true c.args.condition.now && without_subs subs) (is_true c.args.condition.now) (without_subs subs) c.is_true.result refl
    c.is_true.ensures c.is_empty.result c.if-is_true.true (found_none c.is_empty.result subs c.is_empty.ensures)

pub returns-else-is_true : goal.returns-else-is_true
returns-else-is_true c =
    let subs = c.args.subs.now in
    first-decides (is_true c.args.condition.now && without_subs subs) (is_true c.args.condition.now) (without_subs subs) c.is_true.result refl
    c.is_true.ensures c.if-is_true.false
