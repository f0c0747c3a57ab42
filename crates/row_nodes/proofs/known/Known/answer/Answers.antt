use Rattle.std.proofs.Common.{refl}
use Rattle.row_nodes.proofs.Kept.{lent_is}
use Rattle.row_nodes.proofs.known.Known.answer.Goals as goal

pub returns : goal.returns
returns c = lent_is c.found.result _ c.unwrap_or.result _ c.args.self.now.nothing c.unwrap_or.ensures c.found.ensures refl
