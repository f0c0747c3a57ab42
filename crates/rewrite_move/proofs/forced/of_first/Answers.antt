use Rattle.std.proofs.Common.{sym}
use Rattle.rewrite_move.proofs.ForcedParts.{other-first}
use Rattle.rewrite_move.proofs.forced.of_first.Goals as goal

pub returns-in_default : goal.returns-in_default
returns-in_default c = sym (other-first c.args.op c.args.known c.in_default.not-And c.in_default.not-Or c.in_default.not-Not)
