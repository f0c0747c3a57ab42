use Rattle.std.proofs.Common.{arith}
use Rattle.perm_io.proofs.Places.{left-moved}
use Rattle.perm_io.proofs.shelf.Shelf.read.Goals as goal

pub returns-clause-moved : goal.returns-clause-moved
returns-clause-moved c =
    left-moved _ c.left-left.result.now c.copy_from_slice.new.self c.args.into.now c.args.self.now.position c.min-count.result
    c.left-left.ensures.value (omega arith) c.copy_from_slice.ensures.after
