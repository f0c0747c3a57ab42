use Rattle.std.proofs.Common.{sym}
use Rattle.row_nodes.proofs.memory.Learned.{learned}
use Rattle.row_nodes.proofs.memory.Memory.keep.Goals as goal

pub returns-clause-ok : goal.returns-clause-ok
returns-clause-ok g c =
    learned c.args.self.now c.make_room.new.self c.self.inside.places c.self.inside.key c.self.inside.table.entries c.insert.new.self.entries c.in_ok-key.key c.args.item
    (sym c.self.view_is) c.make_room.ensures c.in_ok-key.ensures c.in_ok-insert.ensures.updates.0
