use Rattle.name_meaning.specs.Trees.{part_of}
use Rattle.name_seen_parts.specs.Standing.{surroundings}
use Rattle.name_made_parts.proofs.AskedListing.{first-alike}
use Rattle.name_made_parts.proofs.asked.united.united_with.Goals as goal

pub returns-in-None : goal.returns-in-None
returns-in-None c =
    first-alike c.kind_or_any.result (surroundings c.args.here.now) (part_of c.args.here.now.catalog.now c.args.tree.now) c.args.so_far c.args.need
    c.in-None.is c.in-Alike.is c.kind_or_any.ensures
