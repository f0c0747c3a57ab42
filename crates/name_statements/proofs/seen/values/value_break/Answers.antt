use Rattle.name_meaning.specs.Meanings.{means_at}
use Rattle.name_meaning.specs.Trees.{part_of}
use Rattle.name_seen_parts.specs.Standing.{surroundings}
use Rattle.name_statements.proofs.seen.values.value_break.Goals as goal

pub returns : goal.returns
returns c = c.value_over.ensures (means_at (part_of c.args.here.now.catalog.now c.args.tree.now) (surroundings c.args.here.now)) c.kind_of.ensures
