use Rattle.name_meaning.proofs.Named.{view-reads}
use Rattle.name_meaning.proofs.laws.tables.laws.views_name_what_they_read.Goals as goal

pub returns : goal.returns
returns c catalog tree sound = view-reads catalog sound tree
