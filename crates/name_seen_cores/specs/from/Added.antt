-- The facts that the code gathers, as the laws of names see them.
use Rattle.name_meaning.specs.laws.Facts.{Facts}
use Rattle.name_seen_cores.specs.declared.from.facts.Facts.{Facts as Gathered}

abbrev pub facts_in : Gathered → Facts
facts_in facts = record { places = facts.places }
