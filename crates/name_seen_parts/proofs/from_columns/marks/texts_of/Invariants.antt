use Rattle.std.proofs.Common.{◌≡◌, take}
use Rattle.name_meaning.specs.Froms.{texts_of}
use Rattle.name_seen_parts.proofs.from_columns.marks.texts_of.Given as goal

abbrev pub invariant-loop-name : goal.invariant-loop-name
invariant-loop-name l = l.texts ≡ texts_of (take l.name-index l.names)
