use Rattle.std.proofs.Common.{◌≡◌, take}
use Rattle.name_meaning.specs.Froms.{texts_of}
use Rattle.name_meaning.proofs.nodes.marks.attribute_names.Given as goal

abbrev pub invariant-loop-attribute : goal.invariant-loop-attribute
invariant-loop-attribute l = l.names ≡ texts_of (take l.attribute-index l.attributes)
