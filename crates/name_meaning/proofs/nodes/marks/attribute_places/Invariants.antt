use Rattle.std.proofs.Common.{◌≡◌, map, take}
use Rattle.name_meaning.specs.Froms.{place_of, texts_of}
use Rattle.name_meaning.proofs.nodes.marks.attribute_places.Given as goal

abbrev pub invariant-loop-attribute : goal.invariant-loop-attribute
invariant-loop-attribute l = l.places ≡ map (place_of l.names) (texts_of (take l.attribute-index l.attributes))
