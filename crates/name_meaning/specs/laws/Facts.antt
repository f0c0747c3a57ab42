-- What the provenance of a query rests on, put together from its parts without the query itself: the places of its
-- witness lists (Glavic and Alonso, ICDE and EDBT 2009).
use Rattle.std.specs.Prelude.{List, [], ◌∷◌, ◌++◌}
use Rattle.bag_algebra.specs.Kinds.{shape}
use Rattle.bag_algebra.specs.declared.place.Place.{Place}
use Rattle.bag_algebra.specs.declared.query.Query.{Query}
use Rattle.bag_algebra.specs.declared.query.Sublink.{Sublink}

pub record Facts : Type 0 where
  pub places : List Place

abbrev pub facts_of : Query → Facts
facts_of query = record { places = shape query }

-- of what has no source, and of what gives its provenance as columns
abbrev pub no_facts : Facts
no_facts = record { places = [] }

-- of two parts, the first of which has its places first
abbrev pub both_facts : Facts → Facts → Facts
both_facts a b = record { places = a.places ++ b.places }

-- of the sublinks of a node
abbrev pub sub_facts : List Sublink → Facts
sub_facts [] = no_facts
sub_facts (sub ∷ subs) = both_facts (facts_of sub.query) (sub_facts subs)

-- of a source that has this place
abbrev pub source_facts : Place → Facts
source_facts place = record { places = place ∷ [] }
