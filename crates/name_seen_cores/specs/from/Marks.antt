-- The facts of an item of FROM with a mark.
use Rattle.std.specs.Prelude.{◌≡◌, ℕ, List}
use Rattle.bag_algebra.specs.Kinds.{kinds_in}
use Rattle.bag_algebra.specs.declared.query.Label.TheVariants.{External}
use Rattle.perm_values.specs.declared.kind.Kind.{Kind}
use Rattle.sql_tree.specs.declared.source.ScopeMark.{ScopeMark}
use Rattle.sql_tree.specs.declared.source.ScopeMark.TheVariants as mark
use Rattle.name_meaning.specs.Froms.{texts_of}
use Rattle.name_meaning.specs.laws.Facts.{Facts, source_facts}
use Rattle.name_seen_cores.specs.from.Added.{facts_in}
use Rattle.name_seen_parts.specs.FromColumns.{known_names}
use Rattle.name_seen_parts.specs.Marks.{places_of}
use Rattle.name_seen_cores.specs.from.Readings.{relation_facts}
use Rattle.name_seen_cores.specs.declared.from.reading.Reading.{Reading}

-- the facts of an item with a mark
abbrev pub marked_facts : ScopeMark → List ℕ → List (List ℕ) → List Kind → Facts → Facts
marked_facts mark.Plain label names kinds plain = plain
marked_facts mark.BaseRelation label names kinds plain = relation_facts label names kinds
marked_facts (mark.External attributes) label names kinds plain =
    source_facts (record { label = External (texts_of attributes); kinds = kinds_in kinds (places_of names attributes) })

-- what an item with a mark gives of what it reads: its facts are those of the mark
pub record IsMarked (mark : ScopeMark) (label : List ℕ) (reading marked : Reading) : Type 0 where
  pub columns : marked.columns ≡ reading.columns
  pub plain : facts_in marked.plain ≡ marked_facts mark label (known_names reading.columns) reading.kinds (facts_in reading.plain)
