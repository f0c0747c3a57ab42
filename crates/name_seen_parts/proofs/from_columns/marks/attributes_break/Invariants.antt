use Rattle.std.proofs.Common.{◌≡◌, [], take, drop}
use Rattle.std.specs.Prelude.{Some}
use mathlib.Core.List.{reverse}
use Rattle.name_meaning.specs.Froms.{attribute_breaks, texts_of}
use Rattle.name_seen_parts.specs.FromColumns.{known_names}
use Rattle.name_seen_parts.proofs.from_columns.marks.attributes_break.Given as goal

-- the attributes so far break nothing
abbrev pub invariant-loop-at : goal.invariant-loop-at
invariant-loop-at l = attribute_breaks (Some (known_names l.columns)) [] l.attributes
    ≡ attribute_breaks (Some (known_names l.columns)) (reverse (texts_of (take l.at l.attributes))) (drop l.at l.attributes)
