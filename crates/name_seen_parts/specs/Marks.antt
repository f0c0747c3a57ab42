-- Words on attributes of marks of FROM, as the code goes through them.
use Rattle.std.specs.Prelude.{ℕ, Bool, List, ◌++◌, map, Option, position}
use Rattle.std.specs.List.{list_any}
use Rattle.perm_catalog.specs.declared.column.Column.{Column}
use Rattle.sql_tree.specs.declared.name.Name.{Name}
use Rattle.name_meaning.specs.Froms.{named_so, place_of, column_breaks, texts_of}
use Rattle.name_meaning.specs.Meanings.{broken_if}
use Rattle.name_meaning.specs.declared.answer.Break.{Break}
use Rattle.name_meaning.specs.declared.rule.Rule.TheVariants as rule

abbrev pub is_among : List Name → List ℕ → Bool
is_among names name = list_any (λ (other : Name). named_so name other.text) names

-- what one attribute breaks, behind others
abbrev pub attribute_break : List (List ℕ) → List Name → Name → List Break
attribute_break names earlier attribute = column_breaks attribute names ++ broken_if (is_among earlier attribute.text) rule.RepeatedColumn attribute.at

-- the first column of this name
abbrev pub first_named : List Column → List ℕ → Option ℕ
first_named columns name = position (λ (column : Column). named_so name column.name) columns

abbrev pub places_of : List (List ℕ) → List Name → List ℕ
places_of names attributes = map (place_of names) (texts_of attributes)
