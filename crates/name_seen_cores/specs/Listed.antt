-- What the code finds of the items of a SELECT list, one behind the other.
use Rattle.std.specs.Prelude.{◌≡◌, suc, Bool, List, [], ◌∷◌, ◌++◌, length, Some, Result}
use Rattle.perm_values.specs.declared.kind.Kind.{Kind}
use Rattle.name_meaning.specs.Items.{SelectMeant, SelectPart, Titled, all_known, items_breaks, made_items, named_from}
use Rattle.name_meaning.specs.Meanings.{Before, Surroundings}
use Rattle.name_meaning.specs.declared.scope.Scope.{Scope}
use Rattle.name_meaning.specs.laws.Facts.{both_facts, sub_facts}
use Rattle.name_seen_parts.specs.Seen.{FirstOr}
use Rattle.name_seen_parts.specs.declared.refusal.Refusal.{Refusal}
use Rattle.name_seen_parts.specs.Columns.{columns_of}
use Rattle.name_seen_parts.specs.declared.clauses.column.ShownColumn.{ShownColumn}
use Rattle.name_seen_cores.specs.from.Added.{facts_in}
use Rattle.name_seen_cores.specs.declared.from.facts.Facts.{Facts as Gathered}

-- one more item: its columns come behind those so far, and its facts behind theirs
pub record ItemWhole (m : SelectMeant) (columns wider : List ShownColumn) (old new : Gathered) : Type 0 where
  pub whole : m.breaks ≡ []
  pub titles : List Titled
  pub known : m.columns ≡ Some titles
  pub shown : columns_of wider ≡ columns_of columns ++ named_from (suc (length columns)) titles
  pub adds : (wanted : List Kind) (before : Before) → facts_in new ≡ both_facts (facts_in old) (sub_facts (m.make wanted before).subs)

abbrev pub ItemSeen : SelectMeant → List ShownColumn → List ShownColumn → Gathered → Gathered → Result Unit Refusal → Type 0
ItemSeen m columns wider old new result = FirstOr m.breaks (λ done. ItemWhole m columns wider old new) result

-- an item of the list where it stands
abbrev pub seen_at : Bool → Scope → Surroundings → SelectPart → SelectMeant
seen_at has_from scope here item = item.means has_from scope here

-- all items
pub record ListWhole (ms : List SelectMeant) (old new : Gathered) (columns : List ShownColumn) : Type 0 where
  pub whole : items_breaks ms ≡ []
  pub titles : List Titled
  pub known : all_known ms ≡ Some titles
  pub shown : columns_of columns ≡ named_from 1 titles
  pub adds : (wanted : List Kind) (before : Before) → facts_in new ≡ both_facts (facts_in old) (sub_facts (made_items ms wanted before).subs)

abbrev pub ListSeen : List SelectMeant → Gathered → Gathered → Result (List ShownColumn) Refusal → Type 0
ListSeen ms old new result = FirstOr (items_breaks ms) (ListWhole ms old new) result
