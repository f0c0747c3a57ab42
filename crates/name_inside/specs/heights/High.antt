-- How high at least what a part of a query is made to is, where the part breaks nothing.
use Rattle.std.specs.Prelude.{◌≡◌, ◌≤◌, ℕ, List, [], Option, Some}
use Rattle.perm_values.specs.declared.kind.Kind.{Kind}
use Rattle.bag_algebra.specs.Measures.{height_of}
use Rattle.bag_algebra.specs.built.Measures.{subs_height}
use Rattle.name_meaning.specs.Cores.{optional_built}
use Rattle.name_meaning.specs.Froms.{FromMeant, ItemMeant, optional_breaks, optional_meant}
use Rattle.name_meaning.specs.Items.{SelectMeant, items_breaks, made_items}
use Rattle.name_meaning.specs.Meanings.{Before, Meant, Part, QueryMeant, Surroundings}
use Rattle.name_meaning.specs.Operands.{Operand, made_parts, parts_breaks}
use Rattle.name_meaning.specs.Scopes.{ScopeItem}

-- ---- queries

abbrev pub QueryHigh : ℕ → QueryMeant → Type 0
QueryHigh n m = m.breaks ≡ [] → (wanted : List Kind) → n ≤ height_of (m.make wanted)

abbrev pub ItemHigh : ℕ → ItemMeant → Type 0
ItemHigh n m = m.breaks ≡ [] → n ≤ height_of m.query

-- a part of FROM, whose items are known
pub record IsHigh (n : ℕ) (m : FromMeant) : Type 0 where
  pub items : List ScopeItem
  pub known : m.items ≡ Some items
  pub high : n ≤ height_of m.query

abbrev pub FromHigh : ℕ → FromMeant → Type 0
FromHigh n m = m.breaks ≡ [] → IsHigh n m

-- ---- expressions: the highest query of their sublinks

abbrev pub SubsHigh : ℕ → Meant → Type 0
SubsHigh n m = m.breaks ≡ [] → (wanted : Kind) (before : Before) → n ≤ subs_height (m.make wanted before).subs

abbrev pub OptionalHigh : ℕ → Option Part → Type 0
OptionalHigh n part = (here : Surroundings) → optional_breaks part (optional_meant here part) ≡ []
    → n ≤ subs_height (optional_built (optional_meant here part)).subs

abbrev pub OperandsHigh : ℕ → List Operand → Type 0
OperandsHigh n os = parts_breaks os ≡ [] → (alike : Kind) (before : Before) → n ≤ subs_height (made_parts alike os before).subs

abbrev pub SelectHigh : ℕ → SelectMeant → Type 0
SelectHigh n m = m.breaks ≡ [] → (wanted : List Kind) (before : Before) → n ≤ subs_height (m.make wanted before).subs

abbrev pub ListHigh : ℕ → List SelectMeant → Type 0
ListHigh n ms = items_breaks ms ≡ [] → (wanted : List Kind) (before : Before) → n ≤ subs_height (made_items ms wanted before).subs
