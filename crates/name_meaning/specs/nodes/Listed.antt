-- What the second pass makes of a SELECT list.
use Rattle.std.specs.Prelude.{◌≡◌, ℕ, ◌+◌, Bool, false, List, [], ◌∷◌, ◌++◌, length}
use Rattle.bag_algebra.specs.declared.expr.Item.{Item}
use Rattle.perm_values.specs.declared.kind.Kind.{Kind}
use Rattle.name_meaning.specs.Items.{SelectMeant, Made, items_breaks, made_items, width_of_item}
use Rattle.name_meaning.specs.nodes.Makes.{before_of, with_found}
use Rattle.name_meaning.specs.declared.nodes.within.Within.{Within}

-- how many columns these items of the list have
abbrev pub widths : List SelectMeant → ℕ
widths [] = 0
widths (m ∷ ms) = width_of_item m + widths ms

-- the columns stand behind those before, and what they add behind what was found before
pub record AreListed (made : Made) (before after : List Item) (old new : Within) : Type 0 where
  pub items : after ≡ before ++ made.items
  pub found : new ≡ with_found old made.subs made.aggregates

-- some items of the list, made at the kinds that are wanted of their columns
pub record MakesItems (may_link : Bool) (list : List SelectMeant) (wanted : List Kind) (before after : List Item) (old new : Within) : Type 0 where
  pub makes : items_breaks list ≡ [] → AreListed (made_items list wanted (before_of old)) before after old new
  pub wide : items_breaks list ≡ [] → length after ≡ length before + widths list
  pub unlinked : may_link ≡ false → new.subs ≡ old.subs
