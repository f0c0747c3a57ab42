-- Columns as items, and the columns of a query in another order.
use Rattle.std.proofs.Common.{◌≡◌, ℕ, zero, suc, ◌<◌, List, [], ◌∷◌, map, length, Some, All, refl, ap, ◌∙◌, arith}
use Rattle.std.specs.Prelude.{slice_get}
use Rattle.perm_values.specs.Rows.{picked, PlacesWithin}
use Rattle.perm_values.specs.declared.kind.Kind.{Kind}
use Rattle.bag_algebra.proofs.Columns.{column_items-give, each-good}
use Rattle.bag_algebra.specs.Bags.{Row, Bag}
use Rattle.bag_algebra.specs.ColumnItems.{column_item, column_items}
use Rattle.bag_algebra.specs.Kinds.{kinds_of, kinds_in, kind_in, width_of, item_kinds}
use Rattle.bag_algebra.specs.Meaning.{Database, meaning, items_on}
use Rattle.bag_algebra.specs.Means.{no_subs}
use Rattle.bag_algebra.specs.Outcome.{Outcome, Good, Bad, and_then, mapped, each}
use Rattle.bag_algebra.specs.built.Patterns.{ProjectOf}
use Rattle.bag_algebra.specs.WellFormed.{WellFormed, ItemsForm, HasKind}
use Rattle.bag_algebra.specs.declared.expr.Item.{Item}
use Rattle.bag_algebra.specs.declared.query.Query.{Query, end_of-Sublink}
use Rattle.bag_algebra.specs.built.Openings.{rows-with_lists}

pub all-nothing : {X : Type 0} (P : X → Type 0) → All P []
all-nothing P k d within = absurd (omega arith)

pub all-first : {X : Type 0} (P : X → Type 0) (x : X) (xs : List X) → P x → All P xs → All P (x ∷ xs)
all-first P x xs p a zero d within = p
all-first P x xs p a (suc k) d within = a k d (omega arith)

pub all-rest : {X : Type 0} (P : X → Type 0) (x : X) (xs : List X) → All P (x ∷ xs) → All P xs
all-rest P x xs a k d within = a (suc k) d (omega arith)

pub column_items-kinds : (kinds : List Kind) (places : List ℕ) → item_kinds (column_items kinds places) ≡ kinds_in kinds places
column_items-kinds kinds [] = refl
column_items-kinds kinds (place ∷ places) = ap (λ ks. kind_in kinds place ∷ ks) (column_items-kinds kinds places)

pub kind_there : (kinds : List Kind) (place : ℕ) → place < length kinds → slice_get kinds place ≡ Some (kind_in kinds place)
kind_there [] place within = absurd (omega arith)
kind_there (kind ∷ kinds) zero within = refl
kind_there (kind ∷ kinds) (suc place) within = kind_there kinds place (omega arith)

pub column_items-formed : (kinds : List Kind) (outer : List (List Kind)) (places : List ℕ) → PlacesWithin (length kinds) places → ItemsForm (kinds ∷ outer) [] (column_items kinds places)
column_items-formed kinds outer [] within = all-nothing _
column_items-formed kinds outer (place ∷ places) within =
    all-first (λ (item : Item). HasKind (kinds ∷ outer) [] item.expr item.kind) (column_item kinds place) (column_items kinds places)
    (kind_there kinds place (within zero 0 (omega arith)))
    (column_items-formed kinds outer places (all-rest (λ (place : ℕ). place < length kinds) place places within))

module _ (q : Query) (order : List ℕ) where
  abbrev columns : Query
  columns = ProjectOf q (column_items (kinds_of q) order) [] end_of-Sublink

  pub kinds_of-columns : kinds_of columns ≡ kinds_in (kinds_of q) order
  kinds_of-columns = column_items-kinds (kinds_of q) order

  pub meaning-columns : (db : Database) (env : List Row) → meaning columns db env ≡ mapped (map (picked order)) (meaning q db env)
  meaning-columns db env = rows-with_lists _ _ ∙ by_input (meaning q db env) where
    by_input : (o : Outcome Bag) → and_then o (each (items_on (column_items (kinds_of q) order) env no_subs)) ≡ mapped (map (picked order)) o
    by_input (Good bag) = each-good (picked order) (items_on (column_items (kinds_of q) order) env no_subs) (column_items-give (kinds_of q) order env) bag
    by_input (Bad faults) = refl

pub formed-columns : (q : Query) (order : List ℕ) → PlacesWithin (width_of q) order → (outer : List (List Kind)) → WellFormed outer q →
    WellFormed outer (ProjectOf q (column_items (kinds_of q) order) [] end_of-Sublink)
formed-columns q order within outer w = record { input = w; subs = tt; items = column_items-formed (kinds_of q) outer order within }
