-- NULLs as items, and NULLs beside the columns of a query.
use Rattle.std.proofs.Common.{◌≡◌, ℕ, List, [], ◌∷◌, ◌++◌, map, length, refl, sym, ap, ◌∙◌, arith, append_assoc}
use Rattle.perm_values.specs.Rows.{picked, value_at, PlacesWithin}
use Rattle.perm_values.specs.declared.kind.Kind.{Kind}
use Rattle.perm_values.specs.declared.value.Value.TheVariants.{Null}
use Rattle.perm_values.proofs.Fits.{null-fits}
use Rattle.bag_algebra.proofs.Columns.{column_items-give, each-good}
use Rattle.bag_algebra.specs.Bags.{Row, Bag, nulls}
use Rattle.bag_algebra.specs.ColumnItems.{column_items}
use Rattle.bag_algebra.specs.Kinds.{kinds_of, kinds_in, width_of, item_kinds}
use Rattle.bag_algebra.specs.Meaning.{Database, meaning, items_on}
use Rattle.bag_algebra.specs.Means.{no_subs}
use Rattle.bag_algebra.specs.Outcome.{Outcome, Good, Bad, and_then, mapped, both, each}
use Rattle.bag_algebra.specs.built.Patterns.{ProjectOf}
use Rattle.bag_algebra.specs.WellFormed.{WellFormed, ItemsForm, HasKind}
use Rattle.bag_algebra.specs.declared.expr.Item.{Item}
use Rattle.bag_algebra.specs.declared.query.Query.{Query, end_of-Sublink}
use Rattle.contribution.proofs.ColumnQueries.{all-nothing, all-first, all-rest, column_items-kinds, column_items-formed}
use Rattle.contribution.specs.NullItems.{null_item, padded_items, padded_row}
use Rattle.bag_algebra.specs.built.Openings.{rows-with_lists}

-- ---- NULLs

pub null_items-kinds : (kinds : List Kind) → item_kinds (map null_item kinds) ≡ kinds
null_items-kinds [] = refl
null_items-kinds (kind ∷ kinds) = ap (λ ks. kind ∷ ks) (null_items-kinds kinds)

pub null_items-give : (kinds : List Kind) (env : List Row) (u : Row) → items_on (map null_item kinds) env no_subs u ≡ Good (nulls (length kinds))
null_items-give [] env u = refl
null_items-give (kind ∷ kinds) env u = ap (both (λ v vs. v ∷ vs) (Good Null)) (null_items-give kinds env u)

pub null_items-formed : (kinds : List Kind) (scopes : List (List Kind)) → ItemsForm scopes [] (map null_item kinds)
null_items-formed [] scopes = all-nothing _
null_items-formed (kind ∷ kinds) scopes =
    all-first (λ (item : Item). HasKind scopes [] item.expr item.kind) (null_item kind) (map null_item kinds)
    (record { fitting = null-fits kind; gives = refl }) (null_items-formed kinds scopes)

-- ---- items before others

pub items-append : (scopes : List (List Kind)) (items more : List Item) → ItemsForm scopes [] items → ItemsForm scopes [] more → ItemsForm scopes [] (items ++ more)
items-append scopes [] more a b = b
items-append scopes (item ∷ items) more a b =
    all-first (λ (item : Item). HasKind scopes [] item.expr item.kind) item (items ++ more) (a 0 item (omega arith))
    (items-append scopes items more (all-rest (λ (item : Item). HasKind scopes [] item.expr item.kind) item items a) b)

pub kinds-append : (items more : List Item) → item_kinds (items ++ more) ≡ item_kinds items ++ item_kinds more
kinds-append [] more = refl
kinds-append (item ∷ items) more = ap (λ ks. item.kind ∷ ks) (kinds-append items more)

module _ (env : List Row) (u : Row) (more : List Item) (behind : Row) (good : items_on more env no_subs u ≡ Good behind) where
  columns-before : (kinds : List Kind) (places : List ℕ) → items_on (column_items kinds places ++ more) env no_subs u ≡ Good (picked places u ++ behind)
  columns-before kinds [] = good
  columns-before kinds (place ∷ places) = ap (both (λ v vs. v ∷ vs) (Good (value_at u place))) (columns-before kinds places)

  nulls-before : (kinds : List Kind) → items_on (map null_item kinds ++ more) env no_subs u ≡ Good (nulls (length kinds) ++ behind)
  nulls-before [] = good
  nulls-before (kind ∷ kinds) = ap (both (λ v vs. v ∷ vs) (Good Null)) (nulls-before kinds)

-- ---- NULLs beside columns

module _ (q : Query) (before : List ℕ) (kinds : List Kind) (behind : List ℕ) where
  abbrev items : List Item
  items = padded_items (kinds_of q) before kinds behind

  abbrev pub padded_query : Query
  padded_query = ProjectOf q items [] end_of-Sublink

  abbrev first : List Item
  first = column_items (kinds_of q) before

  abbrev middle : List Item
  middle = map null_item kinds

  abbrev last : List Item
  last = column_items (kinds_of q) behind

  padded-give : (env : List Row) (u : Row) → items_on items env no_subs u ≡ Good (padded_row before (length kinds) behind u)
  padded-give env u =
      ap (λ all. items_on all env no_subs u) (append_assoc first middle last)
      ∙ columns-before env u (middle ++ last) (nulls (length kinds) ++ picked behind u)
      (nulls-before env u last (picked behind u) (column_items-give (kinds_of q) behind env u) kinds) (kinds_of q) before
      ∙ ap Good (sym (append_assoc (picked before u) (nulls (length kinds)) (picked behind u)))

  pub kinds_of-padded : kinds_of padded_query ≡ kinds_in (kinds_of q) before ++ kinds ++ kinds_in (kinds_of q) behind
  kinds_of-padded =
      kinds-append (first ++ middle) last
      ∙ ap (λ ks. ks ++ item_kinds last) (kinds-append first middle)
      ∙ (λ i. column_items-kinds (kinds_of q) before i ++ null_items-kinds kinds i ++ column_items-kinds (kinds_of q) behind i)

  pub meaning-padded : (db : Database) (env : List Row) → meaning padded_query db env ≡ mapped (map (padded_row before (length kinds) behind)) (meaning q db env)
  meaning-padded db env = rows-with_lists _ _ ∙ by_input (meaning q db env) where
    by_input : (o : Outcome Bag) → and_then o (each (items_on items env no_subs)) ≡ mapped (map (padded_row before (length kinds) behind)) o
    by_input (Good bag) = each-good (padded_row before (length kinds) behind) (items_on items env no_subs) (padded-give env) bag
    by_input (Bad faults) = refl

  pub formed-padded : PlacesWithin (width_of q) before → PlacesWithin (width_of q) behind → (outer : List (List Kind)) → WellFormed outer q → WellFormed outer padded_query
  formed-padded within_first within_last outer w =
      let scopes = kinds_of q ∷ outer in
      let parts : ItemsForm scopes [] items =
      items-append scopes (first ++ middle) last
      (items-append scopes first middle (column_items-formed (kinds_of q) outer before within_first) (null_items-formed kinds scopes))
      (column_items-formed (kinds_of q) outer behind within_last) in
      record { input = w; subs = tt; items = parts }
