-- The items of a SELECT list are made well formed in the rows of their core.
use Rattle.std.specs.Prelude.{◌≡◌, ℕ, Bool, true, false, List, [], ◌∷◌, ◌++◌, map, take, drop, Option, Some, None}
use Rattle.std.proofs.Common.{refl, subst}
use Rattle.std.proofs.lemmas.List.Elements.{All-nil, All-cons, All-append}
use Rattle.std.specs.List.{list_any, AllByRecursion as Every}
use Rattle.std.specs.Option.{option_map_or}
use Rattle.perm_values.specs.declared.kind.Kind.{Kind}
use Rattle.perm_values.proofs.Lists.{front-none, back-none}
use Rattle.bag_algebra.specs.WellFormed.{HasKind, ItemsForm}
use Rattle.bag_algebra.specs.declared.expr.Expr.TheVariants.{Col}
use Rattle.bag_algebra.specs.declared.expr.Item.{Item}
use Rattle.sql_tree.specs.declared.name.Name.{Name}
use Rattle.bag_algebra.proofs.Truths.{left-false, right-false}
use Rattle.name_meaning.specs.Items.{Made, SelectMeant, SelectPart, column_item, columns_meant, no_columns, star_meant, table_star_meant, first_wanted, value_meant, width_of_item, made_items, items_breaks}
use Rattle.name_meaning.specs.Meanings.{Surroundings, Before, Meant, settled}
use Rattle.name_meaning.specs.Operands.{behind}
use Rattle.name_meaning.specs.Scopes.{Placed, placed, item_columns, place_among}
use Rattle.name_meaning.specs.Sublinks.{null_at}
use Rattle.name_meaning.specs.declared.scope.Scope.{Scope}
use Rattle.name_meaning.specs.laws.Formed.{IsFormed}
use Rattle.name_meaning.specs.laws.Standing.{RowsHold}
use Rattle.name_meaning.proofs.FoundColumns.{IsPlaced, all-placed, item-placed}
use Rattle.name_meaning.proofs.FormedParts.{formed-none, formed-map, formed-both}
use Rattle.name_meaning.proofs.GoodMeant.{GoodMeant, IsPlain}
use Rattle.name_meaning.proofs.Arms.{null-holds}
use Rattle.name_meaning.proofs.SettledKinds.{settled-twice}

abbrev pub IsFormedList : Surroundings → Before → Made → Type 0
IsFormedList here before made =
    IsFormed here before made.subs made.aggregates (λ (rows : List (List Kind)) (subs : List Kind). ItemsForm rows subs made.items)

abbrev pub GoodSelect : Surroundings → SelectMeant → Type 0
GoodSelect here m = m.breaks ≡ [] → (wanted : List Kind) (before : Before) → IsFormedList here before (m.make wanted before)

abbrev pub PlainSelect : SelectMeant → Type 0
PlainSelect m = (wanted : List Kind) (before : Before) → (m.make wanted before).aggregates ≡ []

-- where the list stands in a core of this scope
pub record GoodItem (item : SelectPart) : Type 0 where
  pub formed : (has_from : Bool) (scope : Scope) (outer : List Scope) (here : Surroundings) → here.scopes ≡ scope ∷ outer
      → GoodSelect here (item.means has_from scope here)
  pub plain : item.aggregating ≡ false → (has_from : Bool) (scope : Scope) (here : Surroundings) → PlainSelect (item.means has_from scope here)

-- ---- several columns

column-form : (scope : Scope) (outer : List Scope) (rows : List (List Kind)) (subs : List Kind) (column : Placed) → RowsHold (scope ∷ outer) rows
    → IsPlaced scope.columns column → HasKind rows subs (column_item scope column).expr column.1.kind
column-form scope outer [] subs column hold placed = absurd hold
column-form scope outer (row ∷ rows) subs column hold placed = chosen (place_among scope.groups column.0) refl where
  chosen : (at : Option ℕ) → place_among scope.groups column.0 ≡ at → HasKind (row ∷ rows) subs (option_map_or (Col 0) at (null_at column.1.kind)) column.1.kind
  chosen None e = null-holds (row ∷ rows) subs column.1.kind
  chosen (Some at) e = hold.0 column.0 at column.1 placed e

columns-form : (scope : Scope) (outer : List Scope) (rows : List (List Kind)) (subs : List Kind) (columns : List Placed) → RowsHold (scope ∷ outer) rows
    → Every (IsPlaced scope.columns) columns → ItemsForm rows subs (map (column_item scope) columns)
columns-form scope outer rows subs [] hold placed = All-nil _
columns-form scope outer rows subs (c ∷ columns) hold placed =
    All-cons (λ (item : Item). HasKind rows subs item.expr item.kind) (column_item scope c) (map (column_item scope) columns)
    (column-form scope outer rows subs c hold placed.0) (columns-form scope outer rows subs columns hold placed.1)

good-columns : (scope : Scope) (outer : List Scope) (here : Surroundings) (at : ℕ) (columns : List Placed) → here.scopes ≡ scope ∷ outer
    → Every (IsPlaced scope.columns) columns → GoodSelect here (columns_meant scope at columns)
good-columns scope outer here at columns is placed whole wanted n =
    formed-none here n _ (λ rows subs hold. columns-form scope outer rows subs columns (subst (λ scopes. RowsHold scopes rows) is hold) placed)

pub good-star : (at : ℕ) (has_from : Bool) (scope : Scope) (outer : List Scope) (here : Surroundings) → here.scopes ≡ scope ∷ outer
    → GoodSelect here (star_meant has_from scope at)
good-star at true scope outer here is = good-columns scope outer here at (placed scope) is (all-placed scope)
good-star at false scope outer here is = λ whole wanted n. absurd (cc whole)

pub plain-star : (at : ℕ) (has_from : Bool) (scope : Scope) → PlainSelect (star_meant has_from scope at)
plain-star at true scope wanted n = refl
plain-star at false scope wanted n = refl

pub good-table_star : (table : Name) (scope : Scope) (outer : List Scope) (here : Surroundings) → here.scopes ≡ scope ∷ outer
    → GoodSelect here (table_star_meant scope table)
good-table_star table scope outer here is = chosen (item_columns table.text scope) refl where
  chosen : (columns : Option (List Placed)) → item_columns table.text scope ≡ columns
      → GoodSelect here (option_map_or (columns_meant scope table.at) columns (no_columns table.at))
  chosen None e = λ whole wanted n. absurd (cc whole)
  chosen (Some columns) e = good-columns scope outer here table.at columns is (item-placed table.text scope columns e)

pub plain-table_star : (table : Name) (scope : Scope) → PlainSelect (table_star_meant scope table)
plain-table_star table scope = chosen (item_columns table.text scope) where
  chosen : (columns : Option (List Placed)) → PlainSelect (option_map_or (columns_meant scope table.at) columns (no_columns table.at))
  chosen None = λ wanted n. refl
  chosen (Some columns) = λ wanted n. refl

-- ---- an expression

pub good-value : (name : Option (List ℕ)) (here : Surroundings) (m : Meant) → GoodMeant here m → GoodSelect here (value_meant name m)
good-value name here m good whole wanted n =
    let kind = settled m.kind (first_wanted wanted) in
    let made = m.make kind n in
    formed-map here n made.subs made.aggregates _ _
    (λ rows subs h. All-cons (λ (item : Item). HasKind rows subs item.expr item.kind) _ []
    (subst (HasKind rows subs made.expr) (settled-twice m.kind (first_wanted wanted)) h) (All-nil _))
    (good whole kind n)

pub plain-value : (name : Option (List ℕ)) (m : Meant) → IsPlain m → PlainSelect (value_meant name m)
plain-value name m plain wanted n = plain (settled m.kind (first_wanted wanted)) n

-- ---- the list

pub good-list : (here : Surroundings) (ms : List SelectMeant) (wanted : List Kind) (n : Before) → Every (GoodSelect here) ms → items_breaks ms ≡ []
    → IsFormedList here n (made_items ms wanted n)
good-list here [] wanted n good whole = formed-none here n _ (λ rows subs hold. All-nil _)
good-list here (m ∷ ms) wanted n good whole =
    let width = width_of_item m in
    let first : Made = m.make (take width wanted) n in
    let rest : Made = made_items ms (drop width wanted) (behind n first.subs first.aggregates) in
    formed-map here n (first.subs ++ rest.subs) (first.aggregates ++ rest.aggregates) _ _
    (λ rows subs h. All-append (λ (item : Item). HasKind rows subs item.expr item.kind) first.items rest.items h.0 h.1)
    (formed-both here n first.subs rest.subs first.aggregates rest.aggregates
    (λ (rows : List (List Kind)) (subs : List Kind). ItemsForm rows subs first.items)
    (λ (rows : List (List Kind)) (subs : List Kind). ItemsForm rows subs rest.items)
    (good.0 (front-none m.breaks (items_breaks ms) whole) (take width wanted) n)
    (good-list here ms (drop width wanted) (behind n first.subs first.aggregates) good.1 (back-none m.breaks (items_breaks ms) whole)))

pub plain-list : (ms : List SelectMeant) (wanted : List Kind) (n : Before) → Every PlainSelect ms → (made_items ms wanted n).aggregates ≡ []
plain-list [] wanted n plain = refl
plain-list (m ∷ ms) wanted n plain =
    let width = width_of_item m in
    let first : Made = m.make (take width wanted) n in
    λ i. plain.0 (take width wanted) n i ++ plain-list ms (drop width wanted) (behind n first.subs first.aggregates) plain.1 i

pub items-good : (has_from : Bool) (scope : Scope) (outer : List Scope) (here : Surroundings) → here.scopes ≡ scope ∷ outer → (items : List SelectPart)
    → Every GoodItem items → Every (GoodSelect here) (map (λ (item : SelectPart). item.means has_from scope here) items)
items-good has_from scope outer here is [] h = tt
items-good has_from scope outer here is (item ∷ items) h =
    (h.0.formed has_from scope outer here is, items-good has_from scope outer here is items h.1)

pub items-plain : (has_from : Bool) (scope : Scope) (here : Surroundings) (items : List SelectPart) → Every GoodItem items
    → list_any (λ (item : SelectPart). item.aggregating) items ≡ false
    → Every PlainSelect (map (λ (item : SelectPart). item.means has_from scope here) items)
items-plain has_from scope here [] h e = tt
items-plain has_from scope here (item ∷ items) h e =
    let more = list_any (λ (item : SelectPart). item.aggregating) items in
    (h.0.plain (left-false item.aggregating more e) has_from scope here, items-plain has_from scope here items h.1 (right-false item.aggregating more e))
