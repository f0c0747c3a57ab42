-- What one more column makes of what a name means, and what a reference means in one scope.
use Rattle.std.specs.Prelude.{◌≡◌, ℕ, zero, suc, ◌+◌, ◌<◌, ◌&&◌, Bool, true, false, cond, nat_eq, List, [], ◌∷◌, ◌++◌, length, Some, option_map}
use Rattle.std.specs.List.{filter, enumerate_from}
use Rattle.std.proofs.Common.{refl, take, drop, get_or, ap, sym, ◌∙◌, append-nil, arith}
use Rattle.std.proofs.lemmas.Bool.Decides.{nat_tests}
use Rattle.std.proofs.lemmas.List.{take-append-drop}
use Rattle.std.proofs.lemmas.List.Elements.{filter-append, filter_more}
use Rattle.std.proofs.lemmas.List.FromFn.{length-enumerate_from, get_or-enumerate_from}
use Rattle.name_meaning.specs.Ascending.{Below, From}
use Rattle.name_meaning.specs.Scopes.{Placed, if_some, found_among, is_called, is_meant}
use Rattle.name_meaning.specs.declared.scope.Scope.{Scope}
use Rattle.name_meaning.specs.declared.scope.ScopeColumn.{ScopeColumn}
use Rattle.name_seen_parts.specs.Named.{named_of, with_column, found_of, found_if_any}

with-behind : (meant : Bool) (columns : List Placed) (column : Placed)
    → named_of (columns ++ cond meant (column ∷ []) []) ≡ cond meant (with_column (named_of columns) column.0 column.1.kind) (named_of columns)
with-behind true [] column = refl
with-behind true (first ∷ []) column = refl
with-behind true (first ∷ other ∷ more) column = refl
with-behind false [] column = refl
with-behind false (first ∷ []) column = refl
with-behind false (first ∷ other ∷ more) column = refl

pub filtered-more : (p : Placed → Bool) (columns : List ScopeColumn) (place : ℕ) (column : ScopeColumn) → place < length columns
    → column ≡ get_or columns place column
    → filter p (take (place + 1) (enumerate_from 0 columns)) ≡ filter p (take place (enumerate_from 0 columns)) ++ cond (p (place, column)) ((place, column) ∷ []) []
filtered-more p columns place column within e =
    let none : 0 + place ≡ place = omega arith in
    let here : ◌≡◌ {A = ℕ × ScopeColumn} (0 + place, get_or columns place column) (place, column) =
    ap (λ n. (n, get_or columns place column)) none ∙ ap (λ (c : ScopeColumn). (place, c)) (sym e) in
    filter_more p (enumerate_from 0 columns) place (0, column) (rw length-enumerate_from within)
    ∙ ap (λ (g : Placed). filter p (take place (enumerate_from 0 columns)) ++ cond (p g) (g ∷ []) [])
    (get_or-enumerate_from 0 columns place (0, column) within ∙ here)

-- the state of the loop with one more column
pub named-more : (p : Placed → Bool) (columns : List ScopeColumn) (place : ℕ) (column : ScopeColumn) → place < length columns
    → column ≡ get_or columns place column
    → named_of (filter p (take (place + 1) (enumerate_from 0 columns)))
    ≡ cond (p (place, column)) (with_column (named_of (filter p (take place (enumerate_from 0 columns)))) place column.kind)
    (named_of (filter p (take place (enumerate_from 0 columns))))
named-more p columns place column within e =
    ap named_of (filtered-more p columns place column within e)
    ∙ with-behind (p (place, column)) (filter p (take place (enumerate_from 0 columns))) (place, column)

pub found-in-any : (level : ℕ) (scope : Scope) (columns : List Placed)
    → found_if_any level scope (named_of columns) ≡ option_map (found_among level scope) (if_some columns)
found-in-any level scope [] = refl
found-in-any level scope (first ∷ []) = refl
found-in-any level scope (first ∷ other ∷ more) = refl

pub found-in-item : (level : ℕ) (scope : Scope) (columns : List Placed) → found_of level scope (named_of columns) ≡ found_among level scope columns
found-in-item level scope [] = refl
found-in-item level scope (first ∷ []) = refl
found-in-item level scope (first ∷ other ∷ more) = refl

-- ---- the columns of one item

-- no column of another item is meant
module _ (number : ℕ) (name : List ℕ) where
  passed : (k : ℕ) (column : ScopeColumn) (columns : List Placed) → nat_eq number column.item ≡ false
      → filter (is_meant (Some number) name) ((k, column) ∷ columns) ≡ filter (is_meant (Some number) name) columns
  passed k column columns other =
      ap (λ (same : Bool). cond (same && is_called name (k, column)) ((k, column) ∷ filter (is_meant (Some number) name) columns) (filter (is_meant (Some number) name) columns)) other

  pub none-below : (k : ℕ) (columns : List ScopeColumn) (m : ℕ) → Below number (take m columns)
      → filter (is_meant (Some number) name) (take m (enumerate_from k columns)) ≡ []
  none-below k [] zero b = refl
  none-below k [] (suc m) b = refl
  none-below k (column ∷ columns) zero b = refl
  none-below k (column ∷ columns) (suc m) b =
      let other : nat_eq number column.item ≡ false = grind (arith, nat_tests, b.0) in
      passed k column (take m (enumerate_from (k + 1) columns)) other ∙ none-below (k + 1) columns m b.1

  none-after : (k : ℕ) (columns : List ScopeColumn) → From (suc number) columns → filter (is_meant (Some number) name) (enumerate_from k columns) ≡ []
  none-after k [] f = refl
  none-after k (column ∷ columns) f =
      let other : nat_eq number column.item ≡ false = grind (arith, nat_tests, f.0) in
      passed k column (enumerate_from (k + 1) columns) other ∙ none-after (k + 1) columns f.1

  pub none-behind : (k : ℕ) (columns : List ScopeColumn) (m : ℕ) → From (suc number) (drop m columns)
      → filter (is_meant (Some number) name) (drop m (enumerate_from k columns)) ≡ []
  none-behind k [] zero f = refl
  none-behind k [] (suc m) f = refl
  none-behind k (column ∷ columns) zero f = none-after k (column ∷ columns) f
  none-behind k (column ∷ columns) (suc m) f = none-behind (k + 1) columns m f

-- nothing is missed behind the place from which on nothing is meant
pub all-before : (p : Placed → Bool) (columns : List Placed) (end : ℕ) → filter p (drop end columns) ≡ [] → filter p (take end columns) ≡ filter p columns
all-before p columns end none =
    sym (ap (filter p) (sym (take-append-drop end columns)) ∙ filter-append p (take end columns) (drop end columns)
    ∙ ap (λ (more : List Placed). filter p (take end columns) ++ more) none ∙ append-nil (filter p (take end columns)))
