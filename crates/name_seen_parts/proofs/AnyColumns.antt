-- Whether one of the columns for which a star stands passes a test, one column after the other.
use Rattle.std.specs.Prelude.{◌≡◌, ℕ, ◌+◌, ◌<◌, Bool, true, false, cond, ◌&&◌, ◌||◌, List, [], ◌∷◌, ◌++◌, length, filter, Option, Some, None}
use Rattle.std.specs.List.{enumerate_from, list_any}
use Rattle.std.proofs.Common.{refl, take, get_or, ap, sym, ◌∙◌}
use Rattle.name_meaning.specs.Scopes.{Placed, placed}
use Rattle.name_meaning.specs.declared.scope.Scope.{Scope}
use Rattle.name_meaning.specs.declared.scope.ScopeColumn.{ScopeColumn}
use Rattle.name_seen_parts.specs.Stars.{is_in_item, columns_of}
use Rattle.name_seen_parts.proofs.Matches.{filtered-more}
use Rattle.bag_algebra.proofs.Truths.{or_associates}

any-behind : {X : Type 0} (test : X → Bool) (xs : List X) (chosen : Bool) (x : X)
    → list_any test (xs ++ cond chosen (x ∷ []) []) ≡ (list_any test xs || (chosen && test x))
any-behind test [] true x = last (test x) where
  last : (b : Bool) → (b || false) ≡ b
  last true = refl
  last false = refl
any-behind test [] false x = refl
any-behind test (y ∷ ys) chosen x =
    ap (λ rest. test y || rest) (any-behind test ys chosen x) ∙ sym (or_associates (test y) (list_any test ys) (chosen && test x))

pub any-more : (test : Placed → Bool) (p : Placed → Bool) (columns : List ScopeColumn) (place : ℕ) (column : ScopeColumn) → place < length columns
    → column ≡ get_or columns place column
    → list_any test (filter p (take (place + 1) (enumerate_from 0 columns)))
    ≡ (list_any test (filter p (take place (enumerate_from 0 columns))) || (p (place, column) && test (place, column)))
any-more test p columns place column within e =
    ap (list_any test) (filtered-more p columns place column within e)
    ∙ any-behind test (filter p (take place (enumerate_from 0 columns))) (p (place, column)) (place, column)

all-kept : (columns : List Placed) → filter (is_in_item None) columns ≡ columns
all-kept [] = refl
all-kept (column ∷ columns) = ap (λ rest. column ∷ rest) (all-kept columns)

pub columns-are : (item : Option ℕ) (scope : Scope) → filter (is_in_item item) (placed scope) ≡ columns_of item scope
columns-are None scope = all-kept (placed scope)
columns-are (Some number) scope = refl
