-- Scopes put together, and what FROM means with one more item, join or source.
use Rattle.std.specs.Prelude.{◌≡◌, ℕ, suc, ◌+◌, List, [], ◌∷◌, ◌++◌, length, map, None}
use Rattle.std.proofs.Common.{refl, ap, sym, ◌∙◌, append_assoc, append-nil, arith}
use Rattle.std.proofs.lemmas.List.{map-append}
use Rattle.name_meaning.specs.Froms.{FromMeant, FromPart, from_more, from_all, beside_from}
use Rattle.name_meaning.specs.Scopes.{KnownColumn, ScopeItem, scope_of, columns_from, numbered_columns}
use Rattle.name_meaning.specs.declared.scope.Scope.{Scope}
use Rattle.name_meaning.specs.declared.scope.ScopeColumn.{ScopeColumn}
use Rattle.name_seen_parts.specs.Scopes.{moved_by, scope_beside}

-- ---- scopes

moved-numbered : (k n : ℕ) (columns : List KnownColumn) → map (moved_by k) (numbered_columns n columns) ≡ numbered_columns (k + n) columns
moved-numbered k n [] = refl
moved-numbered k n (column ∷ columns) =
    ap (λ (rest : List ScopeColumn). record { item = k + n; name = column.name; kind = column.kind } ∷ rest) (moved-numbered k n columns)

moved-columns : (k n : ℕ) (items : List ScopeItem) → map (moved_by k) (columns_from n items) ≡ columns_from (k + n) items
moved-columns k n [] = refl
moved-columns k n (item ∷ items) =
    let next : k + suc n ≡ suc (k + n) = omega arith in
    map-append (moved_by k) (numbered_columns n item.columns) (columns_from (suc n) items)
    ∙ ap (λ (columns : List ScopeColumn). columns ++ map (moved_by k) (columns_from (suc n) items)) (moved-numbered k n item.columns)
    ∙ ap (λ (columns : List ScopeColumn). numbered_columns (k + n) item.columns ++ columns) (moved-columns k (suc n) items)
    ∙ ap (λ (number : ℕ). numbered_columns (k + n) item.columns ++ columns_from number items) next

-- the columns of one item, behind as many items
item-moved : (k : ℕ) (columns : List KnownColumn) → map (moved_by k) (numbered_columns 0 columns ++ []) ≡ numbered_columns k columns
item-moved k columns =
    let first : k + 0 ≡ k = omega arith in
    ap (map (moved_by k)) (append-nil (numbered_columns 0 columns)) ∙ moved-numbered k 0 columns ∙ ap (λ (number : ℕ). numbered_columns number columns) first

pub item-beside : (scope : Scope) (name : List ℕ) (columns : List KnownColumn) (number : ℕ) → number ≡ length scope.items
    → scope.columns ++ numbered_columns number columns ≡ (scope_beside scope (scope_of (record { name = name; columns = columns } ∷ []))).columns
item-beside scope name columns number is =
    ap (λ (more : List ScopeColumn). scope.columns ++ more)
    (sym (item-moved number columns) ∙ ap (λ (k : ℕ). map (moved_by k) (numbered_columns 0 columns ++ [])) is)

columns-behind : (n : ℕ) (xs ys : List ScopeItem) → columns_from n (xs ++ ys) ≡ columns_from n xs ++ columns_from (length xs + n) ys
columns-behind n [] ys =
    let none : n ≡ 0 + n = omega arith in
    ap (λ (number : ℕ). columns_from number ys) none
columns-behind n (x ∷ xs) ys =
    let next : length xs + suc n ≡ suc (length xs) + n = omega arith in
    ap (λ (columns : List ScopeColumn). numbered_columns n x.columns ++ columns) (columns-behind (suc n) xs ys)
    ∙ sym (append_assoc (numbered_columns n x.columns) (columns_from (suc n) xs) (columns_from (length xs + suc n) ys))
    ∙ ap (λ (number : ℕ). (numbered_columns n x.columns ++ columns_from (suc n) xs) ++ columns_from number ys) next

abbrev scope_with : List (List ℕ) → List ScopeColumn → Scope
scope_with items columns = record { items = items; columns = columns; groups = None }

length-names : (items : List ScopeItem) → length (scope_of items).items ≡ length items
length-names [] = refl
length-names (item ∷ items) = ap suc (length-names items)

pub scope-beside-is : (xs ys : List ScopeItem) → scope_beside (scope_of xs) (scope_of ys) ≡ scope_of (xs ++ ys)
scope-beside-is xs ys =
    ap (λ (columns : List ScopeColumn). scope_with ((scope_of xs).items ++ (scope_of ys).items) (columns_from 0 xs ++ columns)) (moved-columns (length (scope_of xs).items) 0 ys)
    ∙ ap (λ (count : ℕ). scope_with ((scope_of xs).items ++ (scope_of ys).items) (columns_from 0 xs ++ columns_from (count + 0) ys)) (length-names xs)
    ∙ ap (λ (columns : List ScopeColumn). scope_with ((scope_of xs).items ++ (scope_of ys).items) columns) (sym (columns-behind 0 xs ys))
    ∙ ap (λ (items : List (List ℕ)). scope_with items (columns_from 0 (xs ++ ys))) (sym (map-append (λ (item : ScopeItem). item.name) xs ys))

-- ---- FROM with one more source

pub more-behind : (outer : List Scope) (left : FromMeant) (parts : List FromPart) (part : FromPart)
    → from_more outer left (parts ++ part ∷ [])
    ≡ beside_from (from_more outer left parts) (part.means outer (from_more outer left parts).names)
more-behind outer left [] part = refl
more-behind outer left (first ∷ parts) part = more-behind outer (beside_from left (first.means outer left.names)) parts part

pub all-behind : (outer : List Scope) (first : FromPart) (parts : List FromPart) (part : FromPart)
    → from_all outer ((first ∷ parts) ++ part ∷ [])
    ≡ beside_from (from_all outer (first ∷ parts)) (part.means outer (from_all outer (first ∷ parts)).names)
all-behind outer first parts part = more-behind outer (first.means outer []) parts part
