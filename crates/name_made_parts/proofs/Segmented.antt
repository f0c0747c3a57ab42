-- The items of a scope behind the first ones, with their columns.
use Rattle.std.specs.Prelude.{◌≡◌, ℕ, suc, ◌+◌, ◌-◌, ◌<◌, ◌≤◌, Bool, true, false, cond, List, [], ◌∷◌, ◌++◌, length, map, nat_lt, Option, Some, None}
use Rattle.std.proofs.Common.{inl, inr, refl, ap, sym, ◌∙◌, arith, get_or, take, drop, append_assoc, length-append}
use Rattle.std.proofs.Math.Seq.{take-append_seam, drop-append_seam}
use Rattle.std.proofs.lemmas.Bool.{cases_lt}
use Rattle.std.proofs.lemmas.Bool.Decides.{nat_tests}
use Rattle.std.proofs.lemmas.List.{append-nil, drop_all, drop-append-le, length-drop, length-map, length-take-le, map-append, take_all, take_more, take-append-le}
use Rattle.name_meaning.specs.Scopes.{KnownColumn, ScopeItem, columns_from, numbered_columns, scope_of}
use Rattle.name_meaning.specs.declared.scope.Scope.{Scope}
use Rattle.name_meaning.specs.declared.scope.ScopeColumn.{ScopeColumn}
use Rattle.name_meaning.proofs.Joins.{columns_from-append}
use Rattle.name_made_parts.specs.Segments.{back_in, column_in, columns_in, name_in}
use Rattle.name_made_parts.specs.Sources.{StandsIn}

-- ---- numbers

back-before : (first count number : ℕ) → number < first → back_in first count number ≡ None
back-before first count number before = grind (arith, nat_tests)

back-within : (first count number : ℕ) → number < count → back_in first count (first + number) ≡ Some number
back-within first count number within =
    let not_before : nat_lt (first + number) first ≡ false = grind (arith, nat_tests) in
    let same : first + number - first ≡ number = omega arith in
    let inside : nat_lt number count ≡ true = grind (arith, nat_tests) in
    ap (λ (b : Bool). cond b None (cond (nat_lt (first + number - first) count) (Some (first + number - first)) None)) not_before
    ∙ ap (λ (n : ℕ). cond (nat_lt n count) (Some n) None) same
    ∙ ap (λ (b : Bool). cond b (Some number) None) inside

back-behind : (first count number : ℕ) → first + count ≤ number → back_in first count number ≡ None
back-behind first count number behind =
    let not_before : nat_lt number first ≡ false = grind (arith, nat_tests) in
    let outside : nat_lt (number - first) count ≡ false = grind (arith, nat_tests) in
    ap (λ (b : Bool). cond b None (cond (nat_lt (number - first) count) (Some (number - first)) None)) not_before
    ∙ ap (λ (b : Bool). cond b (Some (number - first)) None) outside

-- ---- columns

pub columns-append : (first count : ℕ) (columns more : List ScopeColumn) → columns_in first count (columns ++ more) ≡ columns_in first count columns ++ columns_in first count more
columns-append first count [] more = refl
columns-append first count (column ∷ columns) more =
    ap (λ (rest : List ScopeColumn). column_in (back_in first count column.item) column ++ rest) (columns-append first count columns more)
    ∙ sym (append_assoc (column_in (back_in first count column.item) column) (columns_in first count columns) (columns_in first count more))

none-numbered : (first count number : ℕ) (columns : List KnownColumn) → back_in first count number ≡ None → columns_in first count (numbered_columns number columns) ≡ []
none-numbered first count number [] none = refl
none-numbered first count number (column ∷ columns) none =
    ap (λ (back : Option ℕ). column_in back (record { item = number; name = column.name; kind = column.kind }) ++ columns_in first count (numbered_columns number columns)) none
    ∙ none-numbered first count number columns none

some-numbered : (first count number back : ℕ) (columns : List KnownColumn) → back_in first count number ≡ Some back
    → columns_in first count (numbered_columns number columns) ≡ numbered_columns back columns
some-numbered first count number back [] some = refl
some-numbered first count number back (column ∷ columns) some =
    ap (λ (b : Option ℕ). column_in b (record { item = number; name = column.name; kind = column.kind }) ++ columns_in first count (numbered_columns number columns)) some
    ∙ ap (λ (rest : List ScopeColumn). record { item = back; name = column.name; kind = column.kind } ∷ rest) (some-numbered first count number back columns some)

none-before : (first count number : ℕ) (items : List ScopeItem) → number + length items ≤ first → columns_in first count (columns_from number items) ≡ []
none-before first count number [] within = refl
none-before first count number (item ∷ items) within =
    let this : number < first = omega (arith, within) in
    let rest : suc number + length items ≤ first = omega (arith, within) in
    columns-append first count (numbered_columns number item.columns) (columns_from (suc number) items)
    ∙ ap (λ (columns : List ScopeColumn). columns ++ columns_in first count (columns_from (suc number) items))
    (none-numbered first count number item.columns (back-before first count number this))
    ∙ none-before first count (suc number) items rest

all-within : (first count number : ℕ) (items : List ScopeItem) → number + length items ≤ count
    → columns_in first count (columns_from (first + number) items) ≡ columns_from number items
all-within first count number [] within = refl
all-within first count number (item ∷ items) within =
    let this : number < count = omega (arith, within) in
    let rest : suc number + length items ≤ count = omega (arith, within) in
    let next : suc (first + number) ≡ first + suc number = omega arith in
    columns-append first count (numbered_columns (first + number) item.columns) (columns_from (suc (first + number)) items)
    ∙ ap (λ (columns : List ScopeColumn). columns ++ columns_in first count (columns_from (suc (first + number)) items))
    (some-numbered first count (first + number) number item.columns (back-within first count number this))
    ∙ ap (λ (n : ℕ). numbered_columns number item.columns ++ columns_in first count (columns_from n items)) next
    ∙ ap (λ (columns : List ScopeColumn). numbered_columns number item.columns ++ columns) (all-within first count (suc number) items rest)

none-behind : (first count number : ℕ) (items : List ScopeItem) → first + count ≤ number → columns_in first count (columns_from number items) ≡ []
none-behind first count number [] behind = refl
none-behind first count number (item ∷ items) behind =
    let rest : first + count ≤ suc number = omega (arith, behind) in
    columns-append first count (numbered_columns number item.columns) (columns_from (suc number) items)
    ∙ ap (λ (columns : List ScopeColumn). columns ++ columns_in first count (columns_from (suc number) items))
    (none-numbered first count number item.columns (back-behind first count number behind))
    ∙ none-behind first count (suc number) items rest

own-columns : (before own after : List ScopeItem) → columns_in (length before) (length own) (columns_from 0 (before ++ (own ++ after))) ≡ columns_from 0 own
own-columns before own after =
    let first = length before in
    let count = length own in
    let none : 0 + length before ≤ first = omega arith in
    let all : 0 + length own ≤ count = omega arith in
    let start : 0 + length before ≡ first + 0 = omega arith in
    let behind : first + count ≤ first + 0 + length own = omega arith in
    ap (columns_in first count) (columns_from-append 0 before (own ++ after))
    ∙ columns-append first count (columns_from 0 before) (columns_from (0 + length before) (own ++ after))
    ∙ ap (λ (columns : List ScopeColumn). columns ++ columns_in first count (columns_from (0 + length before) (own ++ after))) (none-before first count 0 before none)
    ∙ ap (λ (n : ℕ). columns_in first count (columns_from n (own ++ after))) start
    ∙ ap (columns_in first count) (columns_from-append (first + 0) own after)
    ∙ columns-append first count (columns_from (first + 0) own) (columns_from (first + 0 + length own) after)
    ∙ ap (λ (columns : List ScopeColumn). columns ++ columns_in first count (columns_from (first + 0 + length own) after)) (all-within first count 0 own all)
    ∙ ap (λ (columns : List ScopeColumn). columns_from 0 own ++ columns) (none-behind first count (first + 0 + length own) after behind)
    ∙ append-nil (columns_from 0 own)

-- ---- names

abbrev name_of_item : ScopeItem → List ℕ
name_of_item item = item.name

seam : {X : Type 0} (before own after : List X) → take (length own) (drop (length before) (before ++ (own ++ after))) ≡ own
seam before own after = ap (take (length own)) (drop-append_seam before (own ++ after)) ∙ take-append_seam own after

own-names : (before own after : List ScopeItem) → take (length own) (drop (length before) (map name_of_item (before ++ (own ++ after)))) ≡ map name_of_item own
own-names before own after =
    ap (λ (names : List (List ℕ)). take (length own) (drop (length before) names))
    (map-append name_of_item before (own ++ after) ∙ ap (λ (names : List (List ℕ)). map name_of_item before ++ names) (map-append name_of_item own after))
    ∙ ap (λ (n : ℕ). take n (drop (length before) (map name_of_item before ++ (map name_of_item own ++ map name_of_item after)))) (sym (length-map own name_of_item))
    ∙ ap (λ (n : ℕ). take (length (map name_of_item own)) (drop n (map name_of_item before ++ (map name_of_item own ++ map name_of_item after)))) (sym (length-map before name_of_item))
    ∙ seam (map name_of_item before) (map name_of_item own) (map name_of_item after)

-- one more name
pub name-more : (first count : ℕ) (names : List (List ℕ)) (name : List ℕ)
    → take count (drop first (names ++ name ∷ [])) ≡ take count (drop first names) ++ name_in (back_in first count (length names)) name
name-more first count names name = elim (cases_lt (length names) first) [
  | inl before ↦ earlier before
  | inr behind ↦ elim (cases_lt (length names - first) count) [ inl within ↦ kept behind within | inr outside ↦ later behind outside ]
] where
  earlier : length names < first → take count (drop first (names ++ name ∷ [])) ≡ take count (drop first names) ++ name_in (back_in first count (length names)) name
  earlier before =
      let longer : length (names ++ name ∷ []) ≤ first = rw length-append (omega (arith, before)) in
      let none : length names ≤ first = omega (arith, before) in
      ap (take count) (drop_all first (names ++ name ∷ []) longer ∙ sym (drop_all first names none))
      ∙ sym (append-nil (take count (drop first names)))
      ∙ ap (λ (back : Option ℕ). take count (drop first names) ++ name_in back name) (sym (back-before first count (length names) before))

  kept : first ≤ length names → length names - first < count
      → take count (drop first (names ++ name ∷ [])) ≡ take count (drop first names) ++ name_in (back_in first count (length names)) name
  kept behind within =
      let same : first + (length names - first) ≡ length names = omega (arith, behind) in
      let here : length (drop first names) ≡ length names - first = length-drop first names in
      let all : length (drop first names ++ name ∷ []) ≤ count = rw length-append (omega (arith, here, within)) in
      let before : length (drop first names) ≤ count = omega (arith, here, within) in
      ap (take count) (drop-append-le first names (name ∷ []) behind) ∙ take_all count (drop first names ++ name ∷ []) all
      ∙ ap (λ (names : List (List ℕ)). names ++ name ∷ []) (sym (take_all count (drop first names) before))
      ∙ ap (λ (back : Option ℕ). take count (drop first names) ++ name_in back name)
      (sym (ap (back_in first count) (sym same) ∙ back-within first count (length names - first) within))

  later : first ≤ length names → count ≤ length names - first
      → take count (drop first (names ++ name ∷ [])) ≡ take count (drop first names) ++ name_in (back_in first count (length names)) name
  later behind outside =
      let here : length (drop first names) ≡ length names - first = length-drop first names in
      let short : count ≤ length (drop first names) = omega (arith, here, outside) in
      let far : first + count ≤ length names = omega (arith, behind, outside) in
      ap (take count) (drop-append-le first names (name ∷ []) behind) ∙ take-append-le count (drop first names) (name ∷ []) short
      ∙ sym (append-nil (take count (drop first names)))
      ∙ ap (λ (back : Option ℕ). take count (drop first names) ++ name_in back name) (sym (back-behind first count (length names) far))

-- ---- the scope

pub segment-is : (scope part : Scope) (items : List ScopeItem) (first count : ℕ) → StandsIn (Some items) first scope → length items ≡ count
    → part ≡ record { items = take count (drop first scope.items); columns = columns_in first count scope.columns; groups = None } → part ≡ scope_of items
segment-is scope part items first count stands counted is =
    let same : stands.own ≡ items = cc in
    let whole = stands.before ++ (stands.own ++ stands.after) in
    let names : scope.items ≡ map name_of_item whole = ap (λ (s : Scope). s.items) stands.scope_is in
    let columns : scope.columns ≡ columns_from 0 whole = ap (λ (s : Scope). s.columns) stands.scope_is in
    let n : count ≡ length stands.own = sym counted ∙ ap length (sym same) in
    is
    ∙ ap (λ (names : List (List ℕ)). record { items = take count (drop first names); columns = columns_in first count scope.columns; groups = None }) names
    ∙ ap (λ (columns : List ScopeColumn). record { items = take count (drop first (map name_of_item whole)); columns = columns_in first count columns; groups = None }) columns
    ∙ ap (λ (m : ℕ). record { items = take m (drop first (map name_of_item whole)); columns = columns_in first m (columns_from 0 whole); groups = None }) n
    ∙ ap (λ (m : ℕ). record { items = take (length stands.own) (drop m (map name_of_item whole)); columns = columns_in m (length stands.own) (columns_from 0 whole); groups = None }) (sym stands.at)
    ∙ ap (λ (names : List (List ℕ)). record { items = names; columns = columns_in (length stands.before) (length stands.own) (columns_from 0 whole); groups = None })
    (own-names stands.before stands.own stands.after)
    ∙ ap (λ (columns : List ScopeColumn). record { items = map name_of_item stands.own; columns = columns; groups = None }) (own-columns stands.before stands.own stands.after)
    ∙ ap scope_of same

-- ---- columns, one after the other

pub columns-more : (first count : ℕ) (columns : List ScopeColumn) (place : ℕ) (column : ScopeColumn) → place < length columns → column ≡ get_or columns place column
    → columns_in first count (take (place + 1) columns) ≡ columns_in first count (take place columns) ++ column_in (back_in first count column.item) column
columns-more first count columns place column within is =
    ap (columns_in first count) (take_more columns place column within ∙ ap (λ (x : ScopeColumn). take place columns ++ x ∷ []) (sym is))
    ∙ columns-append first count (take place columns) (column ∷ [])
    ∙ ap (λ (more : List ScopeColumn). columns_in first count (take place columns) ++ more) (append-nil (column_in (back_in first count column.item) column))

pub names-more : (first count : ℕ) (names : List (List ℕ)) (place : ℕ) (name : List ℕ) → place < length names → name ≡ get_or names place name
    → take count (drop first (take (place + 1) names)) ≡ take count (drop first (take place names)) ++ name_in (back_in first count place) name
names-more first count names place name within is =
    let short : place ≤ length names = omega (arith, within) in
    ap (λ (names : List (List ℕ)). take count (drop first names)) (take_more names place name within ∙ ap (λ (x : List ℕ). take place names ++ x ∷ []) (sym is))
    ∙ name-more first count (take place names) name
    ∙ ap (λ (n : ℕ). take count (drop first (take place names)) ++ name_in (back_in first count n) name) (length-take-le place names short)

pub no-names : (first count : ℕ) → ◌≡◌ {A = List (List ℕ)} [] (take count (drop first []))
no-names first count =
    let none : List (List ℕ) = [] in
    sym (ap (take count) (drop_all first none (omega arith)) ∙ take_all count none (omega arith))
