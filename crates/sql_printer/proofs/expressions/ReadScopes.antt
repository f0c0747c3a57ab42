-- Columns with printed names are found where they stand: in a scope whose columns are numbered, and through scopes further in.
use Rattle.std.proofs.Common.{◌≡◌, ◌≢◌, ℕ, zero, suc, ◌+◌, ◌<◌, ◌^◌, Bool, true, false, cond, List, [], ◌∷◌, ◌++◌, length, filter, drop, Some, None, refl, sym, ap, subst, ◌∙◌, append-nil, arith}
use Rattle.std.proofs.lemmas.Option.{none-some, same_Some}
use Rattle.std.specs.Prelude.{nat_eq, slice_get}
use Rattle.std.specs.Cmp.Lexicographic.{bytes_decides, pointwise}
use Rattle.std.specs.Fmt.{decimal}
use Rattle.std.specs.List.{enumerate_from}
use Rattle.std.specs.Option.{option_map_or}
use Rattle.std.specs.Str.Parse.{AllDigits}
use Rattle.std.proofs.lemmas.Fmt.{decimal_injective, decimal_is_IsNumeral}
use Rattle.perm_values.specs.declared.kind.Kind.{Kind}
use Rattle.bag_algebra.specs.WellFormed.{column_kind}
use Rattle.sql_tree.specs.declared.name.ColRef.{ColRef}
use Rattle.tree_texts.specs.expressions.Names.{column_name}
use Rattle.sql_printer.specs.rows.PrintedExpressions.{before}
use Rattle.sql_printer.proofs.rows.AskedNumbers.{get-below}
use Rattle.name_meaning.specs.Scopes.{Placed, columns_meant_by, found_among, if_some, is_called, look_up, meant_by, meant_in, place_among}
use Rattle.name_meaning.specs.declared.scope.Found.{Found}
use Rattle.name_meaning.specs.declared.scope.Found.TheVariants.{Column}
use Rattle.name_meaning.specs.declared.scope.Scope.{Scope}
use Rattle.name_meaning.specs.declared.scope.ScopeColumn.{ScopeColumn}
use Rattle.sql_printer.specs.expressions.Reading.{Finds}
use Rattle.sql_printer.specs.expressions.Scopes.{IsPrintedScope, Numbered, ScopesAre, Unread, marks}

-- ---- names

-- a test of names that aren't the same
pub differ : (name other : List ℕ) → name ≢ other → pointwise nat_eq name other ≡ false
differ name other apart = by (pointwise nat_eq name other) refl where
  by : (b : Bool) → pointwise nat_eq name other ≡ b → b ≡ false
  by true e = absurd (apart ((bytes_decides name other).0 e))
  by false e = refl

no_number : (n : ℕ) (more : List ℕ) → n < 2 ^ 64 → decimal n ≡ 99 ∷ more → ⊥
no_number n more small e =
    let digits : AllDigits 10 (99 ∷ more) = subst (AllDigits 10) e (decimal_is_IsNumeral n small).0.1 in
    let low = digits.0 in absurd (omega (arith, low))

pub tail-same : (x : ℕ) (xs ys : List ℕ) → x ∷ xs ≡ x ∷ ys → xs ≡ ys
tail-same x xs ys e = ap (drop 1) e

-- names of different depths differ, and names of one depth as their numbers do
pub numbers-same : (a b m n : ℕ) → m < 2 ^ 64 → n < 2 ^ 64 → marks a ++ decimal m ≡ marks b ++ decimal n → (a ≡ b) × (m ≡ n)
numbers-same zero zero m n p q e = (refl, decimal_injective m n p q e)
numbers-same zero (suc b) m n p q e = absurd (no_number m (marks b ++ decimal n) p e)
numbers-same (suc a) zero m n p q e = absurd (no_number n (marks a ++ decimal m) q (sym e))
numbers-same (suc a) (suc b) m n p q e =
    let rest = numbers-same a b m n p q (tail-same 99 (marks a ++ decimal m) (marks b ++ decimal n) e) in
    (ap suc rest.0, rest.1)

-- ---- columns of a scope

-- none has the name
abbrev pub Unnamed : List ℕ → List ScopeColumn → Type 0
Unnamed name [] = Unit {0}
Unnamed name (column ∷ columns) = (pointwise nat_eq name column.name ≡ false) × Unnamed name columns

pub unnamed-append : (name : List ℕ) (front more : List ScopeColumn) → Unnamed name front → Unnamed name more → Unnamed name (front ++ more)
unnamed-append name [] more u v = v
unnamed-append name (column ∷ front) more u v = (u.0, unnamed-append name front more u.1 v)

module _ (name : List ℕ) where
  pub passed : (start : ℕ) (front more : List ScopeColumn) → Unnamed name front
      → filter (is_called name) (enumerate_from start (front ++ more)) ≡ filter (is_called name) (enumerate_from (start + length front) more)
  passed start [] more u = let none : start ≡ start + 0 = omega arith in ap (λ n. filter (is_called name) (enumerate_from n more)) none
  passed start (column ∷ front) more u =
      let next : start + 1 + length front ≡ start + suc (length front) = omega arith in
      ap (λ b. cond b ((start, column) ∷ filter (is_called name) (enumerate_from (start + 1) (front ++ more))) (filter (is_called name) (enumerate_from (start + 1) (front ++ more)))) u.0
      ∙ passed (start + 1) front more u.1 ∙ ap (λ n. filter (is_called name) (enumerate_from n more)) next

  pub none-called : (start : ℕ) (columns : List ScopeColumn) → Unnamed name columns → filter (is_called name) (enumerate_from start columns) ≡ []
  none-called start columns u = ap (λ cs. filter (is_called name) (enumerate_from start cs)) (sym (append-nil columns)) ∙ passed start columns [] u

-- behind a number no column has it
later-unnamed : (depth number other : ℕ) (kinds : List Kind) (columns : List ScopeColumn) → Numbered depth number kinds columns → other < number
    → number + length kinds < 2 ^ 64 → Unnamed (marks depth ++ decimal other) columns
later-unnamed depth number other [] [] h low bound = tt
later-unnamed depth number other [] (column ∷ columns) h low bound = absurd h
later-unnamed depth number other (kind ∷ kinds) [] h low bound = absurd h
later-unnamed depth number other (kind ∷ kinds) (column ∷ columns) h low bound = (
  differ (marks depth ++ decimal other) column.name
      (λ e. let same = (numbers-same depth depth other number (omega (arith, low, bound)) (omega (arith, bound)) (e ∙ h.0)).1 in omega (arith, low, same)),
  later-unnamed depth (suc number) other kinds columns h.2 (omega (arith, low)) (omega (arith, bound)),
)

-- what is found of a number
pub record OneCalled (name : List ℕ) (place : ℕ) (kind : Kind) (found : List Placed) : Type 0 where
  pub column : ScopeColumn
  pub is : found ≡ (place, column) ∷ []
  pub kind_is : column.kind ≡ kind

pub one-called : (depth number start place : ℕ) (kinds : List Kind) (columns back : List ScopeColumn) (kind : Kind) → Numbered depth number kinds columns
    → slice_get kinds place ≡ Some kind → number + length kinds < 2 ^ 64 → Unnamed (marks depth ++ decimal (number + place)) back
    → OneCalled (marks depth ++ decimal (number + place)) (start + place) kind
    (filter (is_called (marks depth ++ decimal (number + place))) (enumerate_from start (columns ++ back)))
one-called depth number start place [] columns back kind h e bound u = absurd (none-some kind e)
one-called depth number start place (own ∷ kinds) [] back kind h e bound u = absurd h
one-called depth number start zero (own ∷ kinds) (column ∷ columns) back kind h e bound u =
    let none : number ≡ number + 0 = omega arith in
    let here : start ≡ start + 0 = omega arith in
    let name = marks depth ++ decimal (number + 0) in
    let called : pointwise nat_eq name column.name ≡ true =
    (bytes_decides name column.name).1 (ap (λ n. marks depth ++ decimal n) (sym none) ∙ sym h.0) in
    let rest = filter (is_called name) (enumerate_from (start + 1) (columns ++ back)) in
    let later : Unnamed name columns = subst (λ n. Unnamed (marks depth ++ decimal n) columns) none
    (later-unnamed depth (suc number) number kinds columns h.2 (omega arith) (omega (arith, bound))) in
    record {
      column = column;
      is = ap (λ b. cond b ((start, column) ∷ rest) rest) called ∙ ap (λ more. (start, column) ∷ more) (none-called name (start + 1) (columns ++ back) (unnamed-append name columns back later u))
          ∙ ap (λ n. (n, column) ∷ []) here;
      kind_is = h.1 ∙ same_Some own kind e;
    }
one-called depth number start (suc place) (own ∷ kinds) (column ∷ columns) back kind h e bound u =
    let next : suc number + place ≡ number + suc place = omega arith in
    let on : start + 1 + place ≡ start + suc place = omega arith in
    let name = marks depth ++ decimal (number + suc place) in
    let within = get-below kinds place kind e in
    let missed : pointwise nat_eq name column.name ≡ false = differ name column.name
    (λ same. let equal = (numbers-same depth depth (number + suc place) number (omega (arith, bound, within)) (omega (arith, bound)) (same ∙ h.0)).1 in omega (arith, equal)) in
    let rest = filter (is_called name) (enumerate_from (start + 1) (columns ++ back)) in
    let found = one-called depth (suc number) (start + 1) place kinds columns back kind h.2 e (omega (arith, bound))
    (subst (λ n. Unnamed (marks depth ++ decimal n) back) (sym next) u) in
    record {
      column = found.column;
      is = ap (λ b. cond b ((start, column) ∷ rest) rest) missed
          ∙ ap (λ n. filter (is_called (marks depth ++ decimal n)) (enumerate_from (start + 1) (columns ++ back))) (sym next) ∙ found.is ∙ ap (λ n. (n, found.column) ∷ []) on;
      kind_is = found.kind_is;
    }

-- ---- columns that nothing reads

-- they have no name of another number
unread-unnamed : (depth other : ℕ) (columns : List ScopeColumn) → Unread depth columns → 0 < other → other < 2 ^ 64 → Unnamed (marks depth ++ decimal other) columns
unread-unnamed depth other [] u low bound = tt
unread-unnamed depth other (column ∷ columns) u low bound = (
  differ (marks depth ++ decimal other) column.name
      (λ e. let same = (numbers-same depth depth other 0 bound (omega arith) (e ∙ u.0)).1 in omega (arith, low, same)),
  unread-unnamed depth other columns u.1 low bound,
)

-- and no name of another depth
unread-apart : (depth far other : ℕ) (columns : List ScopeColumn) → Unread depth columns → far < depth → other < 2 ^ 64 → Unnamed (marks far ++ decimal other) columns
unread-apart depth far other [] u low bound = tt
unread-apart depth far other (column ∷ columns) u low bound = (
  differ (marks far ++ decimal other) column.name
      (λ e. let same = (numbers-same far depth other 0 bound (omega arith) (e ∙ u.0)).0 in omega (arith, low, same)),
  unread-apart depth far other columns u.1 low bound,
)

numbered-apart : (depth far other number : ℕ) (kinds : List Kind) (columns : List ScopeColumn) → Numbered depth number kinds columns → far < depth → other < 2 ^ 64
    → number + length kinds < 2 ^ 64 → Unnamed (marks far ++ decimal other) columns
numbered-apart depth far other number [] [] h low bound within = tt
numbered-apart depth far other number [] (column ∷ columns) h low bound within = absurd h
numbered-apart depth far other number (kind ∷ kinds) [] h low bound within = absurd h
numbered-apart depth far other number (kind ∷ kinds) (column ∷ columns) h low bound within = (
  differ (marks far ++ decimal other) column.name
      (λ e. let same = (numbers-same far depth other number bound (omega (arith, within)) (e ∙ h.0)).0 in omega (arith, low, same)),
  numbered-apart depth far other (suc number) kinds columns h.2 low bound (omega (arith, within)),
)

-- the columns of a name in a scope
pub meant-own : (depth front : ℕ) (kinds : List Kind) (scope : Scope) → IsPrintedScope depth front kinds scope → (place : ℕ) (kind : Kind) → slice_get kinds place ≡ Some kind
    → OneCalled (marks depth ++ decimal (place + 1)) (front + place) kind (columns_meant_by None (marks depth ++ decimal (place + 1)) scope)
meant-own depth front kinds scope s place kind e =
    let turned : 1 + place ≡ place + 1 = omega arith in
    let bound = s.bound in
    let within = get-below kinds place kind e in
    let name = marks depth ++ decimal (1 + place) in
    let small : 1 + place < 2 ^ 64 = omega (arith, bound, within) in
    let found = one-called depth 1 (0 + length s.unread) place kinds s.own s.back kind s.numbered e s.bound (unread-unnamed depth (1 + place) s.back s.behind (omega arith) small) in
    let front_is : 0 + length s.unread + place ≡ front + place = (let count = s.count in omega (arith, count)) in
    let is : columns_meant_by None name scope ≡ (front + place, found.column) ∷ [] =
    ap (λ cs. filter (is_called name) (enumerate_from 0 cs)) s.columns
    ∙ passed name 0 s.unread (s.own ++ s.back) (unread-unnamed depth (1 + place) s.unread s.before (omega arith) small)
    ∙ found.is ∙ ap (λ n. (n, found.column) ∷ []) front_is in
    subst (λ n. OneCalled (marks depth ++ decimal n) (front + place) kind (columns_meant_by None (marks depth ++ decimal n) scope)) turned
    (record { column = found.column; is = is; kind_is = found.kind_is })

meant-none : (depth front far other : ℕ) (kinds : List Kind) (scope : Scope) → IsPrintedScope depth front kinds scope → far < depth → other < 2 ^ 64
    → columns_meant_by None (marks far ++ decimal other) scope ≡ []
meant-none depth front far other kinds scope s low bound =
    let name = marks far ++ decimal other in
    ap (λ cs. filter (is_called name) (enumerate_from 0 cs)) s.columns
    ∙ none-called name 0 (s.unread ++ (s.own ++ s.back))
    (unnamed-append name s.unread (s.own ++ s.back) (unread-apart depth far other s.unread s.before low bound)
    (unnamed-append name s.own s.back (numbered-apart depth far other 1 kinds s.own s.numbered low bound s.bound) (unread-apart depth far other s.back s.behind low bound)))

-- ---- the look-up

-- the marks that are left of a level
abbrev pub IsFar : ℕ → ℕ → Type 0
IsFar level depth = (far : ℕ) × (far < suc depth) × (drop level (marks depth) ≡ marks far)

far-from : (level depth : ℕ) → IsFar level depth
far-from zero depth = (depth, omega arith, refl)
far-from (suc level) zero = (zero, omega arith, refl)
far-from (suc level) (suc depth) = let rest = far-from level depth in let low = rest.1 in (rest.0, omega (arith, low), rest.2)

place-bound : (depth : ℕ) (kinds : List (List Kind)) (unread : List ℕ) (scopes : List Scope) → ScopesAre depth kinds unread scopes → (level place : ℕ) (kind : Kind)
    → column_kind kinds level place ≡ Some kind → place + 1 < 2 ^ 64
place-bound depth [] unread scopes s level place kind e = absurd (none-some kind e)
place-bound zero (kinds ∷ more) unread scopes s level place kind e = absurd s
place-bound (suc depth) (kinds ∷ more) [] scopes s level place kind e = absurd s
place-bound (suc depth) (kinds ∷ more) (front ∷ unread) [] s level place kind e = absurd s
place-bound (suc depth) (kinds ∷ more) (front ∷ unread) (scope ∷ scopes) s zero place kind e =
    let bound = s.0.bound in let within = get-below kinds place kind e in omega (arith, bound, within)
place-bound (suc depth) (kinds ∷ more) (front ∷ unread) (scope ∷ scopes) s (suc level) place kind e = place-bound depth more unread scopes s.1 level place kind e

pub meant-bare : (reference : ColRef) (name : List ℕ) (scope : Scope) → reference.table ≡ None → reference.name.text ≡ name
    → meant_in reference scope ≡ if_some (columns_meant_by None name scope)
meant-bare reference name scope none named = λ i. meant_by (none i) (named i) scope

found-own : (level place front : ℕ) (kind : Kind) (scope : Scope) (found_here : List Placed) (more : Found) (name : List ℕ) → scope.groups ≡ None
    → OneCalled name place kind found_here → option_map_or (found_among level scope) (if_some found_here) more
    ≡ Column (record { level = level; place = Some place; kind = kind })
found-own level place front kind scope found_here more name none o =
    ap (λ columns. option_map_or (found_among level scope) (if_some columns) more) o.is
    ∙ (λ i. Column (record { level = level; place = place_among (none i) place; kind = o.kind_is i }))

-- each column is found, from whatever level on
finds-from : (base depth : ℕ) (kinds : List (List Kind)) (unread : List ℕ) (scopes : List Scope) → ScopesAre depth kinds unread scopes → (level place : ℕ) (kind : Kind)
    → column_kind kinds level place ≡ Some kind → (reference : ColRef) → reference.table ≡ None
    → reference.name.text ≡ column_name (marks depth) level (place + 1)
    → look_up base scopes reference ≡ Column (record { level = base + level; place = Some (before unread level + place); kind = kind })
finds-from base depth [] unread scopes s level place kind e reference none named = absurd (none-some kind e)
finds-from base zero (kinds ∷ more) unread scopes s level place kind e reference none named = absurd s
finds-from base (suc depth) (kinds ∷ more) [] scopes s level place kind e reference none named = absurd s
finds-from base (suc depth) (kinds ∷ more) (front ∷ unread) [] s level place kind e reference none named = absurd s
finds-from base (suc depth) (kinds ∷ more) (front ∷ unread) (scope ∷ scopes) s zero place kind e reference none named =
    let name = marks (suc depth) ++ decimal (place + 1) in
    let same : base ≡ base + 0 = omega arith in
    ap (λ columns. option_map_or (found_among base scope) columns (look_up (suc base) scopes reference)) (meant-bare reference name scope none named)
    ∙ found-own base (front + place) front kind scope (columns_meant_by None name scope) (look_up (suc base) scopes reference) name s.0.ungrouped
    (meant-own (suc depth) front kinds scope s.0 place kind e)
    ∙ ap (λ n. Column (record { level = n; place = Some (front + place); kind = kind })) same
finds-from base (suc depth) (kinds ∷ more) (front ∷ unread) (scope ∷ scopes) s (suc level) place kind e reference none named =
    let far = far-from level depth in
    let name = drop level (marks depth) ++ decimal (place + 1) in
    let next : suc base + level ≡ base + suc level = omega arith in
    let passed_by : columns_meant_by None name scope ≡ [] =
    ap (λ m. columns_meant_by None (m ++ decimal (place + 1)) scope) far.2
    ∙ meant-none (suc depth) front far.0 (place + 1) kinds scope s.0 far.1 (place-bound depth more unread scopes s.1 level place kind e) in
    ap (λ columns. option_map_or (found_among base scope) columns (look_up (suc base) scopes reference)) (meant-bare reference name scope none named)
    ∙ ap (λ columns. option_map_or (found_among base scope) (if_some columns) (look_up (suc base) scopes reference)) passed_by
    ∙ finds-from (suc base) depth more unread scopes s.1 level place kind e reference none named
    ∙ ap (λ n. Column (record { level = n; place = Some (before unread level + place); kind = kind })) next

pub finds : (depth : ℕ) (kinds : List (List Kind)) (unread : List ℕ) (scopes : List Scope) → ScopesAre depth kinds unread scopes
    → Finds (marks depth) kinds unread scopes
finds depth kinds unread scopes s level place kind e reference none named =
    let same : 0 + level ≡ level = omega arith in
    finds-from 0 depth kinds unread scopes s level place kind e reference none named
    ∙ ap (λ n. Column (record { level = n; place = Some (before unread level + place); kind = kind })) same
