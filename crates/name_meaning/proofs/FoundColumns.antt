-- A name that is looked up names a column that the rows have, with its kind.
use Rattle.std.specs.Prelude.{◌≡◌, ℕ, suc, ◌+◌, Bool, true, false, cond, not, ◌&&◌, nat_lt, List, [], ◌∷◌, filter, is_some, slice_get, Option, Some, None, option_map}
use Rattle.std.proofs.Common.{refl, ap, sym, ◌∙◌, subst, arith}
use Rattle.std.proofs.lemmas.Option.{none-some, same_Some}
use Rattle.std.specs.List.{enumerate_from, AllByRecursion as Every}
use Rattle.std.specs.Option.{option_map_or}
use Rattle.perm_values.specs.declared.kind.Kind.{Kind}
use Rattle.perm_values.proofs.Lists.{front-none}
use Rattle.bag_algebra.specs.WellFormed.{HasKind, column_kind}
use Rattle.bag_algebra.specs.declared.expr.Expr.TheVariants.{Col}
use Rattle.sql_tree.specs.declared.name.ColRef.{ColRef}
use Rattle.sql_tree.specs.declared.name.Name.{Name}
use Rattle.name_meaning.specs.Meanings.{Surroundings, broken_if}
use Rattle.name_meaning.specs.Scopes.{Placed, placed, is_meant, is_of_item, item_number, item_columns, columns_meant_by, if_some, meant_by, meant_in, place_among, found_among, look_up}
use Rattle.name_meaning.specs.Sublinks.{column_meant, null_at}
use Rattle.name_meaning.specs.declared.scope.Found.{Found}
use Rattle.name_meaning.specs.declared.scope.Found.TheVariants.{Absent as absent, Ambiguous as ambiguous, Column as found}
use Rattle.name_meaning.specs.declared.scope.FoundColumn.{FoundColumn}
use Rattle.name_meaning.specs.declared.scope.Scope.{Scope}
use Rattle.name_meaning.specs.declared.scope.ScopeColumn.{ScopeColumn}
use Rattle.name_meaning.specs.laws.Standing.{HoldsScope, RowsHold}
use Rattle.name_meaning.proofs.FormedParts.{formed-none}
use Rattle.name_meaning.proofs.GoodMeant.{GoodMeant, IsPlain}
use Rattle.name_meaning.specs.declared.rule.Rule.TheVariants as rule

-- ---- columns with their places

abbrev pub IsPlaced : List ScopeColumn → Placed → Type 0
IsPlaced columns column = slice_get columns column.0 ≡ Some column.1

placed-from : (all columns : List ScopeColumn) (n : ℕ) → ((k : ℕ) → slice_get all (k + n) ≡ slice_get columns k)
    → Every (IsPlaced all) (enumerate_from n columns)
placed-from all [] n h = tt
placed-from all (column ∷ columns) n h = (
  (let e : n ≡ 0 + n = omega arith in ap (slice_get all) e ∙ h 0),
  placed-from all columns (n + 1) (λ k. let e : k + (n + 1) ≡ suc k + n = omega arith in ap (slice_get all) e ∙ h (suc k)),
)

pub all-placed : (scope : Scope) → Every (IsPlaced scope.columns) (placed scope)
all-placed scope = placed-from scope.columns scope.columns 0 (λ k. let e : k + 0 ≡ k = omega arith in ap (slice_get scope.columns) e)

pub every-filter : {X : Type 0} (P : X → Type 0) (test : X → Bool) (xs : List X) → Every P xs → Every P (filter test xs)
every-filter P test [] h = tt
every-filter {X} P test (x ∷ xs) h = chosen (test x) (every-filter P test xs h.1) where
  chosen : (b : Bool) → Every P (filter test xs) → Every P (cond b (x ∷ filter test xs) (filter test xs))
  chosen true rest = (h.0, rest)
  chosen false rest = rest

meant_by-placed : (table : Option Name) (name : List ℕ) (scope : Scope) (columns : List Placed) → meant_by table name scope ≡ Some columns
    → Every (IsPlaced scope.columns) columns
meant_by-placed None name scope columns e = chosen (columns_meant_by None name scope) e (every-filter (IsPlaced scope.columns) (is_meant None name) (placed scope) (all-placed scope)) where
  chosen : (found : List Placed) → if_some found ≡ Some columns → Every (IsPlaced scope.columns) found → Every (IsPlaced scope.columns) columns
  chosen [] e h = absurd (none-some columns e)
  chosen (c ∷ cs) e h = subst (Every (IsPlaced scope.columns)) (same_Some (c ∷ cs) columns e) h
meant_by-placed (Some table) name scope columns e = chosen (item_number table.text scope) e where
  chosen : (number : Option ℕ) → option_map (λ number. columns_meant_by (Some number) name scope) number ≡ Some columns → Every (IsPlaced scope.columns) columns
  chosen None e = absurd (none-some columns e)
  chosen (Some number) e = subst (Every (IsPlaced scope.columns)) (same_Some (columns_meant_by (Some number) name scope) columns e)
      (every-filter (IsPlaced scope.columns) (is_meant (Some number) name) (placed scope) (all-placed scope))

pub item-placed : (name : List ℕ) (scope : Scope) (columns : List Placed) → item_columns name scope ≡ Some columns → Every (IsPlaced scope.columns) columns
item-placed name scope columns e = chosen (item_number name scope) e where
  chosen : (number : Option ℕ) → option_map (λ number. filter (is_of_item number) (placed scope)) number ≡ Some columns → Every (IsPlaced scope.columns) columns
  chosen None e = absurd (none-some columns e)
  chosen (Some number) e = subst (Every (IsPlaced scope.columns)) (same_Some (filter (is_of_item number) (placed scope)) columns e)
      (every-filter (IsPlaced scope.columns) (is_of_item number) (placed scope) (all-placed scope))

-- ---- look-ups

abbrev column_of : FoundColumn → Found → FoundColumn
column_of column absent = column
column_of column ambiguous = column
column_of column (found other) = other

abbrev found_as : ℕ → Scope → Placed → FoundColumn
found_as level scope column = record { level = level; place = place_among scope.groups column.0; kind = column.1.kind }

-- the one column, with its place in the core's rows
pub one-found : (level : ℕ) (scope : Scope) (columns : List Placed) (column : FoundColumn) → Every (IsPlaced scope.columns) columns
    → found_among level scope columns ≡ found column → (own : Placed) × IsPlaced scope.columns own × (found_as level scope own ≡ column)
one-found level scope [] column h e = absurd (cc e)
one-found level scope (own ∷ []) column h e = (own, h.0, ap (column_of column) e)
one-found level scope (own ∷ other ∷ more) column h e = absurd (cc e)

here-kind : (level : ℕ) (scope : Scope) (columns : List Placed) (column : FoundColumn) (row : List Kind) (place : ℕ) → Every (IsPlaced scope.columns) columns
    → found_among level scope columns ≡ found column → column.place ≡ Some place → HoldsScope scope row
    → (column.level ≡ level) × (slice_get row place ≡ Some column.kind)
here-kind level scope columns column row place h e is hold =
    let own = one-found level scope columns column h e in (
      ap (λ (c : FoundColumn). c.level) (sym own.2),
      hold own.0.0 place own.0.1 own.1 (ap (λ (c : FoundColumn). c.place) own.2 ∙ is) ∙ ap (λ (c : FoundColumn). Some c.kind) own.2,
    )

abbrev Found_at : ℕ → List (List Kind) → FoundColumn → ℕ → Type 0
Found_at level rows column place = (k : ℕ) × (column.level ≡ level + k) × (column_kind rows k place ≡ Some column.kind)

found-here : (level : ℕ) (scope : Scope) (row : List Kind) (rows : List (List Kind)) (reference : ColRef) (column : FoundColumn) (place : ℕ) (rest : Found)
    → column.place ≡ Some place → HoldsScope scope row → (rest ≡ found column → Found_at level (row ∷ rows) column place)
    → (m : Option (List Placed)) → meant_in reference scope ≡ m → option_map_or (found_among level scope) m rest ≡ found column
    → Found_at level (row ∷ rows) column place
found-here level scope row rows reference column place rest is hold further None m e = further e
found-here level scope row rows reference column place rest is hold further (Some columns) m e =
    let own = here-kind level scope columns column row place (meant_by-placed reference.table reference.name.text scope columns m) e is hold in
    let l = own.0 in
    (0, omega (arith, l), own.1)

found-kind : (level : ℕ) (scopes : List Scope) (rows : List (List Kind)) (reference : ColRef) (column : FoundColumn) (place : ℕ)
    → look_up level scopes reference ≡ found column → column.place ≡ Some place → RowsHold scopes rows → Found_at level rows column place
found-kind level [] rows reference column place e is hold = absurd (cc e)
found-kind level (scope ∷ scopes) [] reference column place e is hold = absurd hold
found-kind level (scope ∷ scopes) (row ∷ rows) reference column place e is hold =
    found-here level scope row rows reference column place (look_up (suc level) scopes reference) is hold.0
    (λ f. let inner = found-kind (suc level) scopes rows reference column place f is hold.1 in
    let l = inner.1 in
    (suc inner.0, omega (arith, l), inner.2))
    (meant_in reference scope) refl e

pub look_up-kind : (scopes : List Scope) (rows : List (List Kind)) (reference : ColRef) (column : FoundColumn) (place : ℕ)
    → look_up 0 scopes reference ≡ found column → column.place ≡ Some place → RowsHold scopes rows → column_kind rows column.level place ≡ Some column.kind
look_up-kind scopes rows reference column place e is hold =
    let at = found-kind 0 scopes rows reference column place e is hold in
    let l = at.1 in
    let same : column.level ≡ at.0 = omega (arith, l) in
    ap (λ k. column_kind rows k place) same ∙ at.2

-- ---- a column as an expression

there : (place : Option ℕ) (at : ℕ) → broken_if (not (is_some place)) rule.UngroupedColumn at ≡ [] → (p : ℕ) × (place ≡ Some p)
there None at e = absurd (cc e)
there (Some p) at e = (p, refl)

pub good-column : (here : Surroundings) (at : ℕ) (reference : ColRef) → GoodMeant here (column_meant here at (look_up 0 here.scopes reference))
good-column here at reference = chosen (look_up 0 here.scopes reference) refl where
  chosen : (is : Found) → look_up 0 here.scopes reference ≡ is → GoodMeant here (column_meant here at is)
  chosen absent e whole wanted n = absurd (cc whole)
  chosen ambiguous e whole wanted n = absurd (cc whole)
  chosen (found column) e whole wanted n =
      let place = there column.place at (front-none (broken_if (not (is_some column.place)) rule.UngroupedColumn at) (broken_if (here.argument && nat_lt 0 column.level) rule.MisplacedAggregate at) whole) in
      formed-none here n _ (λ rows subs hold.
      subst (λ p. HasKind rows subs (option_map_or (Col column.level) p (null_at column.kind)) column.kind) (sym place.1)
      (look_up-kind here.scopes rows reference column place.0 e place.1 hold))

pub plain-column : (here : Surroundings) (at : ℕ) (is : Found) → IsPlain (column_meant here at is)
plain-column here at absent wanted n = refl
plain-column here at ambiguous wanted n = refl
plain-column here at (found column) wanted n = refl
