-- What items that may not fault give on a row, and columns that stand behind others.
use Rattle.std.proofs.Common.{◌≡◌, ℕ, zero, suc, ◌≤◌, true, ◌&&◌, List, [], ◌∷◌, ◌++◌, length, Some, refl, sym, ap, ◌∙◌, subst, append_assoc, arith}
use Rattle.std.specs.Prelude.{slice_get}
use Rattle.perm_values.specs.Rows.{value_at}
use Rattle.perm_values.specs.declared.kind.Kind.{Kind}
use Rattle.perm_values.specs.declared.value.Value.{Value}
use Rattle.perm_values.specs.declared.value.Value.TheVariants.{Null}
use Rattle.bag_algebra.proofs.NeverBad.{good-value}
use Rattle.bag_algebra.proofs.Outcomes.{good-is}
use Rattle.bag_algebra.proofs.Truths.{left-true, right-true}
use Rattle.bag_algebra.specs.Bags.{Row, nulls}
use Rattle.bag_algebra.specs.Expressions.{value}
use Rattle.bag_algebra.specs.FaultFree.{faultless, items_faultless}
use Rattle.bag_algebra.specs.Kinds.{item_kinds}
use Rattle.bag_algebra.specs.Meaning.{items_on}
use Rattle.bag_algebra.specs.Means.{no_subs, good_row}
use Rattle.bag_algebra.specs.Outcome.{Outcome, Good, Bad, both}
use Rattle.bag_algebra.specs.WellFormed.{HasKind, ItemsForm}
use Rattle.bag_algebra.specs.declared.expr.Item.{Item}
use Rattle.contribution.proofs.ColumnQueries.{all-nothing, all-first}
use Rattle.contribution.specs.ItemKinds.{column_of}
use Rattle.query_laws.specs.spines.Spines.{items_behind}

-- ---- items that may not fault

-- what they give on a row
abbrev pub row_by : List Item → List Row → Row → Row
row_by items env x = good_row (items_on items env no_subs x)

pub is-good_row : (o : Outcome Row) (t : Row) → o ≡ Good t → o ≡ Good (good_row o)
is-good_row o t e = e ∙ ap (λ p. Good (good_row p)) (sym e)

some-row : (items : List Item) (env : List Row) (x : Row) → items_faultless items ≡ true → (t : Row) × (items_on items env no_subs x ≡ Good t)
some-row [] env x w = ([], refl)
some-row (item ∷ items) env x w =
    let first = good-is (value item.expr x env []) (good-value item.expr (left-true (faultless item.expr) (items_faultless items) w) x env []) in
    let rest = some-row items env x (right-true (faultless item.expr) (items_faultless items) w) in
    (first.0 ∷ rest.0, λ i. both (λ v vs. v ∷ vs) (first.1 i) (rest.1 i))

pub items-good : (items : List Item) (env : List Row) (x : Row) → items_faultless items ≡ true → items_on items env no_subs x ≡ Good (row_by items env x)
items-good items env x w = let found = some-row items env x w in is-good_row (items_on items env no_subs x) found.0 found.1

-- items one after another
pub items-both : (items more : List Item) (env : List Row) (x t u : Row) → items_on items env no_subs x ≡ Good t → items_on more env no_subs x ≡ Good u →
    items_on (items ++ more) env no_subs x ≡ Good (t ++ u)
items-both [] more env x t u g h = h ∙ ap (λ row. Good (row ++ u)) (nothing g) where
  nothing : Good [] ≡ Good t → [] ≡ t
  nothing e = cc
items-both (item ∷ items) more env x t u g h = by_parts (λ vs f. items-both items more env x vs u f h) (value item.expr x env []) (items_on items env no_subs x) refl refl g where
  by_parts : ((vs : Row) → items_on items env no_subs x ≡ Good vs → items_on (items ++ more) env no_subs x ≡ Good (vs ++ u)) → (o : Outcome Value) (p : Outcome Row) → value item.expr x env [] ≡ o → items_on items env no_subs x ≡ p → both (λ v vs. v ∷ vs) o p ≡ Good t →
      both (λ v vs. v ∷ vs) (value item.expr x env []) (items_on (items ++ more) env no_subs x) ≡ Good (t ++ u)
  by_parts rest (Good v) (Good vs) e f made =
      let whole : v ∷ vs ≡ t = cc in
      (λ i. both (λ v vs. v ∷ vs) (e i) (rest vs f i)) ∙ ap (λ row. Good (row ++ u)) whole
  by_parts rest (Good v) (Bad faults) e f made = absurd (cc made)
  by_parts rest (Bad faults) (Good vs) e f made = absurd (cc made)
  by_parts rest (Bad faults) (Bad more_faults) e f made = absurd (cc made)

-- ---- columns that stand behind others

next-length : {X : Type 0} (xs : List X) (x : X) → length (xs ++ x ∷ []) ≡ suc (length xs)
next-length [] x = refl
next-length (y ∷ xs) x = ap suc (next-length xs x)

value_at-behind : (before rest : Row) (v : Value) → value_at (before ++ v ∷ rest) (length before) ≡ v
value_at-behind [] rest v = refl
value_at-behind (b ∷ before) rest v = value_at-behind before rest v

-- they give what stands there
pub behind-give : (env : List Row) (kinds : List Kind) (before row rest : Row) → length row ≡ length kinds →
    items_on (items_behind (length before) kinds) env no_subs (before ++ (row ++ rest)) ≡ Good row
behind-give env [] before [] rest l = refl
behind-give env [] before (v ∷ row) rest l = absurd (omega (arith, l))
behind-give env (kind ∷ kinds) before [] rest l = absurd (omega (arith, l))
behind-give env (kind ∷ kinds) before (v ∷ row) rest l =
    let further : items_on (items_behind (suc (length before)) kinds) env no_subs (before ++ (v ∷ (row ++ rest))) ≡ Good row =
    subst (λ n. items_on (items_behind n kinds) env no_subs (before ++ (v ∷ (row ++ rest))) ≡ Good row) (next-length before v)
    (subst (λ x. items_on (items_behind (length (before ++ v ∷ [])) kinds) env no_subs x ≡ Good row) (append_assoc before (v ∷ []) (row ++ rest))
    (behind-give env kinds (before ++ v ∷ []) row rest (omega (arith, l)))) in
    λ i. both (λ v vs. v ∷ vs) (Good (value_at-behind before (row ++ rest) v i)) (further i)

pub behind-faultless : (before : ℕ) (kinds : List Kind) → items_faultless (items_behind before kinds) ≡ true
behind-faultless before [] = refl
behind-faultless before (kind ∷ kinds) = behind-faultless (suc before) kinds

pub behind-kinds : (before : ℕ) (kinds : List Kind) → item_kinds (items_behind before kinds) ≡ kinds
behind-kinds before [] = refl
behind-kinds before (kind ∷ kinds) = ap (λ ks. kind ∷ ks) (behind-kinds (suc before) kinds)

slice_get-behind : (before rest : List Kind) (kind : Kind) → slice_get (before ++ kind ∷ rest) (length before) ≡ Some kind
slice_get-behind [] rest kind = refl
slice_get-behind (k ∷ before) rest kind = slice_get-behind before rest kind

pub behind-formed : (outer : List (List Kind)) (before kinds rest : List Kind) → ItemsForm ((before ++ (kinds ++ rest)) ∷ outer) [] (items_behind (length before) kinds)
behind-formed outer before [] rest = all-nothing _
behind-formed outer before (kind ∷ kinds) rest =
    let further : ItemsForm ((before ++ (kind ∷ (kinds ++ rest))) ∷ outer) [] (items_behind (suc (length before)) kinds) =
    subst (λ n. ItemsForm ((before ++ (kind ∷ (kinds ++ rest))) ∷ outer) [] (items_behind n kinds)) (next-length before kind)
    (subst (λ ks. ItemsForm (ks ∷ outer) [] (items_behind (length (before ++ kind ∷ [])) kinds)) (append_assoc before (kind ∷ []) (kinds ++ rest))
    (behind-formed outer (before ++ kind ∷ []) kinds rest)) in
    all-first (λ (item : Item). HasKind ((before ++ (kind ∷ (kinds ++ rest))) ∷ outer) [] item.expr item.kind) (column_of kind (length before))
    (items_behind (suc (length before)) kinds) (slice_get-behind before (kinds ++ rest) kind) further

pub items_faultless-append : (items more : List Item) → items_faultless items ≡ true → items_faultless more ≡ true → items_faultless (items ++ more) ≡ true
items_faultless-append [] more w z = z
items_faultless-append (item ∷ items) more w z =
    λ i. (left-true (faultless item.expr) (items_faultless items) w i) && (items_faultless-append items more (right-true (faultless item.expr) (items_faultless items) w) z i)

-- ---- NULLs behind a row

pub nulls-null : (n place : ℕ) → value_at (nulls n) place ≡ Null
nulls-null zero place = refl
nulls-null (suc n) zero = refl
nulls-null (suc n) (suc place) = nulls-null n place

pub null-behind : (u : Row) (n place : ℕ) → length u ≤ place → value_at (u ++ nulls n) place ≡ Null
null-behind [] n place far = nulls-null n place
null-behind (v ∷ u) n zero far = absurd (omega (arith, far))
null-behind (v ∷ u) n (suc place) far = null-behind u n place (omega (arith, far))
