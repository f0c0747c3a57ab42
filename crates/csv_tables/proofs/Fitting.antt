-- Rows that break no rule fit the kinds of their columns.
use Rattle.std.proofs.Common.{◌≡◌, ℕ, ◌+◌, Bool, true, false, List, [], ◌∷◌, length, map, refl, arith, inl, inr}
use Rattle.std.proofs.lemmas.Bool.{cases_Bool, eqb-true}
use Rattle.std.specs.Prelude.{◌==◌, if◌then◌else◌}
use Rattle.std.specs.Str.{bytes_eq}
use Rattle.perm_values.specs.Rows.{bag_fits, row_fits}
use Rattle.perm_values.specs.Values.{fits}
use Rattle.perm_values.specs.declared.kind.Kind.{Kind}
use Rattle.perm_values.specs.declared.kind.Kind.TheVariants as kind
use Rattle.perm_values.specs.declared.value.Value.TheVariants.{Null}
use Rattle.perm_values.proofs.Fits.{null-fits}
use Rattle.perm_values.proofs.Lists.{front-none, back-none}
use Rattle.csv_tables.specs.Loading.{broken_rules, field_value, record_breaks, records_breaks, row_records, row_values, skipped, spelled, spelled_rows, width_breaks}

spelled-fits : (k : Kind) (field : List ℕ) → fits (spelled k field) k ≡ true
spelled-fits kind.Integer field = refl
spelled-fits kind.Text field = refl
spelled-fits kind.Boolean field = refl

field_value-fits : (null_field : List ℕ) (k : Kind) (field : List ℕ) → fits (field_value null_field k field) k ≡ true
field_value-fits null_field k field = choose (bytes_eq field null_field) where
  choose : (b : Bool) → fits (if b then Null else spelled k field) k ≡ true
  choose true = null-fits k
  choose false = spelled-fits k field

row_values-fits : (null_field : List ℕ) (kinds : List Kind) (fields : List (List ℕ)) → length fields ≡ length kinds → row_fits (row_values null_field kinds fields) kinds ≡ true
row_values-fits null_field [] fields wide = refl
row_values-fits null_field (k ∷ kinds) [] wide = absurd (omega arith)
row_values-fits null_field (k ∷ kinds) (f ∷ fields) wide = rw (field_value-fits null_field k f) (row_values-fits null_field kinds fields (omega arith))

wide-of : (row : ℕ) (kinds : List Kind) (fields : List (List ℕ)) → width_breaks row kinds fields ≡ [] → length fields ≡ length kinds
wide-of row kinds fields e = elim (cases_Bool (length fields == length kinds)) [
  | inl same ↦ eqb-true _ _ same
  | inr other ↦ let broken = rw other at e in cc broken
]

records-fit : (null_field : List ℕ) (kinds : List Kind) (row : ℕ) (records : List (List (List ℕ))) → records_breaks null_field kinds row records ≡ [] → bag_fits (map (row_values null_field kinds) records) kinds ≡ true
records-fit null_field kinds row [] e = refl
records-fit null_field kinds row (fields ∷ more) e =
    let here : record_breaks null_field kinds row fields ≡ [] = front-none _ _ e in
    let wide : length fields ≡ length kinds = wide-of row kinds fields (front-none _ _ here) in
    rw (row_values-fits null_field kinds fields wide) (records-fit null_field kinds (row + 1) more (back-none _ _ e))

-- where a file breaks no rule, the rows that it spells fit
pub bag_fits-spelled : (null_field : List ℕ) (kinds : List Kind) (header : Bool) (bytes : List ℕ) → broken_rules null_field kinds header bytes ≡ [] → bag_fits (spelled_rows null_field kinds header bytes) kinds ≡ true
bag_fits-spelled null_field kinds header bytes e = records-fit null_field kinds (skipped header + 1) (row_records header bytes) e
