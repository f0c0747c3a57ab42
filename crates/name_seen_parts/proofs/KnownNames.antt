-- Names of columns, gone through as the code does.
use Rattle.std.specs.Prelude.{◌≡◌, ℕ, suc, Bool, cond, not, nat_lt, ◌+◌, List, [], ◌∷◌, length, Some, None, position}
use Rattle.std.specs.List.{position_or_len}
use Rattle.std.proofs.Common.{refl, ap, sym}
use Rattle.perm_catalog.specs.declared.column.Column.{Column}
use Rattle.name_seen_parts.specs.FromColumns.{known_names}

pub length-known : (columns : List Column) → length (known_names columns) ≡ length columns
length-known [] = refl
length-known (column ∷ columns) = ap suc (length-known columns)

first-named : (test : List ℕ → Bool) (columns : List Column) → position_or_len (λ (column : Column). test column.name) columns ≡ position_or_len test (known_names columns)
first-named test [] = refl
first-named test (column ∷ columns) = ap (λ (n : ℕ). cond (not (test column.name)) (1 + n) 0) (first-named test columns)

pub position-named : (test : List ℕ → Bool) (columns : List Column) → position (λ (column : Column). test column.name) columns ≡ position test (known_names columns)
position-named test columns = λ i. cond (nat_lt (first-named test columns i) (sym (length-known columns) i)) (Some (first-named test columns i)) None
