-- Columns gone through one after the other.
use Rattle.std.specs.Prelude.{◌≡◌, ℕ, ◌+◌, cond, not, nat_lt, List, [], ◌∷◌, position, Some, None}
use Rattle.std.specs.List.{prefix_len}
use Rattle.std.proofs.Common.{refl, ap, sym}
use Rattle.std.proofs.lemmas.List.{length-map}
use Rattle.name_meaning.specs.Meanings.{OutColumn}
use Rattle.name_meaning.specs.Queries.{is_named}
use Rattle.name_seen_parts.specs.Columns.{column_of, columns_of}
use Rattle.name_seen_parts.specs.declared.clauses.column.ShownColumn.{ShownColumn}
use Rattle.name_made_parts.specs.Shown.{is_shown_as}

before-named : (name : List ℕ) (columns : List ShownColumn)
    → prefix_len (λ (column : ShownColumn). not (is_shown_as name column)) columns ≡ prefix_len (λ (column : OutColumn). not (is_named name column)) (columns_of columns)
before-named name [] = refl
before-named name (column ∷ columns) = ap (λ (n : ℕ). cond (not (is_shown_as name column)) (1 + n) 0) (before-named name columns)

pub position-mapped : (name : List ℕ) (columns : List ShownColumn) → position (is_shown_as name) columns ≡ position (is_named name) (columns_of columns)
position-mapped name columns = λ i.
    cond (nat_lt (before-named name columns i) (sym (length-map columns column_of) i)) (Some (before-named name columns i)) None
