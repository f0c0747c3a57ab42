-- The columns of places, gone through one after the other.
use Rattle.std.specs.Prelude.{◌≡◌, ℕ, ◌+◌, ◌<◌, ◌≤◌, min, List, [], ◌∷◌, ◌++◌, length, map, Some}
use Rattle.std.proofs.Common.{inl, inr, refl, ap, sym, ◌∙◌, drop, get_or, append_assoc, append-nil, arith}
use Rattle.std.proofs.Math.ListN.{drop_of_length-le}
use Rattle.std.proofs.lemmas.Bool.{cases_lt}
use Rattle.std.proofs.lemmas.List.{map-append}
use Rattle.perm_values.specs.declared.kind.Kind.{Kind}
use Rattle.perm_values.proofs.Lists.{dropped}
use Rattle.name_meaning.specs.Froms.{named_columns}
use Rattle.name_meaning.specs.Meanings.{OutColumn}
use Rattle.name_meaning.specs.Queries.{out_column}
use Rattle.name_seen_parts.specs.Columns.{column_of, columns_of}
use Rattle.name_seen_parts.specs.declared.clauses.column.ShownColumn.{ShownColumn}
use Rattle.name_seen_parts.proofs.NamedColumns.{known_column}

abbrev pub named_from_place : ℕ → List (List ℕ) → List Kind → List OutColumn
named_from_place at names kinds = map out_column (named_columns (drop at names) (drop at kinds))

abbrev pub column_named : List ℕ → Kind → OutColumn
column_named name kind = record { name = name; kind = Some kind }

next-named : (names : List (List ℕ)) (kinds : List Kind) (at : ℕ) (name : List ℕ) (kind : Kind) → at < length names → at < length kinds → name ≡ get_or names at name
    → kind ≡ get_or kinds at kind → named_from_place at names kinds ≡ out_column (known_column name kind) ∷ named_from_place (at + 1) names kinds
next-named names kinds at name kind in_names in_kinds here there =
    λ i. map out_column (named_columns (dropped names at name in_names here i) (dropped kinds at kind in_kinds there i))

-- the columns so far, with those still to come
pub named-step : (names : List (List ℕ)) (kinds : List Kind) (at : ℕ) (name : List ℕ) (kind : Kind) (so_far wider : List ShownColumn) (added : ShownColumn) (all : List OutColumn)
    → at < length names → at < length kinds → name ≡ get_or names at name → kind ≡ get_or kinds at kind
    → columns_of so_far ++ named_from_place at names kinds ≡ all → wider ≡ so_far ++ added ∷ [] → column_of added ≡ out_column (known_column name kind)
    → columns_of wider ++ named_from_place (at + 1) names kinds ≡ all
named-step names kinds at name kind so_far wider added all in_names in_kinds here there before more is =
    ap (λ (columns : List OutColumn). columns ++ named_from_place (at + 1) names kinds) (ap columns_of more ∙ map-append column_of so_far (added ∷ []))
    ∙ append_assoc (columns_of so_far) (column_of added ∷ []) (named_from_place (at + 1) names kinds)
    ∙ ap (λ (column : OutColumn). columns_of so_far ++ column ∷ named_from_place (at + 1) names kinds) is
    ∙ ap (λ (rest : List OutColumn). columns_of so_far ++ rest) (sym (next-named names kinds at name kind in_names in_kinds here there))
    ∙ before

no-kinds : (names : List (List ℕ)) → named_columns names [] ≡ []
no-kinds [] = refl
no-kinds (name ∷ names) = refl

none-left : (names : List (List ℕ)) (kinds : List Kind) (at end : ℕ) → end ≡ min (length names) (length kinds) → end ≤ at → named_from_place at names kinds ≡ []
none-left names kinds at end least past =
    elim (cases_lt (length names) (length kinds)) [
      | inl shorter ↦ ap (λ (ns : List (List ℕ)). map out_column (named_columns ns (drop at kinds))) (drop_of_length-le names (omega (arith, shorter, least, past)))
      | inr longer ↦ ap (λ (ks : List Kind). map out_column (named_columns (drop at names) ks)) (drop_of_length-le kinds (omega (arith, longer, least, past)))
          ∙ ap (map out_column) (no-kinds (drop at names))
    ]

pub named-end : (names : List (List ℕ)) (kinds : List Kind) (at end : ℕ) (so_far : List ShownColumn) (all : List OutColumn) → end ≡ min (length names) (length kinds) → end ≤ at
    → columns_of so_far ++ named_from_place at names kinds ≡ all → columns_of so_far ≡ all
named-end names kinds at end so_far all least past before =
    sym (append-nil (columns_of so_far)) ∙ ap (λ (rest : List OutColumn). columns_of so_far ++ rest) (sym (none-left names kinds at end least past)) ∙ before
