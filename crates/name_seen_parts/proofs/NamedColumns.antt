-- Columns of names and kinds side by side.
use Rattle.std.specs.Prelude.{◌≡◌, ℕ, zero, suc, ◌+◌, ◌<◌, ◌≤◌, min, List, [], ◌∷◌, ◌++◌, length}
use Rattle.std.proofs.Common.{refl, ap, sym, ◌∙◌, take, get_or, arith}
use Rattle.std.proofs.lemmas.List.{map-append, take_all, take_more}
use Rattle.perm_catalog.specs.declared.column.Column.{Column}
use Rattle.perm_values.specs.declared.kind.Kind.{Kind}
use Rattle.name_meaning.specs.Froms.{named_columns, table_columns}
use Rattle.name_meaning.specs.Scopes.{KnownColumn}

abbrev pub known_column : List ℕ → Kind → KnownColumn
known_column name kind = record { name = name; kind = kind }

length-named : (names : List (List ℕ)) (kinds : List Kind) → length (named_columns names kinds) ≡ min (length names) (length kinds)
length-named [] kinds = omega arith
length-named (name ∷ names) [] = omega arith
length-named (name ∷ names) (kind ∷ kinds) = omega (arith, length-named names kinds)

get-named : (names : List (List ℕ)) (kinds : List Kind) (i : ℕ) (name : List ℕ) (other : Kind) → i < length names → i < length kinds
    → get_or (named_columns names kinds) i (known_column name other) ≡ known_column (get_or names i name) (get_or kinds i other)
get-named [] kinds i name other within beside = absurd (omega arith)
get-named (first ∷ names) [] i name other within beside = absurd (omega arith)
get-named (first ∷ names) (kind ∷ kinds) zero name other within beside = refl
get-named (first ∷ names) (kind ∷ kinds) (suc i) name other within beside = get-named names kinds i name other (omega arith) (omega arith)

pub named-more : (names : List (List ℕ)) (kinds : List Kind) (i : ℕ) (name : List ℕ) (other : Kind) → i < min (length names) (length kinds) → name ≡ get_or names i name
    → take i (named_columns names kinds) ++ known_column name (get_or kinds i other) ∷ [] ≡ take (i + 1) (named_columns names kinds)
named-more names kinds i name other within here =
    ap (λ (name : List ℕ). take i (named_columns names kinds) ++ known_column name (get_or kinds i other) ∷ []) here
    ∙ ap (λ (column : KnownColumn). take i (named_columns names kinds) ++ column ∷ []) (sym (get-named names kinds i name other (omega arith) (omega arith)))
    ∙ sym (take_more (named_columns names kinds) i (known_column name other) (omega (arith, length-named names kinds)))

pub named-all : (names : List (List ℕ)) (kinds : List Kind) (i : ℕ) → min (length names) (length kinds) ≤ i → take i (named_columns names kinds) ≡ named_columns names kinds
named-all names kinds i past = take_all i (named_columns names kinds) (omega (arith, length-named names kinds))

abbrev known_of : Column → KnownColumn
known_of column = known_column column.name column.kind

pub table-more : (columns : List Column) (column : Column) → table_columns (columns ++ column ∷ []) ≡ table_columns columns ++ known_column column.name column.kind ∷ []
table-more columns column = map-append known_of columns (column ∷ [])
