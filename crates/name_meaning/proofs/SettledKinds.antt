-- Columns at the kinds that are wanted of them.
use Rattle.std.specs.Prelude.{◌≡◌, ℕ, suc, pred, List, [], ◌∷◌, ◌++◌, map, length, take, drop, Option, Some, None, true}
use Rattle.std.proofs.Common.{refl, ap, ◌∙◌, arith, sym}
use Rattle.perm_values.specs.declared.kind.Kind.{Kind}
use Rattle.perm_values.specs.declared.kind.Kind.TheVariants as kind
use Rattle.perm_catalog.specs.Columns.{column_kinds}
use Rattle.perm_catalog.specs.declared.column.Column.{Column}
use Rattle.name_meaning.specs.Cores.{settle}
use Rattle.name_meaning.specs.Froms.{named_columns, names_of, settled_columns, table_columns}
use Rattle.name_meaning.specs.Items.{Titled, named_from}
use Rattle.name_meaning.specs.Meanings.{OutColumn, settled, united_kind, unites}
use Rattle.name_meaning.specs.Queries.{out_column, united_columns}
use Rattle.name_meaning.specs.Scopes.{KnownColumn}
use Rattle.name_meaning.specs.laws.Known.{column_kinds_of}
use Rattle.name_meaning.proofs.Needs.{same_kind}

pub settled-twice : (k : Option Kind) (wanted : Kind) → settled k (settled k wanted) ≡ settled k wanted
settled-twice None wanted = refl
settled-twice (Some k) wanted = refl

pub settled-kinds : (columns : List OutColumn) → settle columns [] ≡ column_kinds_of (settled_columns columns)
settled-kinds [] = refl
settled-kinds (column ∷ columns) = ap (λ (kinds : List Kind). settled column.kind kind.Text ∷ kinds) (settled-kinds columns)

pub settled-names : (columns : List OutColumn) → length (names_of (settled_columns columns)) ≡ length columns
settled-names [] = refl
settled-names (column ∷ columns) = ap suc (settled-names columns)

pub named-names : (names : List (List ℕ)) (kinds : List Kind) → length names ≡ length kinds → names_of (named_columns names kinds) ≡ names
named-names [] kinds same = refl
named-names (name ∷ names) [] same = absurd (omega (arith, same))
named-names (name ∷ names) (kind ∷ kinds) same = ap (λ (more : List (List ℕ)). name ∷ more) (named-names names kinds (ap pred same))

pub table-kinds : (columns : List Column) → column_kinds_of (table_columns columns) ≡ column_kinds columns
table-kinds [] = refl
table-kinds (column ∷ columns) = ap (λ (kinds : List Kind). column.kind ∷ kinds) (table-kinds columns)

pub settled-united : (k other : Option Kind) (wanted : Kind) → settled k (settled (united_kind k other) wanted) ≡ settled (united_kind k other) wanted
settled-united None other wanted = refl
settled-united (Some k) other wanted = refl

-- the second of two kinds that unite at the kind of both
pub settled-second : (a b : Option Kind) (wanted : Kind) → unites a b ≡ true → settled b (settled (united_kind a b) wanted) ≡ settled (united_kind a b) wanted
settled-second None None wanted e = refl
settled-second None (Some l) wanted e = refl
settled-second (Some k) None wanted e = refl
settled-second (Some k) (Some l) wanted e = sym (same_kind k l e)

pub both-same : (a b : Kind) (xs ys : List Kind) → a ≡ b → xs ≡ ys → a ∷ xs ≡ b ∷ ys
both-same a b xs ys e f = λ i. e i ∷ f i

pub settle-twice : (columns : List OutColumn) (wanted : List Kind) → settle columns (settle columns wanted) ≡ settle columns wanted
settle-twice [] wanted = refl
settle-twice (column ∷ columns) [] = both-same _ _ _ _ (settled-twice column.kind kind.Text) (settle-twice columns [])
settle-twice (column ∷ columns) (k ∷ ks) = both-same _ _ _ _ (settled-twice column.kind k) (settle-twice columns ks)

-- the first operand at the kinds of all operands
pub settle-united : (left right : List OutColumn) (wanted : List Kind)
    → settle left (settle (united_columns left right) wanted) ≡ settle (united_columns left right) wanted
settle-united [] right wanted = refl
settle-united (l ∷ left) [] wanted = settle-twice (l ∷ left) wanted
settle-united (l ∷ left) (r ∷ right) [] = both-same _ _ _ _ (settled-united l.kind r.kind kind.Text) (settle-united left right [])
settle-united (l ∷ left) (r ∷ right) (k ∷ ks) = both-same _ _ _ _ (settled-united l.kind r.kind k) (settle-united left right ks)

-- ---- columns of a SELECT list

abbrev pub settle_titles : List Titled → List Kind → List Kind
settle_titles [] wanted = []
settle_titles (title ∷ titles) [] = settled title.kind kind.Text ∷ settle_titles titles []
settle_titles (title ∷ titles) (k ∷ ks) = settled title.kind k ∷ settle_titles titles ks

pub settle-named : (n : ℕ) (titles : List Titled) (wanted : List Kind) → settle (named_from n titles) wanted ≡ settle_titles titles wanted
settle-named n [] wanted = refl
settle-named n (title ∷ titles) [] = ap (λ kinds. settled title.kind kind.Text ∷ kinds) (settle-named (suc n) titles [])
settle-named n (title ∷ titles) (k ∷ ks) = ap (λ kinds. settled title.kind k ∷ kinds) (settle-named (suc n) titles ks)

pub settle_titles-append : (titles more : List Titled) (wanted : List Kind)
    → settle_titles (titles ++ more) wanted ≡ settle_titles titles (take (length titles) wanted) ++ settle_titles more (drop (length titles) wanted)
settle_titles-append [] more wanted = refl
settle_titles-append (title ∷ titles) more [] = ap (λ kinds. settled title.kind kind.Text ∷ kinds) (settle_titles-append titles more [] ∙ none titles) where
  none : (titles : List Titled) → settle_titles titles (take (length titles) []) ++ settle_titles more (drop (length titles) [])
      ≡ settle_titles titles [] ++ settle_titles more []
  none [] = refl
  none (title ∷ titles) = refl
settle_titles-append (title ∷ titles) more (k ∷ ks) = ap (λ kinds. settled title.kind k ∷ kinds) (settle_titles-append titles more ks)

-- ---- columns whose kinds are known

pub settle-known : (columns : List OutColumn) (known : List KnownColumn) (wanted : List Kind)
    → settle (columns ++ map out_column known) wanted ≡ settle columns wanted ++ map (λ (column : KnownColumn). column.kind) known
settle-known [] [] wanted = refl
settle-known [] (c ∷ known) [] = ap (λ kinds. c.kind ∷ kinds) (settle-known [] known [])
settle-known [] (c ∷ known) (k ∷ ks) = ap (λ kinds. c.kind ∷ kinds) (settle-known [] known ks)
settle-known (column ∷ columns) known [] = ap (λ kinds. settled column.kind kind.Text ∷ kinds) (settle-known columns known [])
settle-known (column ∷ columns) known (k ∷ ks) = ap (λ kinds. settled column.kind k ∷ kinds) (settle-known columns known ks)

pub kinds-named_columns : (names : List (List ℕ)) (kinds : List Kind) → length names ≡ length kinds
    → map (λ (column : KnownColumn). column.kind) (named_columns names kinds) ≡ kinds
kinds-named_columns [] [] e = refl
kinds-named_columns [] (k ∷ ks) e = absurd (omega (arith, e))
kinds-named_columns (name ∷ names) [] e = refl
kinds-named_columns (name ∷ names) (k ∷ ks) e = ap (λ kinds. k ∷ kinds) (kinds-named_columns names ks (ap pred e))
