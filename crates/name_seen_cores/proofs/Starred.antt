-- The columns for which `*` and `x.*` stand.
use Rattle.std.specs.Prelude.{◌≡◌, ℕ, suc, ◌+◌, ◌<◌, Bool, true, false, cond, List, [], ◌∷◌, ◌++◌, map, filter, length, nat_eq, Option, Some, None, option_map, Ok}
use Rattle.std.specs.List.{enumerate_from}
use Rattle.std.specs.Option.{option_map_or}
use Rattle.std.proofs.Common.{refl, ap, sym, subst, ◌∙◌, append_assoc, append-nil, get_or, take}
use Rattle.std.proofs.lemmas.List.{map-append, take_more}
use Rattle.std.proofs.lemmas.List.Elements.{filter-append}
use Rattle.sql_tree.specs.declared.name.Name.{Name}
use Rattle.name_meaning.specs.Items.{SelectMeant, columns_meant, named_from, no_columns, star_meant, table_star_meant, titled}
use Rattle.name_meaning.specs.Meanings.{OutColumn}
use Rattle.name_meaning.specs.Scopes.{Placed, is_of_item, item_number, placed}
use Rattle.name_meaning.specs.declared.scope.Scope.{Scope}
use Rattle.name_meaning.specs.declared.scope.ScopeColumn.{ScopeColumn}
use Rattle.name_meaning.proofs.FactsOf.{both_facts-none}
use Rattle.name_seen_parts.specs.Seen.{first_or}
use Rattle.name_seen_parts.specs.Columns.{column_of, columns_of}
use Rattle.name_seen_parts.specs.declared.clauses.column.ShownColumn.{ShownColumn}
use Rattle.name_seen_parts.proofs.Firsts.{none-broken}
use Rattle.name_seen_cores.specs.from.Added.{facts_in}
use Rattle.name_seen_cores.specs.declared.from.facts.Facts.{Facts as Gathered}
use Rattle.name_seen_cores.specs.Listed.{ItemWhole}
use Rattle.name_seen_cores.specs.Shown.{columns_shown, shown}
use Rattle.name_seen_parts.specs.Stars.{is_of}

abbrev shown_at : Placed → OutColumn
shown_at column = shown column.1

named-titled : (n : ℕ) (columns : List Placed) → named_from n (map titled columns) ≡ map shown_at columns
named-titled n [] = refl
named-titled n (column ∷ columns) = ap (λ (rest : List OutColumn). shown_at column ∷ rest) (named-titled (suc n) columns)

all-shown : (n : ℕ) (columns : List ScopeColumn) → map shown_at (enumerate_from n columns) ≡ map shown (filter (is_of None) columns)
all-shown n [] = refl
all-shown n (column ∷ columns) = ap (λ (rest : List OutColumn). shown column ∷ rest) (all-shown (n + 1) columns)

chosen-shown : (number n : ℕ) (columns : List ScopeColumn)
    → map shown_at (filter (is_of_item number) (enumerate_from n columns)) ≡ map shown (filter (is_of (Some number)) columns)
chosen-shown number n [] = refl
chosen-shown number n (column ∷ columns) = by-test (nat_eq number column.item) (chosen-shown number (n + 1) columns) where
  by-test : (is_chosen : Bool) → map shown_at (filter (is_of_item number) (enumerate_from (n + 1) columns)) ≡ map shown (filter (is_of (Some number)) columns)
      → map shown_at (cond is_chosen ((n, column) ∷ filter (is_of_item number) (enumerate_from (n + 1) columns)) (filter (is_of_item number) (enumerate_from (n + 1) columns)))
      ≡ map shown (cond is_chosen (column ∷ filter (is_of (Some number)) columns) (filter (is_of (Some number)) columns))
  by-test true rest = ap (λ (own : List OutColumn). shown column ∷ own) rest
  by-test false rest = rest

columns-whole : (scope : Scope) (at : ℕ) (placed_columns : List Placed) (columns wider : List ShownColumn) (facts : Gathered)
    → first_or (columns_meant scope at placed_columns).breaks (tt {0}) ≡ Ok (tt {0}) → columns_of wider ≡ columns_of columns ++ map shown_at placed_columns
    → ItemWhole (columns_meant scope at placed_columns) columns wider facts facts
columns-whole scope at placed_columns columns wider facts fine added = record {
  whole = none-broken (columns_meant scope at placed_columns).breaks tt tt fine;
  titles = map titled placed_columns;
  known = refl;
  shown = added ∙ ap (λ (own : List OutColumn). columns_of columns ++ own) (sym (named-titled (suc (length columns)) placed_columns));
  adds = λ wanted before. sym (both_facts-none (facts_in facts));
}

pub star-whole : (has_from : Bool) (scope : Scope) (at : ℕ) (columns wider : List ShownColumn) (facts : Gathered)
    → first_or (star_meant has_from scope at).breaks (tt {0}) ≡ Ok (tt {0}) → columns_of wider ≡ columns_of columns ++ columns_shown None scope
    → ItemWhole (star_meant has_from scope at) columns wider facts facts
star-whole true scope at columns wider facts fine added =
    columns-whole scope at (placed scope) columns wider facts fine
    (added ∙ ap (λ (own : List OutColumn). columns_of columns ++ own) (sym (all-shown 0 scope.columns)))
star-whole false scope at columns wider facts fine added = absurd (cc fine)

abbrev starred : Scope → Name → Option ℕ → SelectMeant
starred scope table number = option_map_or (columns_meant scope table.at) (option_map (λ (n : ℕ). filter (is_of_item n) (placed scope)) number) (no_columns table.at)

pub table_star-whole : (scope : Scope) (table : Name) (number : ℕ) (columns wider : List ShownColumn) (facts : Gathered)
    → item_number table.text scope ≡ Some number
    → first_or (table_star_meant scope table).breaks (tt {0}) ≡ Ok (tt {0}) → columns_of wider ≡ columns_of columns ++ columns_shown (Some number) scope
    → ItemWhole (table_star_meant scope table) columns wider facts facts
table_star-whole scope table number columns wider facts is fine added = subst (λ (found : Option ℕ). first_or (starred scope table found).breaks (tt {0}) ≡ Ok (tt {0}) → ItemWhole (starred scope table found) columns wider facts facts) (sym is)
    (λ fine. columns-whole scope table.at (filter (is_of_item number) (placed scope)) columns wider facts fine
    (added ∙ ap (λ (own : List OutColumn). columns_of columns ++ own) (sym (chosen-shown number 0 scope.columns)))) fine

pub no-table : (scope : Scope) (table : Name) → item_number table.text scope ≡ None → first_or (table_star_meant scope table).breaks (tt {0}) ≡ Ok (tt {0}) → ⊥
no-table scope table is fine = subst (λ (found : Option ℕ). first_or (starred scope table found).breaks (tt {0}) ≡ Ok (tt {0}) → ⊥) (sym is) (λ fine. cc fine) fine

-- ---- one more column

one-chosen : (item : Option ℕ) (column : ScopeColumn) (is_chosen : Bool) → is_of item column ≡ is_chosen → filter (is_of item) (column ∷ []) ≡ cond is_chosen (column ∷ []) []
one-chosen item column is_chosen e = ap (λ (b : Bool). cond b (column ∷ []) []) e

pub column-added : (item : Option ℕ) (column : ScopeColumn) (columns wider : List ShownColumn) (added : ShownColumn) (is_chosen : Bool) → is_chosen ≡ is_of item column → is_chosen ≡ true
    → wider ≡ columns ++ added ∷ [] → column_of added ≡ shown column → columns_of wider ≡ columns_of columns ++ map shown (filter (is_of item) (column ∷ []))
column-added item column columns wider added is_chosen e chosen more is =
    ap columns_of more ∙ map-append column_of columns (added ∷ []) ∙ ap (λ (c : OutColumn). columns_of columns ++ c ∷ []) is
    ∙ ap (λ (cs : List ScopeColumn). columns_of columns ++ map shown cs) (sym (one-chosen item column true (sym e ∙ chosen)))

pub column-passed : (item : Option ℕ) (column : ScopeColumn) (columns : List ShownColumn) (is_chosen : Bool) → is_chosen ≡ is_of item column → is_chosen ≡ false
    → columns_of columns ≡ columns_of columns ++ map shown (filter (is_of item) (column ∷ []))
column-passed item column columns is_chosen e passed =
    sym (ap (λ (cs : List ScopeColumn). columns_of columns ++ map shown cs) (one-chosen item column false (sym e ∙ passed)) ∙ append-nil (columns_of columns))

pub columns-more : (item : Option ℕ) (xs : List ScopeColumn) (i : ℕ) (x : ScopeColumn) (initial so_far wider : List ShownColumn) → i < length xs → x ≡ get_or xs i x
    → columns_of so_far ≡ columns_of initial ++ map shown (filter (is_of item) (take i xs))
    → columns_of wider ≡ columns_of so_far ++ map shown (filter (is_of item) (x ∷ []))
    → columns_of wider ≡ columns_of initial ++ map shown (filter (is_of item) (take (i + 1) xs))
columns-more item xs i x initial so_far wider within e before one =
    one ∙ ap (λ (front : List OutColumn). front ++ map shown (filter (is_of item) (x ∷ []))) before
    ∙ append_assoc (columns_of initial) (map shown (filter (is_of item) (take i xs))) (map shown (filter (is_of item) (x ∷ [])))
    ∙ ap (λ (own : List OutColumn). columns_of initial ++ own)
    (sym (map-append shown (filter (is_of item) (take i xs)) (filter (is_of item) (x ∷ [])))
    ∙ ap (map shown) (sym (ap (filter (is_of item)) (take_more xs i x within ∙ ap (λ (y : ScopeColumn). take i xs ++ y ∷ []) (sym e)) ∙ filter-append (is_of item) (take i xs) (x ∷ []))))
