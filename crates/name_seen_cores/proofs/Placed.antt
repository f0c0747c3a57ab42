-- What the code finds of one item of FROM is what it means.
use Rattle.std.specs.Prelude.{◌≡◌, ℕ, Bool, true, not, List, [], ◌∷◌, ◌++◌, Option, Some, option_map, Ok}
use Rattle.std.specs.List.{list_any}
use Rattle.std.proofs.Common.{ap, append_assoc, sym, ◌∙◌}
use Rattle.perm_values.proofs.Lists.{front-none}
use Rattle.perm_catalog.specs.declared.column.Column.{Column}
use Rattle.sql_tree.specs.declared.source.ScopeMark.{ScopeMark}
use Rattle.name_meaning.specs.Froms.{Read, item_meant, mark_breaks, named_so, names_of, table_columns}
use Rattle.name_meaning.specs.Meanings.{broken_if}
use Rattle.name_meaning.specs.Scopes.{KnownColumn}
use Rattle.name_meaning.specs.declared.answer.Break.{Break}
use Rattle.name_meaning.specs.declared.scope.Scope.{Scope}
use Rattle.name_meaning.proofs.Every.{unbroken-not}
use Rattle.name_meaning.specs.laws.Facts.{both_facts}
use Rattle.name_seen_parts.specs.Seen.{first_or}
use Rattle.name_seen_cores.specs.from.Added.{facts_in}
use Rattle.name_seen_cores.specs.from.Marks.{IsMarked}
use Rattle.name_seen_parts.specs.FromColumns.{known_names}
use Rattle.name_seen_parts.specs.Scopes.{item_scope, scope_beside}
use Rattle.name_seen_cores.specs.from.Readings.{IsRead, ItemAdded, KeepsNames}
use Rattle.name_seen_cores.specs.declared.from.facts.Facts.{Facts as Gathered}
use Rattle.name_seen_cores.specs.declared.from.reading.Reading.{Reading}
use Rattle.name_seen_parts.proofs.Firsts.{none-broken}
use Rattle.name_seen_cores.proofs.Sourced.{marked-is}
use Rattle.name_meaning.specs.declared.rule.Rule.TheVariants as rule

abbrev pub repeated_break : ℕ → List (List ℕ) → List ℕ → List Break
repeated_break at earlier name = broken_if (list_any (named_so name) earlier) rule.RepeatedItem at

breaks-are : (at : ℕ) (mark : ScopeMark) (earlier : List (List ℕ)) (name label : List ℕ) (read : Read) (reading : Reading) → IsRead read reading
    → (item_meant at mark earlier name label read).breaks ≡ repeated_break at earlier name ++ mark_breaks mark (Some (known_names reading.columns))
breaks-are at mark earlier name label read reading is =
    ap (λ (breaks : List Break). breaks ++ repeated_break at earlier name ++ mark_breaks mark (option_map names_of read.columns)) is.whole
    ∙ ap (λ (columns : Option (List KnownColumn)). repeated_break at earlier name ++ mark_breaks mark (option_map names_of columns)) is.columns

abbrev pub early_breaks : ℕ → ScopeMark → List (List ℕ) → List ℕ → List (List ℕ) → List Break
early_breaks at mark earlier name names = repeated_break at earlier name ++ mark_breaks mark (Some names)

-- where neither the name nor the mark breaks a rule
pub early-none : (at : ℕ) (mark : ScopeMark) (names : List (List ℕ)) (name given : List ℕ) (columns shown : List Column)
    → given ≡ name → shown ≡ columns
    → Ok (tt {0}) ≡ first_or (broken_if (list_any (named_so given) names) rule.RepeatedItem at ++ mark_breaks mark (Some (known_names shown))) (tt {0})
    → early_breaks at mark names name (known_names columns) ≡ []
early-none at mark names name given columns shown named listed told =
    (λ i. early_breaks at mark names (sym named i) (known_names (sym listed i)))
    ∙ none-broken (early_breaks at mark names given (known_names shown)) (tt {0}) (tt {0}) (sym told)

-- a name that breaks no rule is new
pub name-new : (at : ℕ) (mark : ScopeMark) (names : List (List ℕ)) (name : List ℕ) (shown : List (List ℕ)) (is_new : Bool)
    → early_breaks at mark names name shown ≡ [] → is_new ≡ not (list_any (named_so name) names) → is_new ≡ true
name-new at mark names name shown is_new none told =
    told ∙ ap not (unbroken-not (list_any (named_so name) names) rule.RepeatedItem at (front-none (repeated_break at names name) (mark_breaks mark (Some shown)) none))

-- and comes behind the others
pub names-kept : (old new : List (List ℕ)) (name : List ℕ) (columns : List Column) (scope wider : Scope) → new ≡ old ++ name ∷ []
    → wider ≡ scope_beside scope (item_scope name columns) → KeepsNames old new scope wider
names-kept old new name columns scope wider more wide before are =
    more ∙ ap (λ (names : List (List ℕ)). names ++ name ∷ []) are ∙ append_assoc before scope.items (name ∷ [])
    ∙ ap (λ (s : Scope). before ++ s.items) (sym wide)

pub item-whole : (at : ℕ) (mark : ScopeMark) (earlier : List (List ℕ)) (name label : List ℕ) (read : Read) (reading with_mark : Reading)
    (scope wider : Scope) (old new : Gathered) → IsRead read reading
    → early_breaks at mark earlier name (known_names reading.columns) ≡ []
    → IsMarked mark label reading with_mark
    → wider ≡ scope_beside scope (item_scope name with_mark.columns)
    → facts_in new ≡ both_facts (facts_in old) (facts_in with_mark.plain)
    → ItemAdded (item_meant at mark earlier name label read) scope old new wider
item-whole at mark earlier name label read reading with_mark scope wider old new is once by wide added =
    record {
      whole = breaks-are at mark earlier name label read reading is ∙ once;
      columns = with_mark.columns;
      known = is.columns ∙ ap (λ (columns : List Column). Some (table_columns columns)) (sym by.columns);
      scope_is = wide;
      adds = added ∙ ap (both_facts (facts_in old)) (by.plain ∙ sym (marked-is mark label read reading is));
    }
