-- What the code finds of a source with its joins is what these mean.
use Rattle.std.specs.Prelude.{◌≡◌, ℕ, Bool, true, false, cond, List, [], ◌∷◌, ◌++◌, Option, Some, None, option_map, IfOk, IsErrAnd, OnOk, Result, Ok, Err}
use Rattle.std.proofs.Common.{refl, ap, sym, subst, ◌∙◌, append_assoc, append-nil}
use Rattle.perm_catalog.specs.declared.column.Column.{Column}
use Rattle.name_meaning.specs.Froms.{FromMeant, FromPart, ItemMeant, JoinPart, first_item, from_all, scope_items, join_all, join_item, join_kind, on_meant, optional_breaks, both_known, table_columns, applied, joined_item, in_clause, optional_meant, on_built}
use Rattle.sql_tree.specs.Regular.{is_lateral}
use Rattle.sql_tree.specs.declared.source.JoinWord.{JoinWord}
use Rattle.name_meaning.specs.Meanings.{Meant}
use Rattle.name_meaning.specs.Scopes.{KnownColumn, ScopeItem, scope_of}
use Rattle.name_meaning.specs.declared.answer.Break.{Break}
use Rattle.name_meaning.specs.declared.scope.Scope.{Scope}
use Rattle.name_meaning.specs.laws.Facts.{facts_of, both_facts, sub_facts}
use Rattle.name_meaning.proofs.FactsOf.{both_facts-none, facts-Apply, facts-Join}
use Rattle.name_meaning.proofs.Joins.{joins-so-far}
use Rattle.name_meaning.proofs.Lateral.{plainly}
use Rattle.name_seen_parts.specs.Seen.{first_or}
use Rattle.name_seen_parts.specs.declared.refusal.Refusal.{Refusal}
use Rattle.name_seen_parts.specs.declared.refusal.Refusal.TheVariants.{Break as Broken, NoMemory}
use Rattle.name_seen_cores.specs.from.Added.{facts_in}
use Rattle.name_seen_cores.specs.from.Queried.{FromSeen, FromWhole}
use Rattle.name_seen_parts.specs.Scopes.{item_scope, scope_beside}
use Rattle.name_seen_cores.specs.from.Readings.{ItemAdded, ItemSeen}
use Rattle.name_seen_cores.specs.declared.from.facts.Facts.{Facts as Gathered}
use Rattle.name_seen_parts.proofs.Firsts.{all-none, first-behind, first-behind_two, first-stays, first-stays_first, first-stays_second}
use Rattle.name_seen_parts.proofs.Scoping.{scope-beside-is}
use Rattle.name_seen.specs.Joining.{JoinSeen}
use Rattle.name_seen_cores.proofs.Sourced.{beside-known, both-add, source-breaks}
use Rattle.name_meaning.specs.Cores.{optional_built}
use Rattle.name_seen_cores.specs.Behind.{ConditionSeen, ConditionWhole}

abbrev one_item : ItemMeant → List Column → ScopeItem
one_item m columns = record { name = m.name; columns = table_columns columns }

items-known : (m : ItemMeant) (columns : List Column) → m.columns ≡ Some (table_columns columns) → scope_items m ≡ Some (record { name = m.name; columns = table_columns columns } ∷ [])
items-known m columns known =
    ap (λ (cs : Option (List KnownColumn)). option_map (λ (columns : List KnownColumn). record { name = m.name; columns = columns } ∷ []) cs) known

pub first-whole : (m : ItemMeant) (earlier : List (List ℕ)) (old new : Gathered) (scope wider : Scope)
    → scope ≡ scope_of [] → ItemAdded m scope old new wider → FromWhole (first_item earlier m) earlier old new wider
first-whole m earlier old new scope wider empty added =
    let item : ScopeItem = record { name = m.name; columns = table_columns added.columns } in
    let same : wider ≡ scope_of (item ∷ []) =
    added.scope_is ∙ ap (λ (s : Scope). scope_beside s (item_scope m.name added.columns)) empty ∙ scope-beside-is [] (item ∷ []) in
    record {
      whole = added.whole;
      items = item ∷ [];
      known = items-known m added.columns added.known;
      scope_is = same;
      names = ap (λ (s : Scope). earlier ++ s.items) (sym same);
      adds = added.adds;
    }

same-subs : (on : Option Meant) → sub_facts (optional_built on).subs ≡ sub_facts (on_built on).subs
same-subs None = refl
same-subs (Some m) = refl

join-whole : (outer : List Scope) (left : FromMeant) (step : JoinPart) (m : ItemMeant) (earlier : List (List ℕ)) (before old middle new : Gathered) (scope wider : Scope)
    → FromWhole left earlier before old scope → ItemAdded m scope old middle wider
    → ConditionWhole step.condition (on_meant outer (both_known left.items (scope_items m)) step.condition) middle new
    → FromWhole (plainly outer left step m) earlier before new wider
join-whole outer left step m earlier before old middle new scope wider first added on =
    let item : ScopeItem = one_item m added.columns in
    let sees : Option Meant = on_meant outer (both_known left.items (scope_items m)) step.condition in
    record {
      whole = all-none left.breaks m.breaks (optional_breaks step.condition sees) first.whole added.whole on.whole;
      items = first.items ++ item ∷ [];
      known = beside-known left.items (scope_items m) first.items (item ∷ []) first.known (items-known m added.columns added.known);
      scope_is = added.scope_is ∙ ap (λ (s : Scope). scope_beside s (item_scope m.name added.columns)) first.scope_is ∙ scope-beside-is first.items (item ∷ []);
      names = ap (λ (names : List (List ℕ)). names ++ m.name ∷ []) first.names ∙ append_assoc earlier scope.items (m.name ∷ [])
          ∙ ap (λ (s : Scope). earlier ++ s.items) (sym added.scope_is);
      adds = both-add (both_facts (facts_of left.query) (facts_of m.query)) (sub_facts (on_built sees).subs) (facts_in before) (facts_in middle) (facts_in new)
          (both-add (facts_of left.query) (facts_of m.query) (facts_in before) (facts_in old) (facts_in middle) first.adds added.adds)
          (on.adds ∙ ap (both_facts (facts_in middle)) (same-subs sees))
          ∙ ap (both_facts (facts_in before)) (sym (facts-Join (join_kind step.word) left.query m.query (on_built sees).expr (on_built sees).subs));
    }

lateral-whole : (left : FromMeant) (word : JoinWord) (m : ItemMeant) (earlier : List (List ℕ)) (before old new : Gathered) (scope wider : Scope)
    → FromWhole left earlier before old scope → ItemAdded m scope old new wider → FromWhole (applied left word m) earlier before new wider
lateral-whole left word m earlier before old new scope wider first added =
    let item : ScopeItem = one_item m added.columns in
    record {
      whole = λ i. first.whole i ++ added.whole i;
      items = first.items ++ item ∷ [];
      known = beside-known left.items (scope_items m) first.items (item ∷ []) first.known (items-known m added.columns added.known);
      scope_is = added.scope_is ∙ ap (λ (s : Scope). scope_beside s (item_scope m.name added.columns)) first.scope_is ∙ scope-beside-is first.items (item ∷ []);
      names = ap (λ (names : List (List ℕ)). names ++ m.name ∷ []) first.names ∙ append_assoc earlier scope.items (m.name ∷ [])
          ∙ ap (λ (s : Scope). earlier ++ s.items) (sym added.scope_is);
      adds = both-add (facts_of left.query) (facts_of m.query) (facts_in before) (facts_in old) (facts_in new) first.adds added.adds
          ∙ ap (both_facts (facts_in before)) (sym (facts-Apply (join_kind word) left.query m.query));
    }

-- ---- all joins so far, and one more

join-stays : (outer : List Scope) (left : FromMeant) (step : JoinPart) (m : ItemMeant) (b : Break) → first_or left.breaks (tt {0}) ≡ Err b
    → first_or (join_item outer left step m).breaks (tt {0}) ≡ Err b
join-stays outer left step m b e = by_word (is_lateral step.word) where
  by_word : (lateral : Bool) → first_or (cond lateral (applied left step.word m) (plainly outer left step m)).breaks (tt {0}) ≡ Err b
  by_word true = first-stays left.breaks m.breaks (tt {0}) (tt {0}) b e
  by_word false =
      first-stays_first left.breaks m.breaks (optional_breaks step.condition (on_meant outer (both_known left.items (scope_items m)) step.condition))
      (tt {0}) (tt {0}) b e

pub joins-stay : (outer : List Scope) (left : FromMeant) (steps : List JoinPart) (b : Break) → first_or left.breaks (tt {0}) ≡ Err b
    → first_or (join_all outer left steps).breaks (tt {0}) ≡ Err b
joins-stay outer left [] b e = e
joins-stay outer left (s ∷ steps) b e =
    joins-stay outer (join_item outer left s (joined_item outer left s)) steps b (join-stays outer left s (joined_item outer left s) b e)

-- ---- one more join

pub join-refused : (outer : List Scope) (left : FromMeant) (step : JoinPart) (m : ItemMeant) (earlier : List (List ℕ)) (before old new : Gathered) (scope wider : Scope)
    (refusal : Refusal) → FromWhole left earlier before old scope → ItemSeen m scope old new wider (Err refusal)
    → JoinSeen (plainly outer left step m) earlier before new wider (Err refusal)
join-refused outer left step m earlier before old new scope wider (Broken b) first broken =
    first-stays_second left.breaks m.breaks (optional_breaks step.condition (on_meant outer (both_known left.items (scope_items m)) step.condition)) (tt {0}) (tt {0}) b first.whole broken
join-refused outer left step m earlier before old new scope wider NoMemory first broken = tt

pub lateral-seen : (left : FromMeant) (word : JoinWord) (m : ItemMeant) (earlier : List (List ℕ)) (before old new : Gathered) (scope wider : Scope)
    (result : Result Unit Refusal) → FromWhole left earlier before old scope → ItemSeen m scope old new wider result
    → JoinSeen (applied left word m) earlier before new wider result
lateral-seen left word m earlier before old new scope wider (Ok done) first added = lateral-whole left word m earlier before old new scope wider first added
lateral-seen left word m earlier before old new scope wider (Err (Broken b)) first broken =
    first-behind left.breaks m.breaks (tt {0}) first.whole ∙ broken
lateral-seen left word m earlier before old new scope wider (Err NoMemory) first told = tt

pub join-behind : (outer : List Scope) (left : FromMeant) (step : JoinPart) (m : ItemMeant) (earlier : List (List ℕ)) (before old middle new : Gathered)
    (scope wider : Scope) (result : Result Unit Refusal) → FromWhole left earlier before old scope → ItemAdded m scope old middle wider
    → ConditionSeen step.condition (optional_meant (in_clause wider outer false) step.condition) middle new result
    → JoinSeen (plainly outer left step m) earlier before new wider result
join-behind outer left step m earlier before old middle new scope wider result first added on =
    let item : ScopeItem = one_item m added.columns in
    let items : List ScopeItem = first.items ++ item ∷ [] in
    let known : both_known left.items (scope_items m) ≡ Some items =
    beside-known left.items (scope_items m) first.items (item ∷ []) first.known (items-known m added.columns added.known) in
    let same : wider ≡ scope_of items =
    added.scope_is ∙ ap (λ (s : Scope). scope_beside s (item_scope m.name added.columns)) first.scope_is ∙ scope-beside-is first.items (item ∷ []) in
    let sees : optional_meant (in_clause wider outer false) step.condition ≡ on_meant outer (both_known left.items (scope_items m)) step.condition =
    ap (λ (s : Scope). optional_meant (in_clause s outer false) step.condition) same
    ∙ ap (λ (known : Option (List ScopeItem)). on_meant outer known step.condition) (sym known) in
    by-result result (subst (λ (m : Option Meant). ConditionSeen step.condition m middle new result) sees on) where
      by-result : (result : Result Unit Refusal)
          → ConditionSeen step.condition (on_meant outer (both_known left.items (scope_items m)) step.condition) middle new result
          → JoinSeen (plainly outer left step m) earlier before new wider result
      by-result (Ok done) fine = join-whole outer left step m earlier before old middle new scope wider first added fine
      by-result (Err (Broken b)) broken =
          first-behind_two left.breaks m.breaks (optional_breaks step.condition (on_meant outer (both_known left.items (scope_items m)) step.condition)) tt first.whole added.whole
          ∙ broken
      by-result (Err NoMemory) told = tt

-- ---- all of FROM

pub nothing-read : (outer : List Scope) (facts : Gathered) (scope : Scope) → scope ≡ scope_of [] → FromWhole (from_all outer []) [] facts facts scope
nothing-read outer facts scope is = record {
  whole = refl;
  items = [];
  known = refl;
  scope_is = is;
  names = ap (λ (s : Scope). s.items) (sym is);
  adds = sym (both_facts-none (facts_in facts));
}

-- ---- a break of a source stands

pub first-refused : (outer : List Scope) (m : ItemMeant) (steps : List JoinPart) (earlier : List (List ℕ)) (old new : Gathered) (scope wider : Scope) (refusal : Refusal)
    → ItemSeen m scope old new wider (Err refusal) → FromSeen (join_all outer (first_item earlier m) steps) earlier old new (Err refusal)
first-refused outer m steps earlier old new scope wider (Broken b) broken = joins-stay outer (first_item earlier m) steps b broken
first-refused outer m steps earlier old new scope wider NoMemory broken = tt

pub step-refused : (outer : List Scope) (left : FromMeant) (steps : List JoinPart) (step : JoinPart) (more : List JoinPart) (earlier : List (List ℕ))
    (old new : Gathered) (wider : Scope) (refusal : Refusal)
    → JoinSeen (join_item outer (join_all outer left steps) step (joined_item outer (join_all outer left steps) step)) earlier old new wider (Err refusal)
    → FromSeen (join_all outer left (steps ++ step ∷ more)) earlier old new (Err refusal)
step-refused outer left steps step more earlier old new wider (Broken b) broken =
    ap (λ (m : FromMeant). first_or m.breaks tt) (joins-so-far outer left steps (step ∷ more))
    ∙ joins-stay outer (join_item outer (join_all outer left steps) step (joined_item outer (join_all outer left steps) step)) more b broken
step-refused outer left steps step more earlier old new wider NoMemory broken = tt

pub source-refused : (outer : List Scope) (parts : List FromPart) (part : FromPart) (more : List FromPart) (old middle new : Gathered) (l : Scope) (refusal : Refusal)
    → FromWhole (from_all outer parts) [] old middle l → FromSeen (part.means outer l.items) l.items middle new (Err refusal)
    → FromSeen (from_all outer (parts ++ part ∷ more)) [] old new (Err refusal)
source-refused outer parts part more old middle new l (Broken b) first broken = source-breaks outer parts part more old middle l b first broken
source-refused outer parts part more old middle new l NoMemory first broken = tt

-- before the first item, none is held
pub none-held : (earlier : List (List ℕ)) (scope : Scope) → scope ≡ scope_of [] → earlier ++ scope.items ≡ earlier
none-held earlier scope is = ap (λ (s : Scope). earlier ++ s.items) is ∙ append-nil earlier

-- ---- what is said of answers alone

pub never-ok : {X E : Type 0} (P : Type 0) (result : Result X E) (Q : E → Type 0) → IsErrAnd result Q → OnOk result P
never-ok P (Ok x) Q is = absurd is
never-ok P (Err e) Q is = tt

pub never-if_ok : {X E : Type 0} (P : X → Type 0) (result : Result X E) (Q : E → Type 0) → IsErrAnd result Q → IfOk result P
never-if_ok P (Ok x) Q is = absurd is
never-if_ok P (Err e) Q is = tt
