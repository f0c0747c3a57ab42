-- Each table that a query reads has its name in the catalog, and its columns have theirs.
use Rattle.std.proofs.Common.{◌≡◌, ℕ, Bool, true, false, cond, ◌||◌, List, [], ◌∷◌, ◌++◌, Option, Some, None, ⊎_elim, refl, sym, ap, ◌∙◌, arith, true≢false, Contains}
use Rattle.std.specs.Prelude.{unwrap_or, nat_eq}
use Rattle.std.specs.Cmp.Lexicographic.{pointwise}
use Rattle.std.specs.List.{AllByRecursion, IsDistinct, list_any}
use Rattle.std.specs.Option.{option_map, option_and_then}
use Rattle.std.proofs.lemmas.Bool.Decides.{nat_tests}
use Rattle.std.proofs.lemmas.List.Elements.{Contains-append_cases, Contains-push_cases}
use Rattle.std.proofs.lemmas.Option.{same_Some}
use Rattle.perm_values.specs.declared.kind.Kind.{Kind}
use Rattle.bag_algebra.specs.TablesRead.{EachTable, TableRead, tables_read}
use Rattle.bag_algebra.specs.declared.query.Query.{Query}
use Rattle.bag_algebra.proofs.TablesRead.{each_table-from_told, each_table-told}
use Rattle.perm_catalog.specs.Changes.{table_named}
use Rattle.perm_catalog.specs.Contents.{Contents}
use Rattle.perm_catalog.specs.Lookups.{name_of_id}
use Rattle.perm_catalog.specs.Sound.{IsSound}
use Rattle.perm_catalog.specs.declared.entries.TableEntry.{TableEntry}
use Rattle.stored_provenance.proofs.Marks.{has-entry}
use Rattle.perm_catalog.specs.Held.{IsHeldTable}
use Rattle.stored_provenance.specs.Reads.{listed}
use Rattle.name_meaning.specs.Froms.{named_so}
use Rattle.name_meaning.specs.Statements.{repeats}
use Rattle.query_texts.specs.clauses.Names.{has_id, names_of, nameless, table_of}
use Rattle.query_texts.specs.declared.clauses.tables.TableNames.{TableNames}
use Rattle.sql_printer.specs.answers.ReadAs.{IsNamed}
use Rattle.sql_printer.specs.Called.{named_under, names_now, tables_named, with_read, with_reads}

pub with_reads-append : (c : Contents) (rs ss : List TableRead) (tables : List TableNames)
    → with_reads c (rs ++ ss) tables ≡ with_reads c ss (with_reads c rs tables)
with_reads-append c [] ss tables = refl
with_reads-append c (r ∷ rs) ss tables = with_reads-append c rs ss (with_read c r.id tables)

-- ---- what is found of an identity

none-found : {X P : Type 0} (x : X) → None ≡ Some x → P
none-found x e = cc

-- what stands in front is found first
found-in_front : (id : ℕ) (tables more : List TableNames) (t : TableNames) → table_of tables id ≡ Some t → table_of (tables ++ more) id ≡ Some t
found-in_front id [] more t is = none-found t is
found-in_front id (first ∷ tables) more t is = by (has_id id first) (found-in_front id tables more t) is
  where
    by : (b : Bool) → (table_of tables id ≡ Some t → table_of (tables ++ more) id ≡ Some t)
        → cond b (Some first) (table_of tables id) ≡ Some t → cond b (Some first) (table_of (tables ++ more) id) ≡ Some t
    by true later e = e
    by false later e = later e

-- where nothing in front has the identity, what is behind is found
found-behind : (id : ℕ) (tables more : List TableNames) → list_any (has_id id) tables ≡ false → table_of (tables ++ more) id ≡ table_of more id
found-behind id [] more none = refl
found-behind id (first ∷ tables) more none = by (has_id id first) (found-behind id tables more) none
  where
    by : (b : Bool) → (list_any (has_id id) tables ≡ false → table_of (tables ++ more) id ≡ table_of more id)
        → (b || list_any (has_id id) tables) ≡ false → cond b (Some first) (table_of (tables ++ more) id) ≡ table_of more id
    by true later e = absurd (true≢false e)
    by false later e = later e

record IsThere (id : ℕ) (tables : List TableNames) : Type 0 where
  t : TableNames
  is : table_of tables id ≡ Some t

there : (id : ℕ) (tables : List TableNames) → list_any (has_id id) tables ≡ true → IsThere id tables
there id [] some = absurd (true≢false (sym some))
there id (first ∷ tables) some = by (has_id id first) (there id tables) refl some
  where
    by : (b : Bool) → (list_any (has_id id) tables ≡ true → IsThere id tables) → has_id id first ≡ b → (b || list_any (has_id id) tables) ≡ true
        → IsThere id (first ∷ tables)
    by true later e h = record { t = first; is = ap (λ b. cond b (Some first) (table_of tables id)) e }
    by false later e h = record { t = (later h).t; is = ap (λ b. cond b (Some first) (table_of tables id)) e ∙ (later h).is }

own-id : (id : ℕ) (t : TableNames) → t.id ≡ id → has_id id t ≡ true
own-id id t is = grind (arith, nat_tests, is)

id-own : (id : ℕ) (t : TableNames) → has_id id t ≡ true → t.id ≡ id
id-own id t is = grind (arith, nat_tests, is)

one-found : (id : ℕ) (n t : TableNames) (b : Bool) → has_id id n ≡ b → cond b (Some n) None ≡ Some t → (n.id ≡ id) × (n ≡ t)
one-found id n t true e is = (id-own id n e, same_Some n t is)
one-found id n t false e is = none-found t is

-- ---- naming one table after another

module _ (c : Contents) where
  names-id : (id : ℕ) (n : TableNames) → names_now c id ≡ Some n → n.id ≡ id
  names-id id n is = by (name_of_id c id) is
    where
      under : (name : List ℕ) (o : Option TableEntry) → option_map (named_under id name) o ≡ Some n → n.id ≡ id
      under name None e = none-found n e
      under name (Some table) e = sym (ap (λ (t : TableNames). t.id) (same_Some (named_under id name table) n e))

      by : (o : Option (List ℕ)) → option_and_then (λ name. option_map (named_under id name) (table_named c name)) o ≡ Some n → n.id ≡ id
      by None e = none-found n e
      by (Some name) e = under name (table_named c name) e

  -- what is found of an identity is what its table is called
  abbrev Right : List TableNames → Type 0
  Right tables = (id : ℕ) (t : TableNames) → table_of tables id ≡ Some t → names_now c id ≡ Some t

  right-none : Right []
  right-none id t is = none-found t is

  right-behind : (id : ℕ) (tables : List TableNames) → Right tables → (o : Option TableNames) → names_now c id ≡ o → Right (tables ++ listed o)
  right-behind id tables right o now other t is = by (list_any (has_id other) tables) refl
    where
      last : (o : Option TableNames) → names_now c id ≡ o → table_of (listed o) other ≡ Some t → names_now c other ≡ Some t
      last None e h = none-found t h
      last (Some n) e h =
          let same = one-found other n t (has_id other n) refl h in
          ap (names_now c) (sym same.0 ∙ names-id id n e) ∙ e ∙ ap Some same.1

      by : (b : Bool) → list_any (has_id other) tables ≡ b → names_now c other ≡ Some t
      by true e =
          let before = there other tables e in
          right other before.t before.is ∙ sym (found-in_front other tables (listed o) before.t before.is) ∙ is
      by false e = last o now (sym (found-behind other tables (listed o) e) ∙ is)

  right-read : (id : ℕ) (tables : List TableNames) → Right tables → Right (with_read c id tables)
  right-read id tables right = by (list_any (has_id id) tables)
    where
      by : (b : Bool) → Right (cond b tables (tables ++ listed (names_now c id)))
      by true = right
      by false = right-behind id tables right (names_now c id) refl

  stays-read : (other : ℕ) (tables : List TableNames) (id : ℕ) (t : TableNames) → table_of tables id ≡ Some t → table_of (with_read c other tables) id ≡ Some t
  stays-read other tables id t is = by (list_any (has_id other) tables)
    where
      by : (b : Bool) → table_of (cond b tables (tables ++ listed (names_now c other))) id ≡ Some t
      by true = is
      by false = found-in_front id tables (listed (names_now c other)) t is

  stays : (reads : List TableRead) (tables : List TableNames) (id : ℕ) (t : TableNames) → table_of tables id ≡ Some t
      → table_of (with_reads c reads tables) id ≡ Some t
  stays [] tables id t is = is
  stays (r ∷ reads) tables id t is = stays reads (with_read c r.id tables) id t (stays-read r.id tables id t is)

  named-read : (id : ℕ) (n : TableNames) (tables : List TableNames) → Right tables → names_now c id ≡ Some n → table_of (with_read c id tables) id ≡ Some n
  named-read id n tables right now = by (list_any (has_id id) tables) refl
    where
      by : (b : Bool) → list_any (has_id id) tables ≡ b → table_of (cond b tables (tables ++ listed (names_now c id))) id ≡ Some n
      by true e =
          let before = there id tables e in
          before.is ∙ sym (right id before.t before.is) ∙ now
      by false e =
          found-behind id tables (listed (names_now c id)) e ∙ ap (λ o. table_of (listed o) id) now
          ∙ ap (λ b. cond b (Some n) None) (own-id id n (names-id id n now))

  named-reads : (reads : List TableRead) (tables : List TableNames) → Right tables → (r : TableRead) → Contains reads r → (n : TableNames)
      → names_now c r.id ≡ Some n → table_of (with_reads c reads tables) r.id ≡ Some n
  named-reads [] tables right r among n now = let beyond = among.1 in absurd (omega arith)
  named-reads (first ∷ reads) tables right r among n now =
      ⊎_elim
      (λ here. ⊎_elim (λ never. let beyond = never.1 in absurd (omega arith))
      (λ same. stays reads (with_read c first.id tables) r.id n
      (ap (λ (read : TableRead). table_of (with_read c first.id tables) read.id) (sym same)
      ∙ named-read first.id n tables right (ap (λ (read : TableRead). names_now c read.id) same ∙ now)))
      (Contains-push_cases [] first r here))
      (λ later. named-reads reads (with_read c first.id tables) (right-read first.id tables right) r later n now)
      (Contains-append_cases (first ∷ []) reads r among)

-- ---- over a sound catalog

none-so : (name : List ℕ) (names : List (List ℕ)) → AllByRecursion (λ y. pointwise nat_eq name y ≡ false) names → list_any (named_so name) names ≡ false
none-so name [] apart = refl
none-so name (other ∷ names) apart = ap (λ b. b || list_any (named_so name) names) apart.0 ∙ none-so name names apart.1

unrepeated : (names : List (List ℕ)) → IsDistinct (pointwise nat_eq) names → repeats names ≡ false
unfolding IsDistinct
unrepeated [] apart = refl
unrepeated (name ∷ names) apart = ap (λ b. b || repeats names) (none-so name names apart.0) ∙ unrepeated names apart.1

module _ (c : Contents) (sound : IsSound c) where
  held-names : (id : ℕ) (kinds : List Kind) (h : IsHeldTable c id kinds) → names_now c id ≡ Some (named_under id h.name h.table)
  held-names id kinds h =
      let entry = has-entry c (record { names = sound.table_names; identities = sound.identities }) id
      (record { name = h.name; table = h.table; is = h.named; id_is = h.id_is }) in
      ap (λ (o : Option (List ℕ × TableEntry)). option_and_then (λ name. option_map (named_under id name) (table_named c name)) (option_map (λ e. e.0) o)) entry
      ∙ ap (option_map (named_under id h.name)) h.named

  is-named : (tables : List TableNames) (id : ℕ) (kinds : List Kind) (h : IsHeldTable c id kinds)
      → table_of tables id ≡ Some (named_under id h.name h.table) → IsNamed c tables id kinds
  is-named tables id kinds h found =
      let is : names_of tables id ≡ named_under id h.name h.table = ap (λ o. unwrap_or o (nameless id)) found in
      record {
        table = h.table;
        found = ap (λ (t : TableNames). table_named c t.name) is ∙ h.named;
        same = h.id_is;
        kinds_are = h.kinds_are;
        columns_are = sym (ap (λ (t : TableNames). t.columns) is);
        distinct = ap (λ (t : TableNames). repeats t.columns) is
            ∙ unrepeated (named_under id h.name h.table).columns (sound.tables h.name h.table h.named).columns.named;
      }

  pub tables-named : (q : Query) → EachTable (IsHeldTable c) q → EachTable (IsNamed c (tables_named c q)) q
  tables-named q held =
      each_table-from_told (IsNamed c (tables_named c q)) q
      (λ r among. let h = each_table-told (IsHeldTable c) q held r among in
      is-named (tables_named c q) r.id r.kinds h
      (named-reads c (tables_read q) [] (right-none c) r among (named_under r.id h.name h.table) (held-names r.id r.kinds h)))
