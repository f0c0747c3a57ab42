-- What a statement leaves of tables that store provenance: whether they are fresh then.
use Rattle.std.proofs.Common.{◌≡◌, ◌≢◌, ℕ, true, List, [], Option, Some, None, IfSome, refl, sym, ap, subst, arith}
use Rattle.std.proofs.lemmas.Option.{same_Some}
use Rattle.std.specs.Prelude.{All}
use Rattle.std.specs.FinMap.{FinMap}
use Rattle.std.specs.Ordering.{nat_cmp}
use Rattle.perm_values.proofs.Steps.{none_is_some}
use Rattle.bag_algebra.specs.Bags.{Bag}
use Rattle.perm_catalog.proofs.Named.{named-changed, named-last, named-without}
use Rattle.perm_catalog.specs.Changes.{is_free, renewed, table_named, view_named, with_rows_of, with_table, with_view, without_table, without_view}
use Rattle.perm_catalog.specs.Contents.{Contents}
use Rattle.perm_catalog.specs.Sound.{IsSound}
use Rattle.perm_catalog.specs.Stored.{IsDrawn, IsFresh, IsSoundStored}
use Rattle.perm_catalog.specs.declared.column.Column.{Column}
use Rattle.perm_catalog.specs.declared.entries.SourceVersion.{SourceVersion}
use Rattle.perm_catalog.specs.declared.entries.StoredQuery.{StoredQuery}
use Rattle.perm_catalog.specs.declared.entries.TableEntry.{TableEntry}
use Rattle.name_meaning.specs.declared.answer.Resolved.{Resolved}
use Rattle.name_meaning.specs.declared.answer.Resolved.TheVariants as r
use Rattle.stored_provenance.proofs.Soundness.{are-apart, free-table}
use Rattle.statement_meaning.specs.Asking.{asks}
use Rattle.statement_meaning.specs.Ready.{IsReady}
use Rattle.statement_meaning.specs.Turns.{identity_of}
use Rattle.statement_meaning.proofs.Freshness.{ends-fresh, never-again, stays-fresh}
use Rattle.statement_meaning.proofs.Leaving.{Cases, leaves, leaves-weaker, sound-leaves}
use Rattle.statement_meaning.proofs.Sounder.{known}
use Rattle.statement_meaning.specs.laws.Freshened.{IsStoredRead, IsUnread, MeetsStored, written}
use Rattle.statement_meaning.specs.laws.Leaving.{Leaves}
use Rattle.statement_meaning.specs.laws.Sounder.{KeepsSound}

-- ---- freshness

-- what a change of the table of this name, if any, leaves of what is stored
pub record Keeps (c : Contents) (stored : StoredQuery) (changed : Option (List ℕ)) (d : Contents) : Type 0 where
  pub never : IsFresh d stored → IsFresh c stored
  pub stays : IfSome changed (IsUnread c stored) → IsFresh c stored → IsFresh d stored
  pub ends : IfSome changed (λ (name : List ℕ). IsStoredRead c stored name → IsFresh d stored → ⊥)

module _ (c : Contents) (sound : IsSound c) (stored : StoredQuery) (drawn : All (IsDrawn c) stored.kept) where
  keeps-same : (d : Contents) → d.tables ≡ c.tables → Keeps c stored None d
  keeps-same d same = record {
    never = λ fresh. subst (λ tables. IsFresh (record d { tables = tables }) stored) same fresh;
    stays = λ unread fresh. subst (λ tables. IsFresh (record d { tables = tables }) stored) (sym same) fresh;
    ends = tt;
  }

  module _ (name : List ℕ) (columns : List Column) (rows : Bag) (mark : Option StoredQuery) (free : is_free c name ≡ true) where
    abbrev made : TableEntry
    made = record { id = c.next; version = c.next; columns = columns; stored = mark }

    none : table_named c name ≡ None
    none = free-table (table_named c name) (view_named c name) free

    pub keeps-created : IsSound (with_table c name columns rows mark) → Keeps c stored None (with_table c name columns rows mark)
    keeps-created after =
        let d : Contents = with_table c name columns rows mark in
        let change = λ (q : List ℕ). named-last name q made c.tables none in record {
          never = never-again c d name (Some made) change (are-apart c sound) (are-apart d after) stored drawn
              (λ kept numbers t is id version.
              let new : c.next ≡ t.id = ap (λ (x : TableEntry). x.id) (same_Some made t is) in
              let low = numbers.id in
              omega (arith, low, new, id));
          stays = λ unread fresh. stays-fresh c d name (Some made) change (are-apart c sound) (are-apart d after) stored drawn
              (subst (λ (o : Option TableEntry). IfSome o (λ (table : TableEntry). All (λ (kept : SourceVersion). kept.id ≢ table.id) stored.kept)) (sym none) tt) fresh;
          ends = tt;
        }

  module _ (name : List ℕ) (table : TableEntry) (is : table_named c name ≡ Some table) (rows : FinMap nat_cmp Bag) where
    abbrev newer : TableEntry
    newer = renewed c.next table

    -- its version was drawn now
    newer-new : (kept : SourceVersion) → IsDrawn c kept → (t : TableEntry) → Some newer ≡ Some t → t.id ≡ kept.id → t.version ≡ kept.version → ⊥
    newer-new kept numbers t e id version =
        let new : c.next ≡ t.version = ap (λ (x : TableEntry). x.version) (same_Some newer t e) in
        let low = numbers.version in
        omega (arith, low, new, version)

    keeps-rows : IsSound (with_rows_of c name rows) → Keeps c stored (Some name) (with_rows_of c name rows)
    keeps-rows after =
        let d : Contents = with_rows_of c name rows in
        let change = λ (q : List ℕ). named-changed (renewed c.next) name q table c.tables is in record {
          never = never-again c d name (Some newer) change (are-apart c sound) (are-apart d after) stored drawn newer-new;
          stays = stays-fresh c d name (Some newer) change (are-apart c sound) (are-apart d after) stored drawn;
          ends = ends-fresh c d name (Some newer) change (are-apart c sound) (are-apart d after) stored drawn newer-new;
        }

  none-new : (kept : SourceVersion) → IsDrawn c kept → (t : TableEntry) → None ≡ Some t → t.id ≡ kept.id → t.version ≡ kept.version → ⊥
  none-new kept numbers t e id version = none_is_some e

  keeps-dropped : (name : List ℕ) (id : ℕ) → IsSound (without_table c name id) → Keeps c stored (Some name) (without_table c name id)
  keeps-dropped name id after =
      let d : Contents = without_table c name id in
      let change = λ (q : List ℕ). named-without name q c.tables sound.table_names in record {
        never = never-again c d name None change (are-apart c sound) (are-apart d after) stored drawn none-new;
        stays = stays-fresh c d name None change (are-apart c sound) (are-apart d after) stored drawn;
        ends = ends-fresh c d name None change (are-apart c sound) (are-apart d after) stored drawn none-new;
      }

  abbrev SoundKeeps : Option (List ℕ) → Contents → Type 0
  SoundKeeps changed d = IsSound d → Keeps c stored changed d

  keeps-cases : (statement : Resolved) → IsReady c statement → Cases (SoundKeeps (written statement)) c statement
  keeps-cases (r.CreateTable name columns) free = keeps-created name columns [] None free
  keeps-cases (r.CreateTableAs name columns answer places) ready = λ rows. keeps-created name columns rows _ ready.0
  keeps-cases (r.CreateView name entry) free = λ after. keeps-same (with_view c name entry) refl
  keeps-cases (r.Copy name kinds file null_field header) some = let t = known (table_named c name) some in λ rows. keeps-rows name t.0 t.1 _
  keeps-cases (r.Insert name rows) some = let t = known (table_named c name) some in λ made. keeps-rows name t.0 t.1 _
  keeps-cases (r.Delete name condition) some = let t = known (table_named c name) some in λ doomed. keeps-rows name t.0 t.1 _
  keeps-cases (r.DropTable name) ready = keeps-dropped name (identity_of c name)
  keeps-cases (r.DropView name) ready = λ after. keeps-same (without_view c name) refl
  keeps-cases (r.Select answer) ready = λ after. keeps-same c refl
  keeps-cases (r.Explain answer) ready = λ after. keeps-same c refl
  keeps-cases (r.ShowFresh name) ready = λ after. keeps-same c refl
  keeps-cases (r.Impact name condition answer) ready = λ after. keeps-same c refl

-- ---- what a table of the catalog stores

module _ (c : Contents) (at : ℕ) (statement : Resolved) (name : List ℕ) (table : TableEntry) (stored : StoredQuery)
    (meets : MeetsStored c statement name table stored) (keeps : KeepsSound (asks c at statement)) where
  stored-drawn : All (IsDrawn c) stored.kept
  stored-drawn =
      let t = meets.sound.tables name table meets.named in
      (subst (λ (o : Option StoredQuery). IfSome o (IsSoundStored c table.columns t.rows)) meets.stores t.stored).drawn

  leaves-keeps : Leaves (Keeps c stored (written statement)) (asks c at statement)
  leaves-keeps =
      sound-leaves (Keeps c stored (written statement)) (asks c at statement) keeps
      (leaves (λ d. IsSound d → Keeps c stored (written statement) d) c at statement (keeps-cases c meets.sound stored stored-drawn statement meets.ready))

  pub never-fresh : Leaves (λ d. IsFresh d stored → IsFresh c stored) (asks c at statement)
  never-fresh = leaves-weaker (Keeps c stored (written statement)) (λ d. IsFresh d stored → IsFresh c stored) (λ d k. k.never) (asks c at statement) leaves-keeps

  pub still-fresh : IsFresh c stored → IfSome (written statement) (IsUnread c stored) → Leaves (λ d. IsFresh d stored) (asks c at statement)
  still-fresh fresh unread =
      leaves-weaker (Keeps c stored (written statement)) (λ d. IsFresh d stored) (λ d k. k.stays unread fresh) (asks c at statement) leaves-keeps

  pub no-more-fresh : (changed : List ℕ) → written statement ≡ Some changed → IsStoredRead c stored changed → Leaves (λ d. IsFresh d stored → ⊥) (asks c at statement)
  no-more-fresh changed is read =
      leaves-weaker (Keeps c stored (written statement)) (λ d. IsFresh d stored → ⊥)
      (λ d k. subst (λ (o : Option (List ℕ)). IfSome o (λ (n : List ℕ). IsStoredRead c stored n → IsFresh d stored → ⊥)) is k.ends read) (asks c at statement) leaves-keeps
