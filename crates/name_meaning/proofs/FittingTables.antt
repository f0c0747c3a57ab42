-- The rows of a sound catalog fit whatever names make of a query.
use Rattle.std.proofs.Common.{◌≡◌, ℕ, true, List, Some, subst}
use Rattle.std.proofs.lemmas.List.Elements.{All-contains}
use Rattle.perm_values.specs.declared.kind.Kind.{Kind}
use Rattle.bag_algebra.proofs.TablesRead.{each_table-from_told}
use Rattle.bag_algebra.specs.Fits.{bag_fits, TablesFit}
use Rattle.bag_algebra.specs.TableRows.{rows_in}
use Rattle.bag_algebra.specs.TablesRead.{TableRead, tables_read}
use Rattle.perm_catalog.specs.Changes.{table_named}
use Rattle.perm_catalog.specs.Columns.{column_kinds}
use Rattle.perm_catalog.specs.Contents.{Contents}
use Rattle.perm_catalog.specs.Sound.{IsSound, IsSoundTable, IsSoundView, IsHeldRead}
use Rattle.perm_catalog.specs.declared.entries.TableEntry.{TableEntry}
use Rattle.perm_catalog.specs.declared.entries.ViewEntry.{ViewEntry}
use Rattle.sql_tree.specs.declared.query.QueryTree.{QueryTree}
use Rattle.name_meaning.specs.Meanings.{Around, query_means_at}
use Rattle.name_meaning.specs.Trees.{query_of}
use Rattle.name_meaning.proofs.ReadFroms.{IsHeld}
use Rattle.name_meaning.proofs.ReadNodes.{Grows}
use Rattle.name_meaning.proofs.ReadTrees.{reads-query_tree}

abbrev Fit : Contents → ℕ → List Kind → Type 0
Fit c id kinds = bag_fits (rows_in c.rows id) kinds ≡ true

-- what doesn't hang on names
pub always-grows : (P : ℕ → List Kind → Type 0) → Grows (λ (names : List (List ℕ)). P)
always-grows P = record { left = λ a b id kinds h. h; right = λ a b id kinds h. h }

module _ (c : Contents) (sound : IsSound c) where
  table-fits : (name : List ℕ) (table : TableEntry) → table_named c name ≡ Some table → Fit c table.id (column_kinds table.columns)
  table-fits name table e =
      let t : IsSoundTable c table = sound.tables name table e in
      rw t.held t.fitting

  read-fits : (view : ViewEntry) (r : TableRead) → IsHeldRead c view r → Fit c r.id r.kinds
  read-fits view r held =
      subst (λ (kinds : List Kind). Fit c r.id kinds) held.kinds
      (subst (λ (id : ℕ). Fit c id (column_kinds held.table.columns)) held.id (table-fits held.name held.table held.named))

  sound-held : IsHeld (λ names. Fit c) (always-grows (Fit c)) c
  sound-held = record {
    tables = table-fits;
    views = λ name view e.
        let v : IsSoundView c view = sound.views name view e in
        each_table-from_told (Fit c) view.answer.query
        (λ r among. read-fits view r (All-contains (IsHeldRead c view) (tables_read view.answer.query) r v.reads among));
  }

pub tables-fit : (c : Contents) (tree : QueryTree) (around : Around) → IsSound c → (wanted : List Kind) → TablesFit (rows_in c.rows) ((query_means_at (query_of c tree) around).make wanted)
unfolding query_means_at
tables-fit c tree around sound wanted = reads-query_tree (λ names. Fit c) (always-grows (Fit c)) c (sound-held c sound) tree around wanted
