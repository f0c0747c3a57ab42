-- A catalog that holds nothing but tables of another, and one more of them.
use Rattle.std.proofs.Common.{◌≡◌, ◌⊎◌, inl, inr, ℕ, true, false, true≢false, not, ◌&&◌, List, [], Option, Some, None, is_some, option_copied, Bor, refl, sym, ap, ◌∙◌}
use Rattle.std.proofs.lemmas.Option.{same_Some}
use Rattle.std.specs.Option.{option_map}
use Rattle.perm_values.proofs.Steps.{none_is_some}
use Rattle.perm_catalog.proofs.Named.{AtName, Elsewhere, found, named-last}
use Rattle.perm_catalog.specs.Changes.{is_free, named, nothing_held, table_named, with_table}
use Rattle.perm_catalog.specs.Contents.{Contents}
use Rattle.perm_catalog.specs.Sound.{IsSound}
use Rattle.perm_catalog.specs.declared.entries.TableEntry.{TableEntry}
use Rattle.stored_provenance.proofs.SoundTables.{sound-created}
use Rattle.stored_provenance.proofs.Soundness.{sound-empty}
use Rattle.sql_printer.specs.explained.Alone.{IsAlone}

pub none-copied : {T : Type 0} (held : Option (Bor T)) → is_some held ≡ false → option_copied held ≡ None
none-copied None e = refl
none-copied (Some entry) e = absurd (true≢false e)

pub none-alone : (c : Contents) (next : ℕ) → IsAlone c (nothing_held next)
none-alone c next = record {
  sound = sound-empty next;
  are = record { no_view = refl; columns = λ name table there. none_is_some there };
}

module _ (c old : Contents) (name : List ℕ) (entry : TableEntry) (sound : IsSound c) (alone : IsAlone c old)
    (there : table_named c name ≡ Some entry) (none : table_named old name ≡ None) where
  pub free : is_free old name ≡ true
  free = λ i. not (is_some (none i)) && not (is_some (named (alone.are.no_view i) name))

  abbrev made : TableEntry
  made = record { id = old.next; version = old.next; columns = entry.columns; stored = None }

  abbrev after : Contents
  after = with_table old name entry.columns [] None

  kept : (q : List ℕ) (t : TableEntry) → AtName (Some made) name q t ⊎ Elsewhere (table_named old q) name q t
      → option_map (λ (own : TableEntry). own.columns) (table_named c q) ≡ Some t.columns
  kept q t (inl here) =
      ap (λ n. option_map (λ (own : TableEntry). own.columns) (table_named c n)) (sym here.here)
      ∙ ap (λ (found : Option TableEntry). option_map (λ (own : TableEntry). own.columns) found) there
      ∙ ap (λ (x : TableEntry). Some x.columns) (same_Some made t here.is)
  kept q t (inr else) = alone.are.columns q t else.was

  pub more-alone : IsAlone c after
  more-alone = record {
    sound = sound-created old name entry.columns [] None alone.sound free
        (record { columns_are = (sound.tables name entry there).columns; fitting = refl }) tt;
    are = record {
      no_view = alone.are.no_view;
      columns = λ q t is. kept q t (found (Some made) (table_named old q) (table_named after q) name q t (named-last name q made old.tables none) is);
    };
  }
