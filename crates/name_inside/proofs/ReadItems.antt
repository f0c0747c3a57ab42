-- What an item of FROM reads, under its name.
use Rattle.std.specs.Prelude.{◌≡◌, ℕ, List, [], ◌∷◌, Some, None, Err}
use Rattle.std.proofs.Common.{ap, sym, subst, ◌∙◌}
use Rattle.perm_values.proofs.Lists.{front-none}
use Rattle.perm_catalog.specs.Contents.{Contents}
use Rattle.perm_catalog.specs.declared.column.Column.{Column}
use Rattle.sql_tree.specs.declared.source.FromItem.{FromItem}
use Rattle.name_meaning.proofs.Opened.{opened_from_item}
use Rattle.name_meaning.specs.Froms.{FromItemPart, ItemMeant, Read, item_meant, label_of, read_of, scope_name, table_columns}
use Rattle.name_meaning.specs.Meanings.{Around}
use Rattle.name_meaning.specs.Trees.{from_item_of, source_of}
use Rattle.name_meaning.specs.declared.answer.Break.{Break}
use Rattle.name_seen_cores.specs.from.Readings.{IsRead}
use Rattle.name_seen_cores.specs.declared.from.reading.Reading.{Reading}
use Rattle.name_seen_parts.specs.Seen.{first_or}
use Rattle.name_inside.specs.Passed.{IsKnownAs, IsReadAs}

unbroken : (breaks : List Break) (first : Break) → breaks ≡ [] → first_or breaks (tt {0}) ≡ Err first → ⊥
unbroken [] first none told = cc
unbroken (b ∷ bs) first none told = cc

module _ (c : Contents) (item : FromItem) (around : Around) (names : List (List ℕ)) where
  abbrev read : Read
  read = read_of c around (source_of c item.source)

  abbrev meant : ItemMeant
  meant = (from_item_of c item).means around names

  as-item : meant ≡ item_meant item.at item.mark names (scope_name (source_of c item.source) item.alias) (label_of (source_of c item.source) item.alias) read
  as-item = ap (λ (part : FromItemPart). part.means around names) (opened_from_item c item)

  pub read-known : (reading : Reading) (found : List ℕ × List Column) → IsRead read reading → found.0 ≡ scope_name (source_of c item.source) item.alias
      → found.1 ≡ reading.columns → IsReadAs meant (Some found)
  read-known reading found is called same none = subst (λ (m : ItemMeant). IsKnownAs m found.0 found.1) (sym as-item) (record {
    name_is = sym called;
    known = is.columns ∙ ap (λ (columns : List Column). Some (table_columns columns)) (sym same);
  })

  pub read-broken : (first : Break) → first_or read.breaks (tt {0}) ≡ Err first → IsReadAs meant None
  read-broken first told none =
      unbroken read.breaks first (front-none read.breaks _ (front-none _ _ (ap (λ (m : ItemMeant). m.breaks) (sym as-item) ∙ none))) told
