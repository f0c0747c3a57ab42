-- What the calls of a catalog make of what it holds.
use Rattle.std.specs.Prelude.{ℕ, ◌+◌, Bool, cond, not, ◌&&◌, List, [], ◌∷◌, ◌++◌, Option, None, is_some, nat_eq}
use Rattle.std.specs.Cmp.Lexicographic.{pointwise}
use Rattle.std.specs.FinMap as map
use Rattle.std.specs.FinMap.{FinMap}
use Rattle.std.specs.Map.{lookup, remove_entry}
use Rattle.std.specs.Option.{option_map_or}
use Rattle.std.specs.Ordering.{nat_cmp}
use Rattle.perm_values.specs.Marked.{unmarked}
use Rattle.bag_algebra.specs.Bags.{Bag}
use Rattle.bag_algebra.specs.TableRows.{rows_in}
use Rattle.perm_catalog.specs.Contents.{Contents}
use Rattle.perm_catalog.specs.declared.column.Column.{Column}
use Rattle.perm_catalog.specs.declared.entries.StoredQuery.{StoredQuery}
use Rattle.perm_catalog.specs.declared.entries.TableEntry.{TableEntry}
use Rattle.perm_catalog.specs.declared.entries.ViewEntry.{ViewEntry}

-- what has this name
abbrev pub named : {X : Type 0} → List (List ℕ × X) → List ℕ → Option X
named entries name = lookup (pointwise nat_eq name) entries

abbrev pub table_named : Contents → List ℕ → Option TableEntry
table_named c name = named c.tables name

abbrev pub view_named : Contents → List ℕ → Option ViewEntry
view_named c name = named c.views name

-- tables and views share one set of names
abbrev pub is_free : Contents → List ℕ → Bool
is_free c name = not (is_some (table_named c name)) && not (is_some (view_named c name))

-- the rows of an identity
abbrev pub rows_at : Contents → ℕ → Bag
rows_at c id = rows_in c.rows id

-- a table comes last, with its rows under its identity
abbrev pub with_entry : Contents → List ℕ → TableEntry → Bag → Contents
with_entry c name entry rows = record c { tables = c.tables ++ (name, entry) ∷ []; rows = map.insert c.rows entry.id rows }

-- a table comes last, with the number drawn as its identity and version
abbrev pub with_table : Contents → List ℕ → List Column → Bag → Option StoredQuery → Contents
with_table c name columns rows stored = record {
  tables = c.tables ++ (name, record { id = c.next; version = c.next; columns = columns; stored = stored }) ∷ [];
  views = c.views;
  rows = map.insert c.rows c.next rows;
  next = c.next + 1;
}

-- the entry of this name changed, in its place
abbrev pub changed : {X : Type 0} → (X → X) → List ℕ → List (List ℕ × X) → List (List ℕ × X)
changed f name [] = []
changed f name (e ∷ es) = cond (pointwise nat_eq name e.0) ((e.0, f e.1) ∷ es) (e ∷ changed f name es)

-- the number drawn is the new version, and what provenance the table stored it stores no more
abbrev pub renewed : ℕ → TableEntry → TableEntry
renewed version entry = record entry { version = version; stored = None }

-- the rows of a table replaced, before the number is drawn: its version is the next number
abbrev pub with_rows_undrawn : Contents → List ℕ → FinMap nat_cmp Bag → Contents
with_rows_undrawn c name rows = record c { tables = changed (renewed c.next) name c.tables; rows = rows }

-- the rows of a table replaced, under a new version
abbrev pub with_rows_of : Contents → List ℕ → FinMap nat_cmp Bag → Contents
with_rows_of c name rows = record {
  tables = changed (renewed c.next) name c.tables;
  views = c.views;
  rows = rows;
  next = c.next + 1;
}

-- the rows of an identity with more at their end
abbrev pub rows_with : FinMap nat_cmp Bag → ℕ → Bag → FinMap nat_cmp Bag
rows_with held id rows = map.insert held id (rows_in held id ++ rows)

-- the rows of an identity without the flagged ones
abbrev pub rows_without : FinMap nat_cmp Bag → ℕ → List Bool → FinMap nat_cmp Bag
rows_without held id doomed = option_map_or (λ rows. map.insert held id (unmarked doomed rows)) (map.get held id) held

-- rows added, before the number is drawn
abbrev pub with_more_rows_undrawn : Contents → List ℕ → ℕ → Bag → Contents
with_more_rows_undrawn c name id rows = with_rows_undrawn c name (rows_with c.rows id rows)

-- rows added at the end of the table that has this identity
abbrev pub with_more_rows : Contents → List ℕ → ℕ → Bag → Contents
with_more_rows c name id rows = with_rows_of c name (rows_with c.rows id rows)

-- the flagged rows gone, before the number is drawn
abbrev pub with_fewer_rows_undrawn : Contents → List ℕ → ℕ → List Bool → Contents
with_fewer_rows_undrawn c name id doomed = with_rows_undrawn c name (rows_without c.rows id doomed)

-- the flagged rows gone from the table that has this identity
abbrev pub with_fewer_rows : Contents → List ℕ → ℕ → List Bool → Contents
with_fewer_rows c name id doomed = with_rows_of c name (rows_without c.rows id doomed)

abbrev pub without_table : Contents → List ℕ → ℕ → Contents
without_table c name id = record c { tables = remove_entry (pointwise nat_eq name) c.tables; rows = map.remove c.rows id }

abbrev pub with_view : Contents → List ℕ → ViewEntry → Contents
with_view c name entry = record c { views = c.views ++ (name, entry) ∷ [] }

abbrev pub without_view : Contents → List ℕ → Contents
without_view c name = record c { views = remove_entry (pointwise nat_eq name) c.views }

-- nothing, with this number to be drawn next
abbrev pub nothing_held : ℕ → Contents
nothing_held next = record { tables = []; views = []; rows = map.empty; next = next }
