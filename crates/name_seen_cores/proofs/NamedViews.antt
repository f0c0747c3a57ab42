-- What the name of a view reads.
use Rattle.std.specs.Prelude.{◌≡◌, Option, Some, None}
use Rattle.std.specs.Option.{option_map_or}
use Rattle.std.proofs.Common.{ap, sym, subst, ◌∙◌}
use Rattle.perm_catalog.specs.Changes.{table_named, view_named}
use Rattle.perm_catalog.specs.Contents.{Contents}
use Rattle.perm_catalog.specs.declared.entries.TableEntry.{TableEntry}
use Rattle.perm_catalog.specs.declared.entries.ViewEntry.{ViewEntry}
use Rattle.sql_tree.specs.declared.name.Name.{Name}
use Rattle.name_meaning.specs.Froms.{Read, read_named, read_nothing, read_table, read_view}
use Rattle.name_seen_cores.specs.from.Readings.{IsRead}
use Rattle.name_seen_cores.specs.declared.from.reading.Reading.{Reading}

pub read-so : (read other : Read) (reading : Reading) → read ≡ other → IsRead other reading → IsRead read reading
read-so read other reading same is = subst (λ (read : Read). IsRead read reading) (sym same) is

otherwise : (c : Contents) (name : Name) → table_named c name.text ≡ None → read_named c name ≡ option_map_or (read_view name.text) (view_named c name.text) (read_nothing name)
otherwise c name none =
    ap (λ (held : Option TableEntry). option_map_or (read_table name.text) held (option_map_or (read_view name.text) (view_named c name.text) (read_nothing name))) none

pub named-view : (c : Contents) (name : Name) (view : ViewEntry) → table_named c name.text ≡ None → view_named c name.text ≡ Some view
    → read_named c name ≡ read_view name.text view
named-view c name view none found =
    otherwise c name none ∙ ap (λ (held : Option ViewEntry). option_map_or (read_view name.text) held (read_nothing name)) found
