use Rattle.std.specs.Prelude.{[], List, Some, option_map}
use Rattle.std.specs.Option.{option_map_or}
use Rattle.std.proofs.Common.{ap, sym, ◌∙◌, ◌≡◌}
use Rattle.bag_algebra.specs.Kinds.{kinds_of}
use Rattle.perm_catalog.specs.Columns.{column_kinds}
use Rattle.name_meaning.specs.Froms.{names_of, settled_columns, table_columns}
use Rattle.name_seen_parts.specs.Columns.{columns_of}
use Rattle.name_seen_parts.specs.declared.clauses.column.ShownColumn.{ShownColumn}
use Rattle.name_seen_cores.specs.from.Added.{facts_in}
use Rattle.name_seen_parts.specs.FromColumns.{known_names}
use Rattle.name_seen_cores.specs.from.Readings.{external_facts}
use Rattle.name_seen_cores.proofs.Plain.{shown-plain}
use Rattle.name_seen_parts.proofs.Settled.{kinds-settled}
use Rattle.name_seen_cores.proofs.from.reading.read_shown.Goals as goal

pub returns : goal.returns
returns c = λ m whole.
    let shown = c.args.shown in
    let columns = c.in_ok-columns.columns in
    let kinds = c.in_ok-kinds.kinds in
    let settles : table_columns columns ≡ settled_columns (columns_of shown.columns) =
    c.in_ok-columns.ensures ∙ ap (λ (columns : List ShownColumn). settled_columns (columns_of columns)) c.as_slice.ensures in
    let sorts : kinds_of (m.make []) ≡ kinds =
    whole.kinds [] ∙ kinds-settled (columns_of shown.columns) columns settles ∙ sym (c.in_ok-kinds.ensures ∙ ap column_kinds c.as_slice-2.ensures) in
    record {
      whole = whole.whole;
      columns = ap (option_map settled_columns) whole.known ∙ ap Some (sym settles);
      kinds = sorts;
      plain = sym (c.in_ok-plain.ensures
          ∙ (λ i. option_map_or (external_facts (known_names (c.as_slice-3.ensures i)) (c.as_slice-4.ensures i)) shown.places (facts_in shown.facts))
          ∙ shown-plain m shown (known_names columns) kinds whole (ap names_of settles) sorts);
    }
