use Rattle.std.specs.Prelude.{List, ℕ}
use Rattle.std.proofs.Common.{ap, refl, ◌∙◌}
use Rattle.name_meaning.specs.Froms.{label_of, scope_name}
use Rattle.name_meaning.specs.Trees.{source_of}
use Rattle.name_seen_parts.specs.Scopes.{item_scope, scope_beside}
use Rattle.name_seen_parts.specs.FromColumns.{known_names}
use Rattle.name_seen_cores.proofs.Placed.{early-none, item-whole, name-new, names-kept}
use Rattle.name_seen_cores.proofs.from.items.put_item.Goals as goal

pub returns-clause-seen : goal.returns-clause-seen
returns-clause-seen c = λ contents read is.
    let item = c.args.item.now in
    let held = c.args.names.now.known.keys in
    let name = scope_name (source_of contents item.source) item.alias in
    let label = label_of (source_of contents item.source) item.alias in
    item-whole item.at item.mark held name label read c.args.reading c.in_ok-marked.marked c.args.scope.now c.put_read.new.scope c.args.facts.now c.put_read.new.facts is
    (early-none item.at item.mark held name c.in_ok-name.name c.args.reading.columns c.as_slice.result.now
    (c.in_ok-name.ensures contents) c.as_slice.ensures c.in_ok-item_break.ensures)
    (c.in_ok-marked.ensures contents)
    (c.in_ok-put_read.ensures.wider
    ∙ ap (λ (name : List ℕ). scope_beside c.args.scope.now (item_scope name c.in_ok-marked.marked.columns)) (c.in_ok-name.ensures contents))
    c.in_ok-put_read.ensures.adds

pub returns-clause-named : goal.returns-clause-named
returns-clause-named c =
    let item = c.args.item.now in
    let held = c.args.names.now.known.keys in
    let fine = early-none item.at item.mark held c.in_ok-name.name c.in_ok-name.name c.args.reading.columns c.as_slice.result.now refl c.as_slice.ensures
    c.in_ok-item_break.ensures in
    names-kept held c.add.new.self.known.keys c.in_ok-name.name c.in_ok-marked.marked.columns c.args.scope.now c.put_read.new.scope
    (c.in_ok-add.ensures.adds (name-new item.at item.mark held c.in_ok-name.name (known_names c.args.reading.columns) _ fine c.in_ok-add.ensures.tells))
    c.in_ok-put_read.ensures.wider
