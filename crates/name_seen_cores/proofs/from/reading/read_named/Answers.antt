use Rattle.std.proofs.Common.{sym}
use Rattle.name_meaning.specs.Froms.{read_named, read_view}
use Rattle.name_seen_cores.proofs.NamedViews.{named-view, read-so}
use Rattle.name_seen_cores.proofs.from.reading.read_named.Goals as goal

pub returns-in_ok-read_view-in-Some-view : goal.returns-in_ok-read_view-in-Some-view
returns-in_ok-read_view-in-Some-view c =
    let name = c.args.name.now in
    read-so (read_named c.args.catalog.now name) (read_view name.text c.in-Some-view.view.now) c.in_ok-read_view-in-Some-view.field-0
    (named-view c.args.catalog.now name c.in-Some-view.view.now (sym c.in-None.ensures) (sym c.in-Some-view.ensures)) (c.in_ok-read_view-in-Some-view.ensures name.text)
