use Rattle.std.proofs.Common.{refl, ap, ◌∙◌}
use Rattle.query_laws.proofs.BuiltSpines.{base-found, base-parts, closed-is}
use Rattle.query_laws.specs.spines.Spines.{items_behind}
use Rattle.query_laws.proofs.spines.spine.closed_spine.Goals as goal

pub returns : goal.returns
returns c =
    let parts = base-parts c.args.query.now c.requires in
    base-found c.args.width c.args.query.now _ c.requires
    (closed-is c.args.width c.args.query.now c.in-Ok.base c.in_ok-items.items c.in-Ok.ensures
    (c.in_ok-items.ensures ∙ ap (items_behind c.args.width) (c.as_slice.ensures ∙ c.in_ok-own.ensures)) parts.0 parts.1) refl
