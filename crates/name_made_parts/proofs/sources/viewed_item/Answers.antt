use Rattle.std.specs.Option.{option_copied}
use Rattle.std.proofs.Common.{ap, sym, ◌∙◌}
use Rattle.name_made_parts.proofs.sources.viewed_item.Goals as goal

pub view_item-requires : goal.view_item-requires
view_item-requires c =
    (c.requires.views c.args.name.now.text c.in-Some.view.now (sym c.view.ensures ∙ ap option_copied c.in-Some.is)).answer.named
