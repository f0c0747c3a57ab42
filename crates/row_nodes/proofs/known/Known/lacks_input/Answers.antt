use Rattle.std.proofs.Common.{sym, ap, ◌∙◌}
use Rattle.std.specs.Option.{option_copied}
use Rattle.row_nodes.proofs.Kept.{no_asks, asks_where}
use Rattle.row_nodes.proofs.known.Known.lacks_input.Goals as goal

pub returns-in-Some : goal.returns-in-Some
returns-in-Some c = no_asks c.args.self.now _ (sym c.found.ensures ∙ ap option_copied c.in-Some.is)

pub returns-in-None : goal.returns-in-None
returns-in-None c = asks_where c.args.self.now _ (sym c.found.ensures ∙ ap option_copied c.in-None.is) c.keeps_input.ensures
