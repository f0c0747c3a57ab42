use Rattle.std.proofs.Common.{sym, ap, ◌∙◌}
use Rattle.bag_algebra.specs.Outcome.{Good}
use Rattle.null_logic.specs.Logic.{value_of}
use Rattle.row_nodes.proofs.Equality.{equality_value}
use Rattle.row_nodes.proofs.known.cells_value.Goals as goal

pub returns : goal.returns
returns c = λ rows are.
    equality_value c.args.kind c.args.tested.now rows c.in_ok-truth.truth c.requires (c.in_ok-truth.ensures rows are)
    ∙ ap Good (sym (c.value.ensures ∙ ap value_of c.turned.ensures))
