use Rattle.std.proofs.Common.{sym, ap, ◌∙◌}
use Rattle.delete_impact.specs.reduced.Reads.{first_of}
use Rattle.delete_impact.proofs.reduced.ReadKinds.{first_kinds-node}
use Rattle.delete_impact.proofs.reduced.reads.+first_kinds.Goals as goal

pub first_kinds-returns-in_default : goal.first_kinds-returns-in_default
first_kinds-returns-in_default t c =
    c.first_of.ensures ∙ ap (first_of c.args.id) c.inputs.ensures ∙ sym (first_kinds-node c.args.id c.args.query.now c.in_default.not-Table)
