use Rattle.std.proofs.Common.{sym, ap, ◌∙◌}
use Rattle.std.specs.List.{list_all}
use Rattle.bag_algebra.specs.built.Scopes.{all_plain, is_plain-Prov}
use Rattle.bag_algebra.specs.Rewriting.{is_plain}
use Rattle.bag_algebra.proofs.ByChildren.{is_plain-node}
use Rattle.bag_algebra.proofs.Truths.{second-decides, first-decides}
use Rattle.bag_algebra.proofs.measures.scopes.+is_plain.Goals as goal

pub is_plain-returns-in-Prov : goal.is_plain-returns-in-Prov
is_plain-returns-in-Prov t c =
    sym (ap is_plain c.in-Prov.is ∙ is_plain-Prov c.in-Prov.input)

pub is_plain-returns-then-inputs_plain : goal.is_plain-returns-then-inputs_plain
is_plain-returns-then-inputs_plain t c =
    second-decides _ _ _ _ (is_plain-node c.args.query.now c.in_default.not-Prov) (c.inputs_plain.ensures ∙ ap (list_all is_plain) c.inputs.ensures) _ c.if-inputs_plain.true (c.all_plain.ensures ∙ ap all_plain c.sublinks.ensures)

pub is_plain-returns-else-inputs_plain : goal.is_plain-returns-else-inputs_plain
is_plain-returns-else-inputs_plain t c =
    first-decides _ _ _ _ (is_plain-node c.args.query.now c.in_default.not-Prov) (c.inputs_plain.ensures ∙ ap (list_all is_plain) c.inputs.ensures) c.if-inputs_plain.false
