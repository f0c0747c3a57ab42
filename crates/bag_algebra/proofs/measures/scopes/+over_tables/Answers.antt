use Rattle.std.proofs.Common.{sym, ap, ◌∙◌}
use Rattle.std.specs.List.{list_all}
use Rattle.bag_algebra.specs.built.Scopes.{all_over_tables, over_tables-Base, over_tables-Prov}
use Rattle.bag_algebra.specs.Scoped.{is_table, over_tables}
use Rattle.bag_algebra.proofs.ByChildren.{over_tables-node}
use Rattle.bag_algebra.proofs.Truths.{second-decides, first-decides}
use Rattle.bag_algebra.proofs.measures.scopes.+over_tables.Goals as goal

pub over_tables-returns-in-Prov : goal.over_tables-returns-in-Prov
over_tables-returns-in-Prov t c =
    sym (ap over_tables c.in-Prov.is ∙ over_tables-Prov c.in-Prov.input)

pub over_tables-returns-then-inputs_over_tables : goal.over_tables-returns-then-inputs_over_tables
over_tables-returns-then-inputs_over_tables t c =
    second-decides _ _ _ _ (over_tables-node c.args.query.now c.in_default.not-Base c.in_default.not-Prov) (c.inputs_over_tables.ensures ∙ ap (list_all over_tables) c.inputs.ensures) _ c.if-inputs_over_tables.true (c.all_over_tables.ensures ∙ ap all_over_tables c.sublinks.ensures)

pub over_tables-returns-else-inputs_over_tables : goal.over_tables-returns-else-inputs_over_tables
over_tables-returns-else-inputs_over_tables t c =
    first-decides _ _ _ _ (over_tables-node c.args.query.now c.in_default.not-Base c.in_default.not-Prov) (c.inputs_over_tables.ensures ∙ ap (list_all over_tables) c.inputs.ensures) c.if-inputs_over_tables.false

pub over_tables-returns-in-Base : goal.over_tables-returns-in-Base
over_tables-returns-in-Base t c =
    c.is_table.ensures ∙ sym (ap over_tables c.in-Base.is ∙ over_tables-Base c.in-Base.input c.in-Base.places c.in-Base.label ∙ ap is_table (sym c.get.ensures))
