use Rattle.std.proofs.Common.{ap, ◌∙◌}
use Rattle.std.specs.List.{list_all}
use Rattle.bag_algebra.proofs.Truths.{second-decides, first-decides}
use Rattle.query_facts.specs.monotone.Monotone.{is_monotone, is_relation, is_whole_table}
use Rattle.query_facts.proofs.Nodes.{is_monotone-node, is_monotone-Base}
use Rattle.query_facts.proofs.monotone.+is_monotone.Goals as goal

pub is_monotone-returns-then-own_monotone : goal.is_monotone-returns-then-own_monotone
is_monotone-returns-then-own_monotone t c =
    second-decides _ _ _ _ (is_monotone-node c.args.query.now c.in_default.not-Base) c.own_monotone.ensures _ c.if-own_monotone.true
    (c.inputs_monotone.ensures ∙ ap (list_all is_monotone) c.inputs.ensures)

pub is_monotone-returns-else-own_monotone : goal.is_monotone-returns-else-own_monotone
is_monotone-returns-else-own_monotone t c =
    first-decides _ _ _ _ (is_monotone-node c.args.query.now c.in_default.not-Base) c.own_monotone.ensures c.if-own_monotone.false

pub is_monotone-returns-then-is_relation : goal.is_monotone-returns-then-is_relation
is_monotone-returns-then-is_relation t c =
    second-decides _ _ _ _ (ap is_monotone c.in-Base.is ∙ is_monotone-Base c.in-Base.input c.in-Base.places c.in-Base.label) c.is_relation.ensures _ c.if-is_relation.true
    (c.is_whole_table.ensures ∙ (λ i. is_whole_table (c.get.ensures i) (c.as_slice.ensures i)))

pub is_monotone-returns-else-is_relation : goal.is_monotone-returns-else-is_relation
is_monotone-returns-else-is_relation t c =
    first-decides _ _ _ _ (ap is_monotone c.in-Base.is ∙ is_monotone-Base c.in-Base.input c.in-Base.places c.in-Base.label) c.is_relation.ensures c.if-is_relation.false
