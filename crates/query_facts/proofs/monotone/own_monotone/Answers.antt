use Rattle.std.proofs.Common.{sym, ap, ◌∙◌}
use Rattle.bag_algebra.proofs.Subs.{found_none}
use Rattle.bag_algebra.proofs.Truths.{second-decides, first-decides}
use Rattle.query_facts.specs.monotone.Monotone.{own_monotone}
use Rattle.query_facts.proofs.Nodes.{own_monotone-Filter, own_monotone-Project, own_monotone-Join}
use Rattle.query_facts.proofs.monotone.own_monotone.Goals as goal

pub returns-in-Filter : goal.returns-in-Filter
returns-in-Filter c =
    found_none _ c.in-Filter.subs c.is_empty.ensures
    ∙ sym (ap own_monotone c.in-Filter.is ∙ own_monotone-Filter c.in-Filter.input c.in-Filter.condition c.in-Filter.subs)

pub returns-in-Project : goal.returns-in-Project
returns-in-Project c =
    found_none _ c.in-Project.subs c.is_empty-in-Project.ensures
    ∙ sym (ap own_monotone c.in-Project.is ∙ own_monotone-Project c.in-Project.input c.in-Project.items c.in-Project.subs)

pub returns-then-is_inner : goal.returns-then-is_inner
returns-then-is_inner c =
    second-decides _ _ _ _
    (ap own_monotone c.in-Join.is ∙ own_monotone-Join c.in-Join.kind c.in-Join.left c.in-Join.right c.in-Join.condition c.in-Join.subs)
    c.is_inner.ensures _ c.if-is_inner.true (found_none _ c.in-Join.subs c.is_empty-then-is_inner.ensures)

pub returns-else-is_inner : goal.returns-else-is_inner
returns-else-is_inner c =
    first-decides _ _ _ _
    (ap own_monotone c.in-Join.is ∙ own_monotone-Join c.in-Join.kind c.in-Join.left c.in-Join.right c.in-Join.condition c.in-Join.subs)
    c.is_inner.ensures c.if-is_inner.false
