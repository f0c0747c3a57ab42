use Rattle.std.proofs.Common.{◌&&◌, ◌||◌, sym, ap, ◌∙◌}
use Rattle.bag_algebra.specs.FaultFree.{faultless, items_faultless, fault_free}
use Rattle.delete_impact.specs.reduced.Hiding.{own_hides_none}
use Rattle.delete_impact.proofs.reduced.NoneHidden.{own-Filter, own-Project, own-Join}
use Rattle.delete_impact.proofs.reduced.hiding.own_hides_none.Goals as goal

pub returns-in-Filter : goal.returns-in-Filter
returns-in-Filter c =
    c.shows_filter.ensures ∙ ap (λ q. faultless c.in-Filter.condition || fault_free q) c.get.ensures
    ∙ sym (ap own_hides_none c.in-Filter.is ∙ own-Filter c.in-Filter.input c.in-Filter.condition c.in-Filter.subs)

pub returns-in-Project : goal.returns-in-Project
returns-in-Project c =
    c.shows_items.ensures ∙ (λ i. items_faultless (c.as_slice.ensures i) || fault_free (c.get-in-Project.ensures i))
    ∙ sym (ap own_hides_none c.in-Project.is ∙ own-Project c.in-Project.input c.in-Project.items c.in-Project.subs)

pub returns-in-Join : goal.returns-in-Join
returns-in-Join c =
    c.shows_pairs.ensures ∙ (λ i. faultless c.in-Join.condition || (fault_free (c.get-in-Join.ensures i) && fault_free (c.get-in-Join-2.ensures i)))
    ∙ sym (ap own_hides_none c.in-Join.is ∙ own-Join c.in-Join.kind c.in-Join.left c.in-Join.right c.in-Join.condition c.in-Join.subs)
