use Rattle.std.proofs.Common.{sym, ap, ◌∙◌}
use Rattle.bag_algebra.specs.Inputs.{sublinks_of, sublinks-row_of_subs}
use Rattle.bag_algebra.proofs.query.Query.sublinks.Goals as goal

pub returns-in-Filter : goal.returns-in-Filter
returns-in-Filter c = c.as_slice.ensures ∙ sym (ap sublinks_of c.in-Filter.is ∙ sublinks-row_of_subs c.in-Filter.subs)

pub returns-in-Project : goal.returns-in-Project
returns-in-Project c = c.as_slice-in-Project.ensures ∙ sym (ap sublinks_of c.in-Project.is ∙ sublinks-row_of_subs c.in-Project.subs)

pub returns-in-Join : goal.returns-in-Join
returns-in-Join c = c.as_slice-in-Join.ensures ∙ sym (ap sublinks_of c.in-Join.is ∙ sublinks-row_of_subs c.in-Join.subs)
