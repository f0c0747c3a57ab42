use Rattle.std.proofs.Common.{◌∙◌}
use Rattle.contribution.proofs.names.number.Goals as goal

pub returns-in-Relation : goal.returns-in-Relation
returns-in-Relation c = λ earlier h. rw c.in-Relation.is (c.number_of.ensures ∙ h.numbers _)
