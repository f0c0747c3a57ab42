use Rattle.null_logic.proofs.ComparisonLaws.{compare_values-mirrored, equality-is_true}
use Rattle.null_logic.proofs.laws.comparisons_have_their_laws.Goals as goal

pub returns-clause-turned : goal.returns-clause-turned
returns-clause-turned c = compare_values-mirrored

pub returns-clause-equality : goal.returns-clause-equality
returns-clause-equality c = equality-is_true
