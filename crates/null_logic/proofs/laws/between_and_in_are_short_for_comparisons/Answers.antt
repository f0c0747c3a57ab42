use Rattle.null_logic.proofs.ComparisonLaws.{in_list-is_true, in_list-false}
use Rattle.null_logic.proofs.laws.between_and_in_are_short_for_comparisons.Goals as goal

pub returns-clause-in_true : goal.returns-clause-in_true
returns-clause-in_true c = in_list-is_true

pub returns-clause-in_false : goal.returns-clause-in_false
returns-clause-in_false c = in_list-false
