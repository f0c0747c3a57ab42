use Rattle.null_logic.proofs.compare.compare_values.Goals as goal

pub returns-in-Null-default : goal.returns-in-Null-default
returns-in-Null-default c = search
