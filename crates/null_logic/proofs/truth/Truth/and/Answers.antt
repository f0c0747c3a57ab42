use Rattle.null_logic.proofs.truth.Truth.and.Goals as goal

pub returns-in-False-default-3 : goal.returns-in-False-default-3
returns-in-False-default-3 c = search
