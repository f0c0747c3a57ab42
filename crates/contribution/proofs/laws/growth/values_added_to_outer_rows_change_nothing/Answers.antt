use Rattle.contribution.proofs.Growth.{denote-longer, longer-same_columns, env_fits-longer}
use Rattle.contribution.proofs.laws.growth.values_added_to_outer_rows_change_nothing.Goals as goal

pub returns-clause-meaning : goal.returns-clause-meaning
returns-clause-meaning c = denote-longer

pub returns-clause-columns : goal.returns-clause-columns
returns-clause-columns c outer env other f l = longer-same_columns outer l f

pub returns-clause-fitting : goal.returns-clause-fitting
returns-clause-fitting c outer env other f l = env_fits-longer outer l f
