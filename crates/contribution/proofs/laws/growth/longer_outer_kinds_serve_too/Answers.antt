use Rattle.contribution.proofs.Growth.{env_fits-shorter}
use Rattle.contribution.proofs.LongerKinds.{has_kind-longer, well_formed-longer, longer-names}
use Rattle.contribution.proofs.laws.growth.longer_outer_kinds_serve_too.Goals as goal

pub returns-clause-expressions : goal.returns-clause-expressions
returns-clause-expressions c scopes longer subs e kind l f = has_kind-longer (longer-names l) subs e kind f

pub returns-clause-queries : goal.returns-clause-queries
returns-clause-queries c outer longer q l f = well_formed-longer q outer longer (longer-names l) f

pub returns-clause-outer_rows : goal.returns-clause-outer_rows
returns-clause-outer_rows c outer longer env l f = env_fits-shorter env l f
