use Rattle.name_meaning.proofs.Impacts.{impact-stands}
use Rattle.name_meaning.proofs.laws.statements.laws.impacts_can_be_answered.Goals as goal

pub returns : goal.returns
returns c catalog table condition query sound regular whole = impact-stands catalog sound table condition query regular whole
