use Rattle.null_logic.proofs.LikeLaws.{literal, run, joined, parted}
use Rattle.null_logic.proofs.laws.like_has_its_laws.Goals as goal

pub returns-clause-literal : goal.returns-clause-literal
returns-clause-literal c = literal

pub returns-clause-run : goal.returns-clause-run
returns-clause-run c = run

pub returns-clause-joined : goal.returns-clause-joined
returns-clause-joined c = joined

pub returns-clause-parted : goal.returns-clause-parted
returns-clause-parted c = parted
