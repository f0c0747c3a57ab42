use Rattle.session_tests.proofs.LastStatement.{last-regular}
use Rattle.session_tests.proofs.sessions.last_of.Goals as goal

pub returns : goal.returns
returns c = last-regular c.args.statements c.pop-last.new.self c.pop-last.result c.requires c.pop-last.ensures
