use Rattle.std.proofs.Common.{sym}
use Rattle.query_facts.proofs.Nodes.{no_whole_table}
use Rattle.query_facts.proofs.monotone.is_whole_table.Goals as goal

pub returns-in_default : goal.returns-in_default
returns-in_default c = sym (no_whole_table c.args.input.now c.args.places.now c.in_default.not-Table)
