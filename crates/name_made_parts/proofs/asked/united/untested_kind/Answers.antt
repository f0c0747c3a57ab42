use Rattle.name_seen_parts.specs.Named.{scopes_of}
use Rattle.name_made_parts.proofs.asked.united.untested_kind.Goals as goal

pub returns : goal.returns
returns c = rw (c.in_tested.ensures (scopes_of c.args.here.now.scopes.now)) at c.kind_or_any.ensures
