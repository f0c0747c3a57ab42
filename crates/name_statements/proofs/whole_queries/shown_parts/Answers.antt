use Rattle.name_seen_parts.specs.Columns.{columns_of}
use Rattle.name_statements.proofs.Wholes.{stored-settled}
use Rattle.name_statements.proofs.whole_queries.shown_parts.Goals as goal

pub returns-clause-columns : goal.returns-clause-columns
returns-clause-columns c = stored-settled c.in_ok-stored.stored (columns_of c.args.columns.now) c.in_ok-stored.ensures
