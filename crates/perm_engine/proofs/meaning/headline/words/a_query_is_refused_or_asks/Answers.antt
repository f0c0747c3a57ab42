use Rattle.perm_engine.proofs.meaning.Queries.{refused-or-asks}
use Rattle.perm_engine.proofs.meaning.headline.words.a_query_is_refused_or_asks.Goals as goal

pub returns : goal.returns
returns c = refused-or-asks
