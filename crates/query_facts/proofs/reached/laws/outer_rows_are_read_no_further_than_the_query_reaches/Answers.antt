use Rattle.query_facts.proofs.Alike.{meaning-alike}
use Rattle.query_facts.proofs.reached.laws.outer_rows_are_read_no_further_than_the_query_reaches.Goals as goal

pub returns : goal.returns
returns c = meaning-alike
