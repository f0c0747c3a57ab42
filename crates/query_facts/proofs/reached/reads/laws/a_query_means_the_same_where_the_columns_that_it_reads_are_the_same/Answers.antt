use Rattle.query_facts.proofs.AlikeRows.{meaning-alike}
use Rattle.query_facts.proofs.reached.reads.laws.a_query_means_the_same_where_the_columns_that_it_reads_are_the_same.Goals as goal

pub returns : goal.returns
returns c = meaning-alike
