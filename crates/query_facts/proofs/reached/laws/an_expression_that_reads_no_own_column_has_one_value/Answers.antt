use Rattle.query_facts.proofs.Alike.{own_value}
use Rattle.query_facts.proofs.reached.laws.an_expression_that_reads_no_own_column_has_one_value.Goals as goal

pub returns : goal.returns
returns c = own_value
