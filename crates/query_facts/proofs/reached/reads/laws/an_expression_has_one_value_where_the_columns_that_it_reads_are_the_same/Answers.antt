use Rattle.query_facts.proofs.AlikeRows.{value-alike}
use Rattle.query_facts.proofs.reached.reads.laws.an_expression_has_one_value_where_the_columns_that_it_reads_are_the_same.Goals as goal

pub returns : goal.returns
returns c = λ e u v env other answers w. value-alike u v env other answers e w
