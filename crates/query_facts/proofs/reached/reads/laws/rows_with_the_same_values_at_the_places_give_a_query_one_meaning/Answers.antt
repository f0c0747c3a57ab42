use Rattle.query_facts.proofs.AlikeRows.{picked-alike}
use Rattle.query_facts.proofs.reached.reads.laws.rows_with_the_same_values_at_the_places_give_a_query_one_meaning.Goals as goal

pub returns : goal.returns
returns c = picked-alike
