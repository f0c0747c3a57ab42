use Rattle.tree_texts.proofs.TextsRead.{query_read, script_read}
use Rattle.tree_texts.proofs.laws.a_form_is_read_as_its_tree.Goals as goal

pub returns-clause-query : goal.returns-clause-query
returns-clause-query c = query_read

pub returns-clause-script : goal.returns-clause-script
returns-clause-script c = script_read
