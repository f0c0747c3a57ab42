use Rattle.tree_texts.proofs.FormTexts.{query_anywhere, script_anywhere}
use Rattle.tree_texts.proofs.laws.a_form_has_its_tree_wherever_it_stands.Goals as goal

pub returns-clause-query : goal.returns-clause-query
returns-clause-query c = query_anywhere

pub returns-clause-script : goal.returns-clause-script
returns-clause-script c = script_anywhere
