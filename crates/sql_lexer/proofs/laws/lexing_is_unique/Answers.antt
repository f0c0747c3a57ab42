use Rattle.sql_lexer.proofs.OneAnswer.{one_list, one_refusal, list_or_refusal}
use Rattle.sql_lexer.proofs.EachScript.{either}
use Rattle.sql_lexer.proofs.laws.lexing_is_unique.Goals as goal

pub returns-clause-one_list : goal.returns-clause-one_list
returns-clause-one_list c = one_list

pub returns-clause-one_refusal : goal.returns-clause-one_refusal
returns-clause-one_refusal c = one_refusal

pub returns-clause-not_both : goal.returns-clause-not_both
returns-clause-not_both c = list_or_refusal

pub returns-clause-either : goal.returns-clause-either
returns-clause-either c = either
