use Rattle.sql_lexer.proofs.OneAnswer.{gives_list, gives_refusal, one_refusal}
use Rattle.sql_lexer.proofs.split.tokens.Goals as goal

pub returns-in-Ok-clause-only : goal.returns-in-Ok-clause-only
returns-in-Ok-clause-only c = gives_list c.args.bytes.now c.split.result c.split.ensures.lexes c.split.ensures.refused

pub returns-in-Ok-clause-refusal : goal.returns-in-Ok-clause-refusal
returns-in-Ok-clause-refusal c = gives_refusal c.args.bytes.now c.split.result c.split.ensures.lexes c.split.ensures.refused

pub returns-in-Err-clause-refusal : goal.returns-in-Err-clause-refusal
returns-in-Err-clause-refusal c = λ error r. one_refusal c.args.bytes.now _ error (rw c.valid_up_to.ensures c.in-Err.ensures.cases) r
