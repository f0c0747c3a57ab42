use Rattle.sql_lexer.proofs.Listed.{listed}
use Rattle.sql_lexer.proofs.reserved.is_listed.Goals as goal

pub returns : goal.returns
returns c = listed c.args.words.now c.args.word.now c.contains.result c.contains.ensures.value
