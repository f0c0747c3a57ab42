use Rattle.perm_engine.proofs.meaning.words.Numbers.{number_refused, number_taken}
use Rattle.perm_engine.proofs.meaning.words.numbered.Goals as goal

pub returns-then-rows-le100000 : goal.returns-then-rows-le100000
returns-then-rows-le100000 c = number_taken c.args.text.now c.in-Ok.rows c.in-Ok.ensures.value.0 c.if-rows-ge1.true c.if-rows-le100000.true

pub returns-in-Err : goal.returns-in-Err
returns-in-Err c = number_refused c.args.text.now c.in-Err.ensures.value.0
