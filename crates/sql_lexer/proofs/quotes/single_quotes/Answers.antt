use Rattle.sql_lexer.specs.Undoubled.{undoubled}
use Rattle.sql_lexer.proofs.Undoubling.{at_last}
use Rattle.sql_lexer.proofs.quotes.single_quotes.Goals as goal

pub returns : goal.returns
returns c =
    at_last c.args.quote c.loop-rest.inside c.loop-rest.rest.now (undoubled c.args.quote c.args.rest.now) c.in_default.len_below c.loop-rest.invariant
