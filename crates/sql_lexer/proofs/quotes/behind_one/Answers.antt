use Rattle.std.proofs.lemmas.List.{take_rest}
use Rattle.sql_lexer.proofs.Undoubling.{behind_none, behind_pair, behind_other}
use Rattle.sql_lexer.proofs.quotes.behind_one.Goals as goal

pub returns-then-byte-quote-clause-value : goal.returns-then-byte-quote-clause-value
returns-then-byte-quote-clause-value c = behind_other c.args.quote c.args.byte c.args.rest.now c.if-byte-quote.true

pub returns-in-empty-clause-value : goal.returns-in-empty-clause-value
returns-in-empty-clause-value c = behind_none c.args.quote c.args.byte c.args.rest.now c.in-empty.len_below

pub returns-in-len1-up-clause-value : goal.returns-in-len1-up-clause-value
returns-in-len1-up-clause-value c =
    rw (take_rest c.args.rest.now 1) (behind_pair c.args.quote c.args.byte c.args.rest.now c.if-byte-quote.false c.in-len1-up.len_at_least)
