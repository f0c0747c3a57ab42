use Rattle.sql_lexer.proofs.Printed.{read_again, script_again}
use Rattle.sql_lexer.proofs.Spellable.{all_spellable}
use Rattle.sql_lexer.proofs.laws.printed_tokens_are_read.Goals as goal

pub returns-clause-front : goal.returns-clause-front
returns-clause-front c = read_again

pub returns-clause-script : goal.returns-clause-script
returns-clause-script c = script_again

pub returns-clause-any : goal.returns-clause-any
returns-clause-any c = λ bytes ts l. all_spellable l.whole
