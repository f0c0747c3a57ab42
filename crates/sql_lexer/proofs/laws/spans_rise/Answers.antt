use Rattle.std.proofs.Common.{refl}
use Rattle.sql_lexer.proofs.Spans.{rises, spanned}
use Rattle.sql_lexer.proofs.laws.spans_rise.Goals as goal

pub returns-clause-rise : goal.returns-clause-rise
returns-clause-rise c = λ bytes ts l. rises l.whole

pub returns-clause-span : goal.returns-clause-span
returns-clause-span c = λ bytes ts l. spanned bytes l.whole refl
