use Rattle.sql_printer.proofs.expressions.ReadExpressions.{expr-read}
use Rattle.sql_printer.proofs.expressions.a_printed_expression_is_read_back.Goals as goal

pub returns : goal.returns
returns c = λ contents prefix forms asked scopes subs unread here finds finds_sublinks outside e kind h w tree d.
    expr-read contents prefix forms asked scopes subs unread here finds finds_sublinks outside e kind h w d
