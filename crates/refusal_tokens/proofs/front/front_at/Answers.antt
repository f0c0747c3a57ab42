use Rattle.std.proofs.Common.{◌∙◌, ap, subst, sym}
use Rattle.sql_lexer.specs.Lexes.{Lexes}
use Rattle.refusal_tokens.specs.Fronts.{statement_start}
use Rattle.refusal_tokens.proofs.Beginning.{has_none}
use Rattle.refusal_tokens.proofs.Saying.{front_is}
use Rattle.refusal_tokens.proofs.front.front_at.Goals as goal

pub returns-in-Ok : goal.returns-in-Ok
returns-in-Ok c =
    front_is c.args.script.now c.up_to-before.result.now c.from.result.now c.args.at c.statement_start.result c.in-Ok.found
    c.up_to-before.ensures c.in-Ok.ensures.lexes (c.statement_start.ensures ∙ ap statement_start c.as_slice.ensures) c.from.ensures

pub returns-in_ok-has_refusal-in-Err : goal.returns-in_ok-has_refusal-in-Err
returns-in_ok-has_refusal-in-Err c = λ tokens lexes.
    has_none c.up_to-before.result.now c.in-Err.error c.in_ok-has_refusal-in-Err.ensures c.in-Err.ensures.refused
    (c.lexing_is_unique.ensures.not_both c.up_to-before.result.now) tokens (subst (λ b. Lexes b tokens) (sym c.up_to-before.ensures) lexes)
