use Rattle.refusal_tokens.proofs.Beginning.{has_none}
use Rattle.refusal_tokens.proofs.begins.begins_script.Goals as goal

pub returns-in_ok-has_refusal-in-Err : goal.returns-in_ok-has_refusal-in-Err
returns-in_ok-has_refusal-in-Err c = (
  λ yes. absurd cc,
  λ begins. absurd (has_none c.args.bytes.now c.in-Err.error c.in_ok-has_refusal-in-Err.ensures c.in-Err.ensures.refused
      (c.lexing_is_unique.ensures.not_both c.args.bytes.now) begins.tokens begins.lexes),
)
