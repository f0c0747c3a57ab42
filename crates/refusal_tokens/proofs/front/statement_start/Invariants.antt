use Rattle.std.proofs.Common.{◌≡◌, take}
use Rattle.refusal_tokens.specs.Fronts.{statement_start}
use Rattle.refusal_tokens.proofs.front.statement_start.Given as goal

abbrev pub invariant-loop-token : goal.invariant-loop-token
invariant-loop-token l = l.start ≡ statement_start (take l.token-index l.tokens)
