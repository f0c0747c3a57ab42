use Rattle.std.proofs.Common.{MatchOption, subst, sym}
use Rattle.refusal_tokens.specs.Fronts.{HasNoFront, IsFront}
use Rattle.refusal_tokens.specs.Hints.{IsLine, no_tokens}
use Rattle.refusal_tokens.proofs.hint.line_at.Goals as goal

pub returns-in-None : goal.returns-in-None
returns-in-None c =
    subst (IsLine c.args.script.now c.args.at) (sym c.new.ensures)
    (no_tokens (subst (λ o. MatchOption o (HasNoFront c.args.script.now c.args.at) (λ found. IsFront c.args.script.now c.args.at found.now))
    c.in-None.is c.in_ok-front_at.ensures))
