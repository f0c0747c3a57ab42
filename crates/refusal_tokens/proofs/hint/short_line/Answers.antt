use Rattle.std.proofs.Common.{subst, sym}
use Rattle.refusal_tokens.specs.Hints.{IsLine, too_long}
use Rattle.refusal_tokens.proofs.hint.short_line.Goals as goal

pub returns-then-front-gt-LIMIT : goal.returns-then-front-gt-LIMIT
returns-then-front-gt-LIMIT c =
    subst (IsLine c.args.script.now c.args.at) (sym c.new.ensures) (too_long {front = c.args.front.now} c.requires c.if-front-gt-LIMIT.true)
