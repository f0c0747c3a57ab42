use Rattle.std.proofs.Common.{IfSome, subst}
use Rattle.query_laws.specs.spines.Spines.{IsSpine}
use Rattle.simplifier.proofs.forced.only_finds.Goals as goal

pub returns-in-Some : goal.returns-in-Some
returns-in-Some c h =
    let found = subst (λ o. IfSome o (λ spine. IsSpine c.in_ok-width.width c.args.sub.now.query spine)) c.in-Some.is c.in_ok-spine.ensures in
    record {
      spine = c.in-Some.spine;
      is = subst (λ width. IsSpine width c.args.sub.now.query c.in-Some.spine) c.in_ok-width.ensures.columns found;
      finds = c.is_on.ensures h;
    }
