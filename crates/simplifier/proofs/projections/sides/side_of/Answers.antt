use Rattle.std.proofs.Common.{◌≡◌, true, IfSome, subst}
use Rattle.simplifier.specs.projections.Sides.{IsBelow, of_input}
use Rattle.simplifier.specs.declared.projections.sides.Side.{Side}
use Rattle.simplifier.proofs.projections.sides.side_of.Goals as goal

pub returns-in-Some : goal.returns-in-Some
returns-in-Some c =
    let found = subst (λ o. IfSome o (λ (side : Side). (side.input ≡ true) × IsBelow c.args.query.now side)) c.in-Some.is c.in_ok-side.ensures in
    of_input found.0 found.1
