use Rattle.std.proofs.Common.{◌≡◌, ◌∙◌, ◌+◌, sym, arith}
use Rattle.refusal_notes.proofs.Fronts.{front-take, front-whole}
use Rattle.refusal_notes.proofs.line.is_front.Goals as goal

pub returns : goal.returns
returns c = (
  λ t. front-whole c.args.line.now c.args.whole.now 0
      (omega (arith, c.if-whole-end.false)) (omega (arith, c.if-whole-end-ne10.false))
      (sym c.up_to.ensures ∙ c.same.ensures.0 t),
  λ e. c.same.ensures.1 (c.up_to.ensures ∙ front-take c.args.line.now c.args.whole.now e),
)
