use Rattle.std.proofs.Common.{true≢false, refl, sym, ◌∙◌}
use Rattle.simplifier.proofs.projections.sides.under.Goals as goal

pub returns-then-input : goal.returns-then-input
returns-then-input c = record {
  itself = λ e. absurd (true≢false (sym c.if-input.true ∙ e));
  below = λ e under items is. c.input_of.ensures under items _ is;
}

pub returns : goal.returns
returns c = record {
  itself = λ e. refl;
  below = λ e. absurd (true≢false (sym e ∙ c.if-input.false));
}
