use Rattle.std.proofs.Common.{◌≡◌, ◌∙◌, ◌+◌, ◌*◌, ap}
use Rattle.refusal_notes.proofs.Spelt.{at-code, at-place}
use Rattle.refusal_notes.specs.declared.cause.Cause.TheVariants.{At}
use Rattle.refusal_notes.proofs.read.at_offset.Goals as goal

pub returns : goal.returns
returns c =
    λ code at small fits e.
    let p : 10 * c.digit.result + c.digit-2.result ≡ code =
    at-code c.args.line.now code at c.byte_at.result c.byte_at-2.result c.digit.result c.digit-2.result small e
    c.byte_at.ensures.byte c.byte_at-2.ensures.byte c.digit.ensures.value c.digit-2.ensures.value in
    let q : c.number.result ≡ at =
    at-place c.args.line.now code at c.number.result small fits e (λ n below d. c.number.ensures n below (c.from.ensures ∙ d)) in
    ap (λ x. At x c.number.result) p ∙ ap (λ x. At code x) q
