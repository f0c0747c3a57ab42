use Rattle.std.proofs.Common.{◌∙◌, ap, take}
use Rattle.refusal_notes.proofs.Spelt.{place-row}
use Rattle.refusal_notes.proofs.read.first_number.Goals as goal

pub returns : goal.returns
returns c =
    λ row field below e. c.number.ensures row below
    (c.up_to.ensures ∙ ap (λ n. take n c.args.place.now) c.word_length.ensures.value ∙ place-row c.args.place.now row field below e)
