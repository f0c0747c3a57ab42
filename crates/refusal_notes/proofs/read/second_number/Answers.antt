use Rattle.std.proofs.Common.{◌∙◌, ◌+◌, ap, drop}
use Rattle.refusal_notes.proofs.Spelt.{place-field}
use Rattle.refusal_notes.proofs.read.second_number.Goals as goal

pub returns : goal.returns
returns c =
    λ row field below fits e. c.number.ensures field fits
    (c.from.ensures ∙ ap (λ n. drop (n + 7) c.args.place.now) c.word_length.ensures.value ∙ place-field c.args.place.now row field below e)
