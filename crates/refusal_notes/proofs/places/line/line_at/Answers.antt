use Rattle.std.proofs.Common.{◌∙◌, ◌≡◌, ◌++◌, ◌-◌, ap, arith, drop, length, reverse, take}
use Rattle.std.proofs.lemmas.List.{length-take-le, length-drop, take_all}
use Rattle.refusal_notes.specs.places.Places.{back_to_feed}
use Rattle.refusal_notes.proofs.places.Lines.{between}
use Rattle.refusal_notes.proofs.places.line.line_at.Goals as goal

pub returns-then-offset-script : goal.returns-then-offset-script
returns-then-offset-script c =
    let script = c.args.script.now in
    let o = c.args.offset in
    let whole : length (take o script) ≡ o = length-take-le o script (omega (arith, c.if-offset-script.true)) in
    let rest : take (length script - o) (drop o script) ≡ drop o script = take_all (length script - o) (drop o script) (omega (arith, length-drop o script)) in
    between script o c.line_start-start.result c.line_length.result (omega (arith, whole, c.line_start-start.ensures.within)) (omega (arith, c.if-offset-script.true))
    ∙ ap (λ xs. xs ++ take c.line_length.result (drop o script)) c.line_start-start.ensures.line
    ∙ ap (λ xs. reverse (back_to_feed (take o script)) ++ xs) (rw rest at c.line_length.ensures.line)
