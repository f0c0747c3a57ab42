use Rattle.std.proofs.Common.{◌∙◌, sym}
use Rattle.perm_io.proofs.Places.{file_named-here}
use Rattle.perm_io.proofs.shelf.place_of.Goals as goal

pub returns-then-eq : goal.returns-then-eq
returns-then-eq c =
    file_named-here c.args.files.now c.loop-place.place c.index-files-place.result c.args.name.now c.loop-place-test.true
    c.index-files-place.is (sym c.eq.ensures ∙ c.if-eq.true) c.loop-place.invariant
