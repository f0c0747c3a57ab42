use Rattle.std.specs.Prelude.{◌≡◌, take}
use Rattle.clap.specs.Walk.{texts}
use Rattle.perm_engine.proofs.meaning.words.texts_of.Given as goal

abbrev pub invariant-loop-word : goal.invariant-loop-word
invariant-loop-word l = texts l.found.items ≡ take l.word-index l.words
