use Rattle.bag_algebra.specs.built.Patterns.{ProvOf}
use Rattle.stored_provenance.proofs.NewMarks.{new-sound, kept-fresh}
use Rattle.stored_provenance.proofs.laws.a_new_stored_query_is_sound.Goals as goal

pub returns : goal.returns
returns c = λ held columns rows input places sound closed reads kinds within same.
    (new-sound held sound columns rows input places closed reads kinds within same, kept-fresh held sound (ProvOf input) places)
