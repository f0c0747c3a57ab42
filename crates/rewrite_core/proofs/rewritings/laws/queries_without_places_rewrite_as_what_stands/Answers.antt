use Rattle.rewrite_core.proofs.WithoutPlaces.{rewrite-without_places}
use Rattle.rewrite_core.proofs.rewritings.laws.queries_without_places_rewrite_as_what_stands.Goals as goal

pub returns : goal.returns
returns c q b none stands = rewrite-without_places q b none stands
