use Rattle.std.specs.Prelude.{Some}
use Rattle.std.proofs.Common.{ap}
use Rattle.name_seen_cores.proofs.places.with_places.Goals as goal

pub returns : goal.returns
returns c = record {
  shown = c.in-Ok.ensures.shown;
  places = ap Some c.in-Ok.ensures.places;
  none_traced = c.none.ensures;
}
