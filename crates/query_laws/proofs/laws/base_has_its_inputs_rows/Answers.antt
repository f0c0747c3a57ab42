use Rattle.bag_algebra.specs.built.Openings.{meaning-Base}
use Rattle.query_laws.proofs.laws.base_has_its_inputs_rows.Goals as goal

pub returns : goal.returns
returns c input places label db env = meaning-Base db env input places label
