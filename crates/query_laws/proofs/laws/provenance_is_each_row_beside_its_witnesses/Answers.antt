use Rattle.std.proofs.Common.{sym, subst}
use Rattle.bag_algebra.specs.built.Openings.{meaning-Prov}
use Rattle.bag_algebra.specs.Meaning.{meaning, witnesses}
use Rattle.query_laws.specs.Nodes.{IsProvenance}
use Rattle.query_laws.proofs.Provenance.{provenance}
use Rattle.query_laws.proofs.laws.provenance_is_each_row_beside_its_witnesses.Goals as goal

pub returns : goal.returns
returns c input db env =
    subst (IsProvenance (witnesses input db env) (meaning input db env)) (sym (meaning-Prov db env input)) (provenance (witnesses input db env) (meaning input db env))
