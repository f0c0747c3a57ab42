use Rattle.std.proofs.Common.{sym, subst}
use Rattle.bag_algebra.specs.built.Openings.{meaning-Distinct}
use Rattle.bag_algebra.specs.Meaning.{meaning}
use Rattle.query_laws.specs.Nodes.{IsDistinct}
use Rattle.query_laws.proofs.Combined.{distinct}
use Rattle.query_laws.proofs.laws.distinct_has_each_row_once.Goals as goal

pub returns : goal.returns
returns c input db env = subst (IsDistinct (meaning input db env)) (sym (meaning-Distinct db env input)) (distinct (meaning input db env))
