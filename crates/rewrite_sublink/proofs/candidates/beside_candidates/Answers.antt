use Rattle.std.proofs.Common.{◌∙◌, [], ap}
use Rattle.bag_algebra.specs.Kinds.{width_of}
use Rattle.bag_algebra.specs.built.Patterns.{JoinOf}
use Rattle.bag_algebra.specs.declared.query.JoinKind.TheVariants.{Inner}
use Rattle.bag_algebra.specs.declared.query.Query.{end_of-Sublink}
use Rattle.rewrite_sublink.proofs.candidates.beside_candidates.Goals as goal

pub returns-clause-pairs : goal.returns-clause-pairs
returns-clause-pairs c = c.in_ok-pairs.ensures.made ∙ (λ i. JoinOf Inner c.args.rows (c.in-Ok.ensures.made i) (c.always.ensures i) [] end_of-Sublink)

pub returns-clause-count : goal.returns-clause-count
returns-clause-count c = c.in-Ok-candidate_columns.ensures.count ∙ ap (λ q. width_of q) c.in-Ok.ensures.made

pub returns-clause-from : goal.returns-clause-from
returns-clause-from c = c.in-Ok-candidate_columns.ensures.from

pub returns-clause-own : goal.returns-clause-own
returns-clause-own c = c.in-Ok-candidate_columns.ensures.own
