use Rattle.std.proofs.Common.{◌≡◌, ◌+◌, length}
use Rattle.perm_values.proofs.Taken.{opened}
use Rattle.bag_algebra.specs.Kinds.{width_of}
use Rattle.rewrite_core.proofs.grouping.plain_grouping.Goals as goal

pub returns-clause-kept : goal.returns-clause-kept
returns-clause-kept c =
    opened (λ total. total ≡ length c.args.groups.now + length c.args.aggregates.now) c.sum.result _ c.in-Ok.ensures.first_was c.sum.ensures.total

pub returns-clause-columns : goal.returns-clause-columns
returns-clause-columns c =
    opened (λ count. count ≡ width_of c.args.input) c.exact_width.result _ c.in-Ok.ensures.second_was c.exact_width.ensures.columns
