use Rattle.std.proofs.Common.{◌≡◌, List, ap, ◌∙◌}
use Rattle.perm_values.proofs.Taken.{opened}
use Rattle.perm_values.specs.declared.key.Key.{Key}
use Rattle.bag_algebra.specs.Kinds.{width_of}
use Rattle.bag_algebra.specs.declared.query.Query.TheVariants.{Limit}
use Rattle.rewrite_core.proofs.sets.rules.limited.Goals as goal

pub returns-clause-rows : goal.returns-clause-rows
returns-clause-rows c =
    c.in_ok-limit.ensures
    ∙ ap (λ (keys : List Key). Limit c.args.input keys c.args.count)
    (opened (λ (keys : List Key). keys ≡ c.args.keys.now) c.copy_of.result _ c.in-Ok.ensures.second_was c.copy_of.ensures)

pub returns-clause-columns : goal.returns-clause-columns
returns-clause-columns c =
    opened (λ count. count ≡ width_of c.args.input) c.exact_width.result _ c.in-Ok.ensures.first_was c.exact_width.ensures.columns
