use Rattle.std.proofs.Common.{sym, ◌∙◌}
use Rattle.name_seen_cores.proofs.Starred.{star-whole}
use Rattle.name_seen_cores.proofs.listing.add_star.Goals as goal

pub returns : goal.returns
returns c = λ facts.
    star-whole c.args.has_from c.args.scope.now c.args.at c.args.columns.now c.add_columns.new.columns facts
    (sym c.star.ensures ∙ c.in_ok-star.was) c.in_ok-add_columns.ensures
