use Rattle.rewrite_sublink.proofs.joins.sublinks.every_pair.Goals as goal

pub returns-clause-none_open : goal.returns-clause-none_open
returns-clause-none_open c = c.in-Ok.ensures.none_open
