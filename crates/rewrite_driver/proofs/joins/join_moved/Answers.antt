use Rattle.std.proofs.Common.{All}
use Rattle.perm_values.proofs.Results.{where_made}
use Rattle.rewrite_core.specs.rewritings.OpenSublinks.{IsClosedSublink, NoOpenSublink}
use Rattle.rewrite_driver.proofs.joins.join_moved.Goals as goal

pub returns-clause-none_open : goal.returns-clause-none_open
returns-clause-none_open c =
    where_made _ (λ p. NoOpenSublink c.args.lefts → NoOpenSublink c.args.rights → All IsClosedSublink c.args.standing.now → All NoOpenSublink c.args.rewritings →
    NoOpenSublink p) c.over_pairs.result
    (λ p made g h s k. made g h (where_made _ (λ pairs. NoOpenSublink pairs) c.filter_traced-met.result (λ pairs kept. kept (c.in-Ok.ensures.none_open g h) s k) c.filter_traced-met.ensures.none_open))
    c.over_pairs.ensures.none_open
