use Rattle.std.proofs.Common.{All}
use Rattle.perm_values.proofs.Results.{where_made}
use Rattle.rewrite_core.specs.rewritings.OpenSublinks.{IsClosedSublink, NoOpenSublink}
use Rattle.lateral_rewrite.proofs.rules.join_lateral.Goals as goal

pub returns-clause-none_open : goal.returns-clause-none_open
returns-clause-none_open c =
    where_made _ (λ p. NoOpenSublink c.args.left_rewriting → NoOpenSublink c.args.right_rewriting → All IsClosedSublink c.args.standing.now → All NoOpenSublink c.args.sub_rewritings →
    NoOpenSublink p) c.over_pairs.result
    (λ p made g h s k. made g h (where_made _ (λ pairs. NoOpenSublink pairs) c.filter_lateral-met.result (λ pairs kept. kept (c.in-Ok.ensures.none_open g h) s k) c.filter_lateral-met.ensures.none_open))
    c.over_pairs.ensures.none_open
