use Rattle.std.proofs.Common.{◌≡◌, nat_eq, [], refl, sym, ◌∙◌}
use Rattle.bag_algebra.specs.Closed.{is_closed}
use Rattle.bag_algebra.proofs.Closing.{query_within, query_inside}
use Rattle.bag_algebra.proofs.Levels.{is_none_needed}
use Rattle.query_facts.proofs.reached.outer_rows.is_closed.Goals as goal

pub returns-clause-value : goal.returns-clause-value
returns-clause-value c = is_none_needed c.outermost.result ∙ c.outermost.ensures 0

pub returns-clause-formed : goal.returns-clause-formed
returns-clause-formed c = λ outer formed.
    let value : nat_eq c.outermost.result 0 ≡ is_closed c.args.query.now = is_none_needed c.outermost.result ∙ c.outermost.ensures 0 in
    (λ closed. query_inside outer [] c.args.query.now 0 refl (sym value ∙ closed) formed, λ alone. value ∙ query_within [] c.args.query.now 0 refl alone)
