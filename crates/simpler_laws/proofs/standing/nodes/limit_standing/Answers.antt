use Rattle.std.proofs.Common.{◌≡◌, List, IfOk, ap, subst}
use Rattle.perm_values.specs.declared.key.Key.{Key}
use Rattle.bag_algebra.specs.Rewriting.{Stands}
use Rattle.bag_algebra.specs.declared.query.Query.TheVariants.{Limit}
use Rattle.query_laws.proofs.StandingNodes.{stands-Limit}
use Rattle.contribution.proofs.NodeQueries.{of_made}
use Rattle.perm_values.proofs.Taken.{opened}
use Rattle.simpler_laws.specs.standing.Made.{IsMadeOf}
use Rattle.simpler_laws.proofs.standing.nodes.limit_standing.Goals as goal

pub returns-clause-stands : goal.returns-clause-stands
returns-clause-stands c q h =
    let given = c.in_ok-input.ensures in
    subst (λ (keys : List Key). IfOk c.limit.result (λ p. Stands (Limit q keys c.args.count) p))
    (opened (λ (keys : List Key). keys ≡ c.args.keys.now) c.copy.result _ given.second_was c.copy.ensures)
    (of_made (λ p. Stands (Limit q _ c.args.count) p) c.limit.result _ c.limit.ensures
    (stands-Limit q _ (opened (λ b. Stands q b) c.args.input _ given.first_was h) _ c.args.count))

pub returns-clause-made : goal.returns-clause-made
returns-clause-made c =
    let given = c.in_ok-input.ensures in
    of_made (λ p. IsMadeOf c.args.input (λ b. Limit b c.args.keys.now c.args.count) p) c.limit.result _ c.limit.ensures
    (record {
      input = c.in_ok-input.input;
      was = given.first_was;
      is = ap (λ keys. Limit c.in_ok-input.input keys c.args.count)
          (opened (λ (keys : List Key). keys ≡ c.args.keys.now) c.copy.result _ given.second_was c.copy.ensures);
    })
