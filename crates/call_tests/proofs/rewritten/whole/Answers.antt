use Rattle.std.proofs.Common.{◌≡◌, [], ◌∷◌, sym, subst}
use Rattle.perm_values.proofs.Results.{where_made}
use Rattle.perm_values.proofs.Taken.{opened}
use Rattle.query_laws.specs.Standing.{SubsStand}
use Rattle.rewrite_driver.proofs.MadeQueries.{both_made}
use Rattle.call_tests.proofs.rewritten.whole.Goals as goal

pub returns-clause-own : goal.returns-clause-own
returns-clause-own c =
    where_made _ _ c.three.result (λ s e. opened (λ subs. subs ≡ c.args.sub ∷ []) c.only_item-subs.result s.0 e c.only_item-subs.ensures) c.three.ensures.first_was

pub returns-clause-stands : goal.returns-clause-stands
returns-clause-stands c =
    let one = c.args.sub ∷ [] in
    both_made _ _ (λ s. SubsStand s.0 s.1) c.three.result c.three.ensures.first_was c.three.ensures.second_was (λ s e g.
    let own = opened (λ subs. subs ≡ one) c.only_item-subs.result s.0 e c.only_item-subs.ensures in
    let other = opened (λ others. SubsStand one others) c.standing-others.result s.1 g c.standing-others.ensures in
    subst (λ subs. SubsStand subs s.1) (sym own) other)

pub returns-clause-rewritings : goal.returns-clause-rewritings
returns-clause-rewritings c = c.three.ensures.third_was
