use Rattle.std.proofs.Common.{◌≡◌, ◌∙◌, IfOk, subst}
use Rattle.bag_algebra.specs.declared.query.Query.{Query}
use Rattle.rewrite_sublink.proofs.candidates.with_contribution.Goals as goal
use Rattle.rewrite_sublink.specs.Candidates.{matching, tested}

pub returns : goal.returns
returns c =
    let made = c.in_ok-pairs.ensures in
    subst (λ (p : Query). IfOk c.tested-whole.result (λ q. q ≡ p))
    (λ i. tested (made.pairs i) c.args.standing.now ((c.in-Ok.ensures ∙ (λ j. matching (made.count j) (made.from j) (made.own j) c.args.rewriting.now)) i))
    c.tested-whole.ensures
