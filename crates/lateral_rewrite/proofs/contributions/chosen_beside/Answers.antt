use Rattle.std.proofs.Common.{◌≡◌, ◌∙◌, IfOk, ap, subst}
use Rattle.bag_algebra.specs.declared.query.Query.{Query}
use Rattle.rewrite_core.specs.rewritings.KeptColumns.{columns_kept}
use Rattle.lateral_rewrite.proofs.contributions.chosen_beside.Goals as goal
use Rattle.lateral_rewrite.specs.Dependent.{beside, chosen_provenance}

pub returns : goal.returns
returns c =
    let place = c.in-Ok.ensures.columns in
    let right = c.in-Ok-chosen_provenance.ensures ∙ ap (λ n. chosen_provenance c.args.choice n c.args.standing.now c.args.rewriting.now) place in
    let pairs = c.in_ok-pairs.ensures ∙ (λ i. beside (c.in-Ok-valued.ensures i) (right i)) in
    subst (λ (made : Query). IfOk c.columns_kept.result (λ p. p ≡ made)) (λ i. columns_kept (pairs i) (place i) 2) c.columns_kept.ensures
