use Rattle.std.proofs.Common.{◌≡◌, ◌∙◌, IfOk, length, subst}
use Rattle.bag_algebra.specs.declared.query.Query.{Query}
use Rattle.rewrite_sublink.specs.Candidates.{answer_columns}
use Rattle.lateral_rewrite.proofs.rules.items_with.Goals as goal
use Rattle.lateral_rewrite.specs.Dependent.{all_contributed}

pub with_contributions-requires : goal.with_contributions-requires
with_contributions-requires c = record { rewritten = c.requires.rewritten }

pub returns : goal.returns
returns c =
    let whole = c.in_ok-whole.ensures ∙ (λ j. all_contributed (c.in_ok-rows.ensures j) c.args.standing.now c.args.rewritings.now) in
    subst (λ (p : Query). IfOk c.answer_columns.result (λ q. q ≡ p))
    (λ i. answer_columns (whole i) (c.in-Ok.ensures.columns i) (c.in-Ok-exact_width.ensures.columns i) (length c.args.items.now)) c.answer_columns.ensures
