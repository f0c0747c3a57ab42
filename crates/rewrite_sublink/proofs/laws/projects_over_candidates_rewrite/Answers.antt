use Rattle.rewrite_sublink.proofs.WholeRules.{project-whole}
use Rattle.rewrite_sublink.proofs.laws.projects_over_candidates_rewrite.Goals as goal

pub returns : goal.returns
returns c = λ q rewriting items subs standing rewritings over given stand rewritten.
    project-whole q rewriting items subs standing rewritings given stand rewritten over
