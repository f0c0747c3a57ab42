use Rattle.lateral_rewrite.proofs.WholeRules.{project-whole}
use Rattle.lateral_rewrite.proofs.laws.projects_over_dependent_joins_rewrite.Goals as goal

pub returns : goal.returns
returns c = λ q rewriting items subs standing rewritings given stand rewritten.
    project-whole q rewriting items subs standing rewritings given stand rewritten
