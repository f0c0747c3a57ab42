use Rattle.lateral_rewrite.proofs.WholeRules.{filter-whole}
use Rattle.lateral_rewrite.proofs.laws.filters_over_dependent_joins_rewrite.Goals as goal

pub returns : goal.returns
returns c = λ q rewriting condition subs standing rewritings given stand rewritten.
    filter-whole q rewriting condition subs standing rewritings given stand rewritten
