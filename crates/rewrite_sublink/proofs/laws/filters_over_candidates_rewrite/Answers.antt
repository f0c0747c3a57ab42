use Rattle.rewrite_sublink.proofs.WholeRules.{filter-whole}
use Rattle.rewrite_sublink.proofs.laws.filters_over_candidates_rewrite.Goals as goal

pub returns : goal.returns
returns c = λ q rewriting condition subs standing rewritings over given stand rewritten.
    filter-whole q rewriting condition subs standing rewritings given stand rewritten over
