use Rattle.rewrite_sublink.proofs.joins.ChosenPairs.{rewrite-met}
use Rattle.rewrite_sublink.proofs.joins.laws.inner_joins_rewrite_as_chosen_pairs.Goals as goal

pub returns : goal.returns
returns c = λ left right condition subs p given. rewrite-met left right condition subs p given
