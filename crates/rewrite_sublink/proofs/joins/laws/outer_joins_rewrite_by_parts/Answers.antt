use Rattle.rewrite_sublink.proofs.joins.ByPartsRows.{rewrite-by_parts}
use Rattle.rewrite_sublink.proofs.joins.laws.outer_joins_rewrite_by_parts.Goals as goal

pub returns : goal.returns
returns c = λ kind left left_rewriting right right_rewriting condition subs pairs left_given right_given given.
    rewrite-by_parts kind left left_rewriting right right_rewriting condition subs pairs left_given right_given given
