use Rattle.rewrite_move.proofs.LikeQueries.{rewrite-along, beside-stands}
use Rattle.rewrite_move.proofs.laws.what_stands_for_a_rewriting_is_one.Goals as goal

pub returns-clause-rewriting : goal.returns-clause-rewriting
returns-clause-rewriting c n q p given s = rewrite-along n q p given s

pub returns-clause-beside : goal.returns-clause-beside
returns-clause-beside c rows right p of_rows of_right is = beside-stands rows right p of_rows of_right is
