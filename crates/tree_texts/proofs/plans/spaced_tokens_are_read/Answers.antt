use Rattle.tree_texts.proofs.Planned.{spaced_is_read}
use Rattle.tree_texts.proofs.plans.spaced_tokens_are_read.Goals as goal

pub returns : goal.returns
returns c = spaced_is_read
