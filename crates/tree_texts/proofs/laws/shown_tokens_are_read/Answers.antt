use Rattle.tree_texts.proofs.Shown.{shown_is_read}
use Rattle.tree_texts.proofs.laws.shown_tokens_are_read.Goals as goal

pub returns : goal.returns
returns c = shown_is_read
