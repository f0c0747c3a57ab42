use Rattle.tree_texts.proofs.Written.{sorted, spellable}
use Rattle.tree_texts.proofs.plans.written_sorts_have_tokens.Goals as goal

pub returns-clause-sorted : goal.returns-clause-sorted
returns-clause-sorted c = sorted

pub returns-clause-spellable : goal.returns-clause-spellable
returns-clause-spellable c = spellable
