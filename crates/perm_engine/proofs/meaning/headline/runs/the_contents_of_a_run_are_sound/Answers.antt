use Rattle.statement_meaning.specs.Answers.{can_be}
use Rattle.perm_engine.proofs.meaning.HeadlineSteps.{sound-at}
use Rattle.perm_engine.proofs.meaning.headline.runs.the_contents_of_a_run_are_sound.Goals as goal

pub returns : goal.returns
returns c = λ files contents statements ran sound regular met.
    sound-at c.statements_keep_catalogs_sound.ensures (can_be files) contents statements ran sound regular met
