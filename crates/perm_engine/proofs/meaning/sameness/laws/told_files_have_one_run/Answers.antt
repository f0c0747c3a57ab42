use Rattle.perm_engine.proofs.meaning.Runs.{a_run, same_run}
use Rattle.perm_engine.proofs.meaning.sameness.laws.told_files_have_one_run.Goals as goal

pub returns-clause-some : goal.returns-clause-some
returns-clause-some c = λ words held. a_run held c.a_misspelling_has_one_break.ensures.either words

pub returns-clause-one : goal.returns-clause-one
returns-clause-one c = λ words held.
    same_run held c.bytes_are_one_script.ensures.one_script c.bytes_are_one_script.ensures.not_both c.a_misspelling_has_one_break.ensures.one_break words
