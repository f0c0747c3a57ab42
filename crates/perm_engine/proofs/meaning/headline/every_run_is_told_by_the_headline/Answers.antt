use Rattle.perm_io.specs.Counts.{HasRisen}
use Rattle.perm_engine.proofs.meaning.Headlines.{headline-of}
use Rattle.perm_engine.proofs.meaning.headline.every_run_is_told_by_the_headline.Goals as goal

pub returns-clause-over : goal.returns-clause-over
returns-clause-over c = λ words files ran runs.
    headline-of c.statements_keep_catalogs_sound.ensures c.a_stored_query_is_fresh.ensures.left c.a_fresh_table_stands_for_its_query.ensures
    c.bytes_are_one_script.ensures.one_script c.bytes_are_one_script.ensures.not_both
    c.a_misspelling_has_one_break.ensures.one_break c.a_misspelling_has_one_break.ensures.either c.a_spelled_script_is_regular.ensures
    words files.held (HasRisen files.faults files.faults_after) ran runs

pub returns-clause-unfailed : goal.returns-clause-unfailed
returns-clause-unfailed c = λ words held ran runs.
    headline-of c.statements_keep_catalogs_sound.ensures c.a_stored_query_is_fresh.ensures.left c.a_fresh_table_stands_for_its_query.ensures
    c.bytes_are_one_script.ensures.one_script c.bytes_are_one_script.ensures.not_both
    c.a_misspelling_has_one_break.ensures.one_break c.a_misspelling_has_one_break.ensures.either c.a_spelled_script_is_regular.ensures
    words held ⊥ ran runs
