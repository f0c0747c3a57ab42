use Rattle.statement_meaning.proofs.Freshened.{never-fresh, no-more-fresh, still-fresh}
use Rattle.statement_meaning.proofs.laws.fresh_tables_stay_fresh.Goals as goal

pub returns-clause-kept : goal.returns-clause-kept
returns-clause-kept c = λ d at statement name table stored meets.
    still-fresh d at statement name table stored meets (c.statements_keep_catalogs_sound.ensures d meets.sound at statement meets.ready meets.adds)

pub returns-clause-ended : goal.returns-clause-ended
returns-clause-ended c = λ d at statement name table stored meets.
    no-more-fresh d at statement name table stored meets (c.statements_keep_catalogs_sound.ensures d meets.sound at statement meets.ready meets.adds)

pub returns-clause-for_good : goal.returns-clause-for_good
returns-clause-for_good c = λ d at statement name table stored meets.
    never-fresh d at statement name table stored meets (c.statements_keep_catalogs_sound.ensures d meets.sound at statement meets.ready meets.adds)
