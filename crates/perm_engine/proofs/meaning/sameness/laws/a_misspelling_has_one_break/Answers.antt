use Rattle.perm_engine.proofs.meaning.Breaks.{same_break, spelled_or_not}
use Rattle.perm_engine.proofs.meaning.sameness.laws.a_misspelling_has_one_break.Goals as goal

pub returns-clause-one_break : goal.returns-clause-one_break
returns-clause-one_break c =
    same_break c.lexing_is_unique.ensures.one_list c.lexing_is_unique.ensures.one_refusal c.lexing_is_unique.ensures.not_both c.an_unexpected_token_has_one_offset.ensures

pub returns-clause-either : goal.returns-clause-either
returns-clause-either c = spelled_or_not c.lexing_is_unique.ensures.either c.tokens_spell_a_script_or_one_is_unexpected.ensures
