use Rattle.std.proofs.Common.{subst}
use Rattle.sql_parser.specs.Spells.{Spells}
use Rattle.perm_engine.proofs.meaning.Misspelling.{misspelled-no_script}
use Rattle.perm_engine.proofs.meaning.laws.bytes_are_one_script.Goals as goal

pub returns-clause-one_script : goal.returns-clause-one_script
returns-clause-one_script c = λ bytes a b s t.
    c.a_script_has_one_tree.ensures s.tokens a b s.spells
    (subst (λ ts. Spells ts b) (c.lexing_is_unique.ensures.one_list bytes t.tokens s.tokens t.lexes s.lexes) t.spells)

pub returns-clause-not_both : goal.returns-clause-not_both
returns-clause-not_both c =
    misspelled-no_script c.lexing_is_unique.ensures.one_list c.lexing_is_unique.ensures.not_both c.an_unexpected_token_has_no_tree.ensures
