use Rattle.perm_engine.proofs.meaning.words.Requested.{dash_alone, script_alone, script_behind}
use Rattle.perm_engine.proofs.meaning.words.laws.a_word_without_a_dash_is_a_script.Goals as goal

pub returns-clause-alone : goal.returns-clause-alone
returns-clause-alone c = script_alone

pub returns-clause-dash : goal.returns-clause-dash
returns-clause-dash c = dash_alone

pub returns-clause-behind : goal.returns-clause-behind
returns-clause-behind c = script_behind
