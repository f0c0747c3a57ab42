use Rattle.perm_engine.proofs.meaning.generation.Scripts.{is_a_script}
use Rattle.perm_engine.proofs.meaning.generation.laws.a_generated_text_is_a_script.Goals as goal

pub returns : goal.returns
returns c = is_a_script
