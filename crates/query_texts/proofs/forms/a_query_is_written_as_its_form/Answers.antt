use Rattle.std.proofs.Common.{◌∙◌, sym}
use Rattle.tree_texts.specs.FormPlans as plan
use Rattle.query_texts.specs.forms.ShownQueries.{shown_answer}
use Rattle.query_texts.proofs.Said.{said_is}
use Rattle.query_texts.proofs.SaidQueries.{answer_said}
use Rattle.query_texts.proofs.forms.a_query_is_written_as_its_form.Goals as goal

pub returns : goal.returns
returns c tables q names keys = sym (said_is (plan.query (shown_answer tables q names keys)) ∙ answer_said tables q names keys)
