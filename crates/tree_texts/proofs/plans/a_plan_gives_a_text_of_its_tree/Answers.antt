use Rattle.sql_lexer.specs.Printing.{placed}
use Rattle.tree_texts.specs.plans.Plans.{tokens_of}
use Rattle.tree_texts.proofs.Planned.{plan_spelled, text_is_read}
use Rattle.tree_texts.proofs.plans.a_plan_gives_a_text_of_its_tree.Goals as goal

pub returns : goal.returns
returns c = λ n p told utf8. record { tokens = placed 0 (tokens_of p); lexes = text_is_read p told utf8; spelled = plan_spelled p 0 }
