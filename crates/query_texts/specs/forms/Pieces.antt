-- The text of a plan, piece by piece: a blank stands behind each token.
use Rattle.std.specs.Prelude.{ℕ, List, [], ◌∷◌, ◌++◌}
use Rattle.sql_tree.specs.grammar.Grammar.{SqlRule}
use Rattle.tree_texts.specs.plans.Plans.{Plan, a_word, a_choice, a_token, both, before, behind, first, second, front_first, front_second, absent, present, no_more, one_more, one_last, at_start, as_symbol}
use Rattle.tree_texts.specs.plans.Written.{token_for}
use Rattle.tree_texts.specs.FormPlans as plan
use Rattle.tree_texts.specs.Forms.{ExprForm, QueryForm}
use Rattle.tree_texts.specs.Texts.{shown}

abbrev pub said : {rule : SqlRule} → Plan rule → List ℕ
said (a_word {sort = sort} written) = shown (token_for sort) ++ 32 ∷ []
said (a_choice {sort = sort} written is) = shown (token_for sort) ++ 32 ∷ []
said (a_token t is) = shown t ++ 32 ∷ []
said (both p q) = said p ++ said q
said (before p b) = said p
said (behind b p) = said p
said (first p) = said p
said (second p) = said p
said (front_first p) = said p
said (front_second p) = said p
said absent = []
said (present p) = said p
said no_more = []
said (one_more p q) = said p ++ said q
said (one_last p) = said p
said (at_start p) = said p
said (as_symbol p) = said p

abbrev pub expr_said : ExprForm → List ℕ
expr_said form = said (plan.expr form)

abbrev pub query_said : QueryForm → List ℕ
query_said form = said (plan.query form)
