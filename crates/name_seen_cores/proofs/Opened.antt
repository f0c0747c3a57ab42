-- What trees of queries mean, of what their parts mean.
use Rattle.std.specs.Prelude.{◌≡◌, List, map, None}
use Rattle.std.proofs.Common.{ap, sym, ◌∙◌}
use Rattle.perm_catalog.specs.Contents.{Contents}
use Rattle.sql_tree.specs.declared.query.Core.{Core, out-Core}
use Rattle.sql_tree.specs.declared.query.QueryTree.{QueryTree}
use Rattle.sql_tree.specs.declared.query.SetStep.{SetStep}
use Rattle.sql_tree.specs.declared.query.SetTree.{SetTree}
use Rattle.sql_tree.specs.declared.query.SetTree.TheVariants as set
use Rattle.name_meaning.specs.Cores.{BodyPart}
use Rattle.name_meaning.specs.Meanings.{Around, QueryPart, query_means_at}
use Rattle.name_meaning.specs.Queries.{SetStepPart, query_seen, set_chain, may_not_ask}
use Rattle.name_meaning.specs.Trees.{core_of, query_of, set_of_tree, set_step_of}
use Rattle.name_meaning.proofs.Equations.{token, querytree-record, setstep-record, settree-chain, settree-core, settree-paren}
use Rattle.name_meaning.proofs.Opened.{core-is}

-- ---- set operations

pub set-is : (c : Contents) (tree : SetTree) (core : Core) → tree ≡ set.Core core → set_of_tree c tree ≡ core_of c core
unfolding token
set-is c tree core is = ap (set_of_tree c) is ∙ settree-core c core

pub paren-means : (c : Contents) (tree : SetTree) (query : QueryTree) (around : Around) → tree ≡ set.Paren query
    → (set_of_tree c tree).means around ≡ query_means_at (query_of c query) (may_not_ask around)
unfolding token query_means_at
paren-means c tree query around is = ap (λ (t : SetTree). (set_of_tree c t).means around) is ∙ ap (λ (b : BodyPart). b.means around) (settree-paren c query)

pub chain-means : (c : Contents) (tree first : SetTree) (steps : List SetStep) (around : Around) → tree ≡ set.Chain first steps
    → (set_of_tree c tree).means around ≡ set_chain around ((set_of_tree c first).means around) (map (set_step_of c) steps)
unfolding token
chain-means c tree first steps around is = ap (λ (t : SetTree). (set_of_tree c t).means around) is ∙ ap (λ (b : BodyPart). b.means around) (settree-chain c first steps)

pub core-word : (c : Contents) (tree : SetTree) (core : Core) → tree ≡ set.Core core → (out-Core core).provenance ≡ (set_of_tree c tree).word
core-word c tree core is = sym (ap (λ (b : BodyPart). b.word) (set-is c tree core is ∙ core-is c core))

pub no-word : (c : Contents) (tree : SetTree) (query : QueryTree) → tree ≡ set.Paren query → (set_of_tree c tree).word ≡ None
unfolding token
no-word c tree query is = ap (λ (t : SetTree). (set_of_tree c t).word) is ∙ ap (λ (b : BodyPart). b.word) (settree-paren c query)

pub first-word : (c : Contents) (tree first : SetTree) (steps : List SetStep) → tree ≡ set.Chain first steps → (set_of_tree c tree).word ≡ (set_of_tree c first).word
unfolding token
first-word c tree first steps is = ap (λ (t : SetTree). (set_of_tree c t).word) is ∙ ap (λ (b : BodyPart). b.word) (settree-chain c first steps)

pub step-at : (c : Contents) (step : SetStep) → (set_step_of c step).at ≡ step.at
unfolding token
step-at c step = ap (λ (s : SetStepPart). s.at) (setstep-record c step.word step.all step.at step.operand)

pub step-operand : (c : Contents) (step : SetStep) → (set_step_of c step).operand ≡ set_of_tree c step.operand
unfolding token
step-operand c step = ap (λ (s : SetStepPart). s.operand) (setstep-record c step.word step.all step.at step.operand)

-- ---- queries

pub query-means : (c : Contents) (tree : QueryTree) (around : Around)
    → query_means_at (query_of c tree) around ≡ query_seen around tree.at (set_of_tree c tree.body) tree.order tree.limit
unfolding token query_means_at
query-means c tree around = ap (λ (q : QueryPart). q.means around) (querytree-record c tree.at tree.body tree.order tree.limit)
