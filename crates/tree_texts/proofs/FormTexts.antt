-- What is split into the tokens of a form is a text of a tree of the form.
use Rattle.std.proofs.Common.{ℕ, List, refl}
use Rattle.sql_lexer.specs.Lexes.{Lexes}
use Rattle.sql_tree.specs.grammar.Symbols as n
use Rattle.sql_parser.specs.Texts.{IsTextOf}
use Rattle.sql_tree.specs.declared.query.QueryTree.{QueryTree}
use Rattle.sql_tree.specs.declared.statement.Script.{Script}
use Rattle.tree_texts.specs.plans.Plans.{tokens_of}
use Rattle.tree_texts.specs.FormPlans as plan
use Rattle.tree_texts.specs.Forms.{QueryForm}
use Rattle.tree_texts.specs.Standing.{Places, given, standing}
use Rattle.tree_texts.specs.Texts.{script}
use Rattle.tree_texts.specs.Trees.{IsQuery, IsScript, script_tree}
use Rattle.tree_texts.proofs.FormTrees.{query_is}
use Rattle.tree_texts.proofs.Standing.{given_spelled}

pub query_anywhere : (form : QueryForm) (places : Places) (text : List ℕ) → Lexes text (standing places 0 (tokens_of (plan.query form)))
    → (tree : QueryTree) × IsQuery form tree × IsTextOf n.Query text tree
query_anywhere form places text lexes =
    let p = plan.query form in
    (given places 0 p, query_is places form 0, record { tokens = standing places 0 (tokens_of p); lexes = lexes; spelled = given_spelled places p 0 })

pub script_anywhere : (form : QueryForm) (places : Places) (text : List ℕ) → Lexes text (standing places 0 (tokens_of (script (plan.query form))))
    → (tree : Script) × IsScript form tree × IsTextOf n.ScriptOf text tree
script_anywhere form places text lexes =
    let p = script (plan.query form) in (
      given places 0 p,
      script_tree (query_is places form 0) refl refl,
      record { tokens = standing places 0 (tokens_of p); lexes = lexes; spelled = given_spelled places p 0 },
    )
