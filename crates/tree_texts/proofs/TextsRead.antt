-- The text of a form is read as a tree of the form.
use Rattle.std.proofs.Common.{ℕ}
use Rattle.sql_tree.specs.grammar.Symbols as n
use Rattle.sql_parser.specs.Texts.{IsTextOf}
use Rattle.sql_tree.specs.declared.query.QueryTree.{QueryTree}
use Rattle.sql_tree.specs.declared.statement.Script.{Script}
use Rattle.tree_texts.specs.plans.Plans.{tokens_of}
use Rattle.tree_texts.specs.Fits.{FitsQuery}
use Rattle.tree_texts.specs.FormPlans as plan
use Rattle.tree_texts.specs.Forms.{QueryForm}
use Rattle.tree_texts.specs.Texts.{places_from, query_text, script, script_text}
use Rattle.tree_texts.specs.Trees.{IsQuery, IsScript}
use Rattle.tree_texts.proofs.FormTexts.{query_anywhere, script_anywhere}
use Rattle.tree_texts.proofs.FormsSound.{query_sound}
use Rattle.tree_texts.proofs.Shown.{shown_is_read}
use Rattle.tree_texts.proofs.Standing.{all_stand}

pub query_read : (form : QueryForm) → FitsQuery form → (tree : QueryTree) × IsQuery form tree × IsTextOf n.Query (query_text form) tree
query_read form fit =
    let tokens = tokens_of (plan.query form) in
    query_anywhere form (places_from 0 tokens) (query_text form) (shown_is_read tokens (all_stand (plan.query form) (query_sound form fit)))

pub script_read : (form : QueryForm) → FitsQuery form → (tree : Script) × IsScript form tree × IsTextOf n.ScriptOf (script_text form) tree
script_read form fit =
    let p = script (plan.query form) in
    script_anywhere form (places_from 0 (tokens_of p)) (script_text form) (shown_is_read (tokens_of p) (all_stand p (query_sound form fit, tt)))
