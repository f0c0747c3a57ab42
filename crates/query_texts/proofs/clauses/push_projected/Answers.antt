use Rattle.std.proofs.Common.{◌∙◌, ◌++◌, ap, drop}
use Rattle.std.proofs.lemmas.List.{take_rest}
use Rattle.perm_values.proofs.Results.{when-ok}
use Rattle.tree_texts.specs.expressions.ExpressionTexts.{expr_bytes}
use Rattle.tree_texts.proofs.Pieces.{laid3}
use Rattle.query_texts.specs.clauses.Frames.{called_in}
use Rattle.query_texts.specs.clauses.ClauseTexts.{as_text, beside_text, expr_items}
use Rattle.query_texts.proofs.clauses.Projected.{projected_none, projected_some}
use Rattle.query_texts.proofs.clauses.push_projected.Goals as goal

pub returns-in-empty : goal.returns-in-empty
returns-in-empty c =
    when-ok c.push_unread_beside.result c.push_unread_beside.ensures (λ joined.
    joined ∙ ap (λ t. c.args.draft.now ++ t)
    (projected_none c.args.frame.now.prefix.now (called_in c.args.frame.now) c.args.subs.now c.args.unused.now c.args.items.now c.in-empty.len_below))

pub returns-in_ok-push_as-in-len1-up : goal.returns-in_ok-push_as-in-len1-up
returns-in_ok-push_as-in-len1-up c =
    let prefix = c.args.frame.now.prefix.now in
    let out = called_in c.args.frame.now in
    let subs = c.args.subs.now in
    let unused = c.args.unused.now in
    let items = c.args.items.now in
    let item = c.item-item.result in
    when-ok c.push_expr_items.result c.push_expr_items.ensures (λ last.
    laid3 c.args.draft.now _ _ _ (beside_text item.kind unused (expr_bytes prefix subs item.expr)) (as_text out 0) (expr_items prefix out subs 1 (drop 1 items))
    c.in_ok-push_beside-in-len1-up.ensures c.in_ok-push_as-in-len1-up.ensures (rw (take_rest items 1) at last)
    ∙ ap (λ t. c.args.draft.now ++ t) (projected_some prefix out subs unused items item c.in-len1-up.len_at_least c.item-item.is))
