use Rattle.std.proofs.Common.{◌-◌, length, sym, ap, ◌∙◌, is_lt, arith}
use Rattle.std.proofs.lemmas.List.{get_or_default}
use Rattle.perm_values.specs.Rows.{printed_cmp}
use Rattle.bag_algebra.proofs.SortedBags.{printed_exact}
use Rattle.row_nodes.proofs.Foremost.{kept_same, not_less}
use Rattle.row_nodes.proofs.limit.is_behind.Goals as goal

pub returns : goal.returns
returns c = λ h.
    let some = c.if-held-eq0.false in
    let full = c.if-held-count.false in
    let keys = c.args.keys.now in
    let row = c.args.row.now in
    let kept = c.args.kept.now in
    let last = length kept - 1 in
    let at = get_or_default kept last c.index-kept-held.result row (omega arith) in
    kept_same (printed_cmp keys) (printed_exact keys) c.args.count kept row last c.requires (omega arith) (omega arith)
    (ap (λ other. is_lt (printed_cmp keys row other)) (sym (c.index-kept-held.is ∙ at)) ∙ ap is_lt (sym c.order_by.ensures) ∙ not_less c.order_by.result (sym c.is_ge.ensures ∙ h))
