use Rattle.std.proofs.Common.{is_lt, ◌∙◌, rules}
use Rattle.std.proofs.lemmas.Fn.{always_returns_same}
use Rattle.std.proofs.lemmas.List.Sorted.{ranks_by}
use Rattle.perm_values.specs.RowLaws.{printed_total}
use Rattle.perm_values.specs.Rows.{printed_cmp}
use Rattle.bag_algebra.proofs.SortedBags.{printed_unique-of_sort}
use Rattle.statement_steps.proofs.order.in_order.Goals as goal

pub returns : goal.returns
returns c =
    let s = c.in_ok-sort_by.ensures.sorted (λ x y. is_lt (printed_cmp c.args.keys.now x y)) (ranks_by (printed_total c.args.keys.now) (λ x. x))
    (always_returns_same _ _ _ (λ a r q k. search rules)) in
    c.from_vec.ensures
    ∙ printed_unique-of_sort c.args.keys.now c.args.rows c.sort_by.new.self.items (rw c.into_vec-items.ensures at c.in_ok-sort_by.ensures.permutation) s
