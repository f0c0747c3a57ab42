use Rattle.std.proofs.Common.{is_lt, take, IsSorted, sym, ap, subst, ◌∙◌, rules}
use Rattle.perm_values.specs.RowLaws.{printed_total}
use Rattle.perm_values.specs.Rows.{printed_cmp}
use Rattle.std.proofs.lemmas.Fn.{always_returns_same}
use Rattle.std.proofs.lemmas.List.Sorted.{ranks_by}
use Rattle.bag_algebra.proofs.SortedBags.{printed_unique-of_sort}
use Rattle.row_nodes.proofs.Foremost.{IsSorted-take}
use Rattle.row_nodes.proofs.limit.first.Goals as goal

pub returns-clause-is : goal.returns-clause-is
returns-clause-is c =
    let s = c.in_ok-sort_by.ensures.sorted (λ x y. is_lt (printed_cmp c.args.keys.now x y)) (ranks_by (printed_total c.args.keys.now) (λ x. x))
    (always_returns_same _ _ _ (λ a r q k. search rules)) in
    c.from_vec.ensures ∙ c.truncate.ensures.items
    ∙ ap (take c.args.count) (printed_unique-of_sort c.args.keys.now c.args.rows c.sort_by.new.self.items
    (rw c.into_vec-items.ensures at c.in_ok-sort_by.ensures.permutation) s)

pub returns-clause-rises : goal.returns-clause-rises
returns-clause-rises c =
    let s = c.in_ok-sort_by.ensures.sorted (λ x y. is_lt (printed_cmp c.args.keys.now x y)) (ranks_by (printed_total c.args.keys.now) (λ x. x))
    (always_returns_same _ _ _ (λ a r q k. search rules)) in
    subst (IsSorted (printed_cmp c.args.keys.now)) (sym (c.from_vec.ensures ∙ c.truncate.ensures.items))
    (IsSorted-take (printed_cmp c.args.keys.now) c.args.count c.sort_by.new.self.items s)
