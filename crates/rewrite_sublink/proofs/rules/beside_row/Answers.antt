use Rattle.std.proofs.Common.{◌∙◌, ◌++◌, ap}
use Rattle.std.specs.List.{range_with_len}
use Rattle.bag_algebra.specs.ColumnItems.{column_items}
use Rattle.bag_algebra.specs.Kinds.{kinds_of}
use Rattle.rewrite_sublink.proofs.rules.beside_row.Goals as goal

pub returns : goal.returns
returns c =
    let places = c.as_slice.ensures ∙ c.in_ok-places.ensures ∙ ap (range_with_len 0) c.in_ok-exact_width.ensures.columns in
    c.in_ok-append.ensures.ok ∙ (λ i. (c.in_ok-all.ensures ∙ ap (column_items (kinds_of c.args.query.now)) places) i ++ c.in_ok-copy_of.ensures i)
