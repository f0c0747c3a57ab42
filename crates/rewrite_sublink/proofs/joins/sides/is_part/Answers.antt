use Rattle.std.proofs.Common.{length, sym, ap, ◌∙◌}
use Rattle.std.specs.List.{range_with_len}
use Rattle.rewrite_sublink.proofs.joins.PairColumns.{as_many}
use Rattle.rewrite_sublink.proofs.joins.sides.is_part.Goals as goal
use Rattle.rewrite_sublink.specs.joins.ByParts.{places_in_pair}

pub same_columns-requires : goal.same_columns-requires
same_columns-requires c =
    ap length (c.as_slice.ensures ∙ c.in_ok-own.ensures ∙ ap (range_with_len 0) c.in_ok-row.ensures.total)
    ∙ as_many c.args.side
    ∙ sym (ap length (c.as_slice-2.ensures ∙ c.in_ok-there.ensures ∙ ap (λ row. places_in_pair row c.args.side) c.in_ok-row.ensures.total))
