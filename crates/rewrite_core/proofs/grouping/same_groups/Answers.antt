use Rattle.std.proofs.Common.{◌+◌, length, sym, ap, ◌∙◌}
use Rattle.std.proofs.lemmas.List.{length-map}
use Rattle.std.proofs.lemmas.List.FromFn.{length-range_with_len}
use Rattle.rewrite_core.proofs.grouping.same_groups.Goals as goal

pub same_columns-requires : goal.same_columns-requires
same_columns-requires c =
    ap length (c.as_slice.ensures ∙ c.in_ok-first.ensures)
    ∙ length-range_with_len 0 _
    ∙ sym (length-map c.args.groups.now (λ place. c.args.from + place))
    ∙ sym (ap length (c.as_slice-2.ensures ∙ c.in_ok-others.ensures))
