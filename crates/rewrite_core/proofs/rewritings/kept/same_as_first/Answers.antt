use Rattle.std.proofs.Common.{length, sym, ap, ◌∙◌}
use Rattle.std.proofs.lemmas.List.FromFn.{length-range_with_len}
use Rattle.rewrite_core.proofs.rewritings.kept.same_as_first.Goals as goal

pub same_columns-requires : goal.same_columns-requires
same_columns-requires c =
    ap length (c.as_slice.ensures ∙ c.in_ok-first.ensures)
    ∙ length-range_with_len 0 c.args.count
    ∙ sym (length-range_with_len c.args.from c.args.count)
    ∙ sym (ap length (c.as_slice-2.ensures ∙ c.in_ok-others.ensures))
