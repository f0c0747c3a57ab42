use Rattle.std.specs.Prelude.{◌++◌, length, map}
use Rattle.std.specs.List.{range_with_len}
use Rattle.std.proofs.Common.{ap, ◌∙◌}
use Rattle.perm_values.proofs.Results.{ok-anyway}
use Rattle.bag_algebra.specs.Kinds.{place_kinds}
use Rattle.name_meaning.specs.Froms.{named_columns}
use Rattle.name_meaning.specs.Queries.{out_column}
use Rattle.name_seen_parts.specs.Columns.{columns_of}
use Rattle.name_seen_cores.proofs.Results.{turned-ok}
use Rattle.name_seen_cores.proofs.places.add_places.Goals as goal

pub returns-clause-shown : goal.returns-clause-shown
returns-clause-shown c =
    let kinds_are = c.in_ok-kinds.ensures ∙ ap place_kinds c.as_slice.ensures in
    ok-anyway c.range.result
    (c.in_ok-add_named.ensures
    ∙ (λ i. columns_of c.args.columns.now ++ map out_column (named_columns ((c.as_slice-2.ensures ∙ c.in_ok-names.ensures) i) ((c.as_slice-3.ensures ∙ kinds_are) i))))

pub returns-clause-places : goal.returns-clause-places
returns-clause-places c =
    let kinds_are = c.in_ok-kinds.ensures ∙ ap place_kinds c.as_slice.ensures in
    turned-ok c.range.result c.range.ensures
    (λ places is. is ∙ (λ i. range_with_len (c.len-own.ensures.value i) ((c.len.ensures.value ∙ ap length kinds_are) i)))
