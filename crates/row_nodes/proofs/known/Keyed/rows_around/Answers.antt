use Rattle.std.proofs.Common.{◌∙◌}
use Rattle.row_nodes.proofs.known.Keyed.rows_around.Goals as goal

pub rows_around-requires-clause-keyed : goal.rows_around-requires-clause-keyed
rows_around-requires-clause-keyed c = c.as_slice.ensures ∙ c.requires.keyed.columns_are

pub rows_around-requires-clause-table : goal.rows_around-requires-clause-table
rows_around-requires-clause-table c = rw (c.as_slice.ensures, c.as_slice-2.ensures) c.requires.keyed.finds

pub returns : goal.returns
returns c = λ env front. rw c.as_slice-2.ensures at (c.rows_around.ensures env front)
