use Rattle.std.proofs.Common.{refl}
use Rattle.row_nodes.proofs.known.Keyed.new.Goals as goal

pub returns : goal.returns
returns c = record {
  rows_are = refl;
  columns_are = c.in_ok-columns.ensures;
  finds = rw (c.as_slice.ensures, c.as_slice-2.ensures) at c.in_ok-table.ensures;
}
