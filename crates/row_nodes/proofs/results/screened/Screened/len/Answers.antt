use Rattle.std.proofs.Common.{◌∙◌}
use Rattle.row_nodes.proofs.Screening.{flagged_count}
use Rattle.row_nodes.proofs.results.screened.Screened.len.Goals as goal

pub returns-in-Some : goal.returns-in-Some
returns-in-Some c = λ has. (rw c.as_slice.ensures at c.unset.ensures) ∙ flagged_count c.args.self.now c.in-Some.flags c.in-Some.is has
