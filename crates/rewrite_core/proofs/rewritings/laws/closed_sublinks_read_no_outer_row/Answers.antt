use Rattle.rewrite_core.proofs.ClosedSublinks.{reading-from_closed, closed-from_reading}
use Rattle.rewrite_core.proofs.rewritings.laws.closed_sublinks_read_no_outer_row.Goals as goal

pub returns : goal.returns
returns c outer q formed = (λ h. reading-from_closed q h, λ h. closed-from_reading outer q formed h)
