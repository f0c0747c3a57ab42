use Rattle.name_analysis.proofs.queries.whole_of.Goals as goal

pub returns-in-Ok : goal.returns-in-Ok
returns-in-Ok c = c.whole_with.ensures (rw (c.as_slice.ensures, c.as_slice-order.ensures) at c.keys_of-keys.ensures) c.query_made-made.ensures
