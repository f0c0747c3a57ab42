use Rattle.row_nodes.proofs.Kept.{input_stepped}
use Rattle.row_nodes.proofs.known.Known.asks_input.Goals as goal

pub returns-clause-knows : goal.returns-clause-knows
returns-clause-knows c = λ db env q in_cells knows. input_stepped db env q in_cells c.args.self.now c.args.row.now c.go_on.new.self c.in_ok-go_on.ensures.ok knows
