use Rattle.std.proofs.Common.{◌≡◌, refl, sym, subst}
use Rattle.perm_values.specs.Rows.{picked}
use Rattle.row_nodes.specs.memory.Memory.{Remembered}
use Rattle.row_nodes.specs.declared.known.KnownAnswer.{KnownAnswer}
use Rattle.row_nodes.proofs.Kept.{knows_stepped}
use Rattle.row_nodes.proofs.known.Known.asks.Goals as goal

pub returns-clause-knows : goal.returns-clause-knows
returns-clause-knows c = λ db env q in_cells knows. knows_stepped db env q in_cells c.args.self.now c.args.row.now c.go_on.new.self c.in_ok-go_on.ensures.ok knows

pub returns-clause-here : goal.returns-clause-here
returns-clause-here c = subst (λ (m : Remembered KnownAnswer). picked m.places c.args.row.now ≡ m.key) (sym c.in_ok-go_on.ensures.ok) refl
