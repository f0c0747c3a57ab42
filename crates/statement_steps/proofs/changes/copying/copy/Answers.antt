use Rattle.std.proofs.Common.{refl}
use Rattle.statement_steps.proofs.changes.copying.copy.Goals as goal

pub returns-in-Err-clause-turn : goal.returns-in-Err-clause-turn
returns-in-Err-clause-turn g c =
    let l = c.in-Err.ensures.loaded in
    (l.0, l.1, (l.2 c.args.catalog.now c.args.name.now, refl))
