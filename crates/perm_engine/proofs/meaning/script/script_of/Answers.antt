use Rattle.std.proofs.Common.{Err, sym, subst}
use Rattle.perm_engine.specs.meaning.Scripts.{IsReading}
use Rattle.perm_engine.proofs.meaning.Misspelling.{IsReading-no_tokens}
use Rattle.perm_engine.proofs.meaning.script.script_of.Goals as goal

pub returns-in-Err : goal.returns-in-Err
returns-in-Err c =
    subst (λ r. IsReading c.args.bytes.now (Err r)) (sym c.no_tokens.ensures)
    (IsReading-no_tokens c.args.bytes.now c.in-Err.error c.in-Err.ensures.refused)
