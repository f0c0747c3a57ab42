use Rattle.std.proofs.Common.{length, Err, sym, subst}
use Rattle.sql_parser.specs.Spells.{Parses}
use Rattle.perm_engine.specs.meaning.Scripts.{IsReading, unexpected, too_deep}
use Rattle.perm_engine.proofs.meaning.script.tree_of.Goals as goal

pub returns-in-Err-Unexpected : goal.returns-in-Err-Unexpected
returns-in-Err-Unexpected c =
    let why = subst (λ e. Parses c.args.found.now (length c.args.bytes.now) (Err e)) c.in-Err-Unexpected.field-0-is c.in-Err-Unexpected.ensures in
    subst (λ r. IsReading c.args.bytes.now (Err r)) (sym c.broken.ensures) (unexpected c.requires why.0 why.1)

pub returns-in-Err-TooDeep : goal.returns-in-Err-TooDeep
returns-in-Err-TooDeep c =
    subst (λ r. IsReading c.args.bytes.now (Err r)) (sym c.broken-in-Err-TooDeep.ensures)
    (too_deep c.requires (subst (λ e. Parses c.args.found.now (length c.args.bytes.now) (Err e)) c.in-Err-TooDeep.field-0-is c.in-Err-TooDeep.ensures))
