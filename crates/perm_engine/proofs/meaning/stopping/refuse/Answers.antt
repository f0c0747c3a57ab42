use Rattle.std.proofs.Common.{◌∙◌, ap, refl, sym}
use Rattle.csv_tables.specs.Lines.{error_line}
use Rattle.perm_engine.specs.meaning.Stops.{NoScript}
use Rattle.perm_engine.proofs.meaning.stopping.refuse.Goals as goal

pub returns-in-Break-clause-ends : goal.returns-in-Break-clause-ends
returns-in-Break-clause-ends g c = rw c.in-Break.is (c.finish.ensures.ends (NoScript c.in-Break.found)
    (ap (λ n. error_line n c.in-Break.found.at) (sym c.code.ensures) ∙ sym (c.as_slice.ensures ∙ c.error_line-line.ensures)) refl)
