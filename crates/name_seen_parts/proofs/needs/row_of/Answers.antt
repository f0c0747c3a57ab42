use Rattle.std.specs.Prelude.{ℕ, List, find, Some, None}
use Rattle.std.proofs.Common.{ap, ◌∙◌}
use Rattle.null_logic.specs.Operators.{has_key}
use Rattle.null_logic.specs.declared.operator.TheConstants.{OPERATORS}
use Rattle.name_seen_parts.proofs.OperatorRows.{found-row}
use Rattle.name_seen_parts.proofs.needs.row_of.Goals as goal

pub returns-in-None : goal.returns-in-None
returns-in-None c =
    found-row c.args.op c.args.prefix None
    (c.in-None.ensures ∙ ap (λ (spelling : List ℕ). find (has_key spelling c.args.prefix) OPERATORS.rows) (c.as_bytes.ensures.value ∙ c.spelling.ensures))

pub returns-in-Some : goal.returns-in-Some
returns-in-Some c =
    found-row c.args.op c.args.prefix (Some c.in-Some.row.now)
    (c.in-Some.ensures ∙ ap (λ (spelling : List ℕ). find (has_key spelling c.args.prefix) OPERATORS.rows) (c.as_bytes.ensures.value ∙ c.spelling.ensures))
