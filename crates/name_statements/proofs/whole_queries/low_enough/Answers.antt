use Rattle.std.proofs.Common.{sym, ◌∙◌}
use Rattle.name_statements.proofs.Wholes.{high_second}
use Rattle.name_statements.proofs.whole_queries.low_enough.Goals as goal

pub returns-then-is_too_high : goal.returns-then-is_too_high
returns-then-is_too_high c = λ m none high inside.
    high_second c.args.at m c.args.gathered c.args.height none inside high (sym c.is_too_high.ensures ∙ c.if-is_too_high.true)

pub returns : goal.returns
returns c = λ m none high inside. inside
