use Rattle.std.proofs.Common.{sym, ap, ◌∙◌}
use Rattle.std.specs.Prelude.{option_copied}
use Rattle.delete_impact.proofs.Answered.{none-answers, some-answers}
use Rattle.delete_impact.proofs.answer.impact.Goals as goal

pub returns-in-None : goal.returns-in-None
returns-in-None c =
    none-answers c.args.query.now c.args.id _ c.nothing.result (sym c.first_kinds.ensures ∙ ap option_copied c.in-None.is) c.nothing.ensures

pub returns-in_ok-condition-in-Some : goal.returns-in_ok-condition-in-Some
returns-in_ok-condition-in-Some c =
    some-answers c.args.query.now c.args.id _ c.in-Some.kinds.now c.in_ok-condition-in-Some.condition c.vanishing-found.result
    (sym c.first_kinds.ensures ∙ ap option_copied c.in-Some.is) c.in_ok-condition-in-Some.ensures c.vanishing-found.ensures
