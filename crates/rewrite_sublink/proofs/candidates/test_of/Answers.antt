use Rattle.std.proofs.Common.{◌∙◌, sym}
use Rattle.rewrite_sublink.proofs.candidates.test_of.Goals as goal
use Rattle.rewrite_sublink.specs.Candidates.{test_condition, test_subs}

pub returns-in_ok-subs-in-None-clause-condition : goal.returns-in_ok-subs-in-None-clause-condition
returns-in_ok-subs-in-None-clause-condition c = λ i. test_condition ((sym c.in-None.is ∙ c.deciding.ensures) i)

pub returns-in_ok-subs-in-None-clause-subs : goal.returns-in_ok-subs-in-None-clause-subs
returns-in_ok-subs-in-None-clause-subs c =
    c.in_ok-subs-in-None.ensures ∙ (λ i. test_subs ((sym c.in-None.is ∙ c.deciding.ensures) i) c.args.standing.now c.args.found.now)

pub returns-in_ok-condition-in-Some-clause-condition : goal.returns-in_ok-condition-in-Some-clause-condition
returns-in_ok-condition-in-Some-clause-condition c =
    c.in_ok-condition-in-Some.ensures ∙ (λ i. test_condition ((sym c.in-Some.is ∙ c.deciding.ensures) i))

pub returns-in_ok-condition-in-Some-clause-subs : goal.returns-in_ok-condition-in-Some-clause-subs
returns-in_ok-condition-in-Some-clause-subs c =
    c.in_ok-subs-in-Some.ensures ∙ (λ i. test_subs ((sym c.in-Some.is ∙ c.deciding.ensures) i) c.args.standing.now c.args.found.now)
