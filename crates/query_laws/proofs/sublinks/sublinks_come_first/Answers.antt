use Rattle.std.proofs.Common.{sym, ap, subst}
use Rattle.bag_algebra.specs.Expressions.{value}
use Rattle.bag_algebra.specs.Meaning.{optional_value}
use Rattle.bag_algebra.specs.Outcome.{and_then, each}
use Rattle.bag_algebra.specs.declared.expr.Item.{Item}
use Rattle.bag_algebra.specs.declared.query.Aggr.{Aggr}
use Rattle.bag_algebra.specs.Children.{sublink_value}
use Rattle.query_laws.specs.Evaluated.{IsEvaluated}
use Rattle.query_laws.proofs.SublinkValues.{each-evaluated}
use Rattle.query_laws.proofs.sublinks.sublinks_come_first.Goals as goal
use Rattle.bag_algebra.proofs.Outcomes.{answers-each}

pub returns-clause-sublinks : goal.returns-clause-sublinks
returns-clause-sublinks c subs db env u =
    subst (IsEvaluated (sublink_value db env u) subs) (sym (answers-each subs db env u)) (each-evaluated (sublink_value db env u) subs)

pub returns-clause-bad_condition : goal.returns-clause-bad_condition
returns-clause-bad_condition c condition subs db env u faults e = ap (λ o. and_then o (value condition u env)) e

pub returns-clause-condition : goal.returns-clause-condition
returns-clause-condition c condition subs db env u answers e = ap (λ o. and_then o (value condition u env)) e

pub returns-clause-bad_items : goal.returns-clause-bad_items
returns-clause-bad_items c items subs db env u faults e =
    ap (λ o. and_then o (λ vs. each (λ (item : Item). value item.expr u env vs) items)) e

pub returns-clause-items : goal.returns-clause-items
returns-clause-items c items subs db env u answers e =
    subst (IsEvaluated (λ (item : Item). value item.expr u env answers) items)
    (sym (ap (λ o. and_then o (λ vs. each (λ (item : Item). value item.expr u env vs) items)) e))
    (each-evaluated (λ (item : Item). value item.expr u env answers) items)

pub returns-clause-arguments : goal.returns-clause-arguments
returns-clause-arguments c aggregates env u = each-evaluated (λ (aggregate : Aggr). optional_value aggregate.argument env u) aggregates
