use Rattle.std.proofs.Common.{sym, subst}
use Rattle.std.specs.List.{AllByRecursion}
use Rattle.perm_values.proofs.Results.{when-ok}
use Rattle.bag_algebra.specs.Inputs.{given}
use Rattle.sql_printer.specs.forms.Printable.{Printable, PrintableSub}
use Rattle.sql_printer.proofs.forms.OpenedExpressions.{owed-here}
use Rattle.sql_printer.proofs.forms.PrintableNodes.{printable-node}
use Rattle.sql_printer.proofs.forms.queries.+printable.Goals as goal

pub printable-returns : goal.printable-returns
printable-returns t c =
    when-ok c.sublinks_printable.result c.sublinks_printable.ensures
    (λ subs. printable-node c.args.query.now c.in_ok-is_short.ensures c.see_own.ensures
    (subst (AllByRecursion Printable) c.inputs.ensures c.in_ok-inputs_printable.ensures) (subst (AllByRecursion PrintableSub) c.sublinks.ensures subs))

pub inputs_printable-returns-in-One : goal.inputs_printable-returns-in-One
inputs_printable-returns-in-One t c =
    when-ok c.printable.result c.printable.ensures (λ p. subst (λ inputs. AllByRecursion Printable (given inputs)) (sym c.in-One.is) (p, tt))

pub inputs_printable-returns-in_ok-printable-in-Two : goal.inputs_printable-returns-in_ok-printable-in-Two
inputs_printable-returns-in_ok-printable-in-Two t c =
    when-ok c.printable-in-Two-2.result c.printable-in-Two-2.ensures
    (λ p. subst (λ inputs. AllByRecursion Printable (given inputs)) (sym c.in-Two.is) (c.in_ok-printable-in-Two.ensures, (p, tt)))

pub sublinks_printable-loop-sub-preserved : goal.sublinks_printable-loop-sub-preserved
sublinks_printable-loop-sub-preserved t c = λ rest.
    owed-here (AllByRecursion PrintableSub) c.args.subs.now c.loop-sub.sub-index c.sub-item.result c.loop-sub-test.true c.sub-item.is
    c.loop-sub.invariant ((c.see_option.ensures, c.in_ok-printable.ensures), rest)
