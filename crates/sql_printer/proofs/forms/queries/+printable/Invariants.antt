use Rattle.std.proofs.Common.{◌*◌, suc, drop}
use Rattle.std.specs.List.{AllByRecursion}
use Rattle.bag_algebra.specs.built.Measures.{inputs_size, subs_size}
use Rattle.bag_algebra.specs.Inputs.{given}
use Rattle.bag_algebra.specs.Measures.{size_of}
use Rattle.sql_printer.specs.forms.Printable.{PrintableSub}
use Rattle.sql_printer.proofs.forms.queries.+printable.Given as goal

abbrev pub decreases-printable : goal.decreases-printable
decreases-printable l = 2 * size_of l.query.now

abbrev pub decreases-inputs_printable : goal.decreases-inputs_printable
decreases-inputs_printable l = suc (2 * inputs_size (given l.inputs))

abbrev pub decreases-sublinks_printable : goal.decreases-sublinks_printable
decreases-sublinks_printable l = suc (2 * subs_size l.subs.now)

-- all can be printed where those that are left can
abbrev pub invariant-sublinks_printable-loop-sub : goal.invariant-sublinks_printable-loop-sub
invariant-sublinks_printable-loop-sub l = AllByRecursion PrintableSub (drop l.sub-index l.subs) → AllByRecursion PrintableSub l.subs
