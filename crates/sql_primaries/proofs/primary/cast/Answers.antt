use Rattle.std.proofs.Common.{arith}
use Rattle.sql_tree.proofs.Steps.{cast_is}
use Rattle.sql_primaries.proofs.primary.cast.Goals as goal

pub returns-in_err-past-clause-given : goal.returns-in_err-past-clause-given
returns-in_err-past-clause-given c = grind (arith, cast_is)

pub returns-in_err-past-2-clause-given : goal.returns-in_err-past-2-clause-given
returns-in_err-past-2-clause-given c = grind (arith, cast_is)

pub returns-in_err-past-3-clause-given : goal.returns-in_err-past-3-clause-given
returns-in_err-past-3-clause-given c = grind (arith, cast_is)

pub returns-in_err-past-4-clause-given : goal.returns-in_err-past-4-clause-given
returns-in_err-past-4-clause-given c = grind (arith, cast_is)

pub returns-in_err-kind-clause-given : goal.returns-in_err-kind-clause-given
returns-in_err-kind-clause-given c = grind (arith, cast_is)

pub returns-in_err-past-5-clause-given : goal.returns-in_err-past-5-clause-given
returns-in_err-past-5-clause-given c = grind (arith, cast_is)

pub returns-clause-given : goal.returns-clause-given
returns-clause-given c = grind (arith, cast_is)
