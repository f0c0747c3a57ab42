-- What an input gave, good or not.
use Rattle.std.proofs.Common.{◌≡◌, Result, Ok, Err, subst}
use Rattle.bag_algebra.specs.Outcome.{Outcome, Good}
use Rattle.bag_algebra.specs.Bags.{Bag}
use Rattle.row_values.specs.Answers.{Gives, Refuses}
use Rattle.row_values.specs.declared.error.ExecError.{ExecError}
use Rattle.row_nodes.specs.results.Screened.{GivesLeft, rows_left}
use Rattle.row_nodes.specs.declared.results.screened.Screened.{Screened}

pub given_good : {X : Type 0} (o : Outcome X) (given : Result X ExecError) (x : X) → given ≡ Ok x → Gives o given → o ≡ Good x
given_good o given x was h = subst (Gives o) was h

pub given_fault : {X : Type 0} (o : Outcome X) (given : Result X ExecError) (error : ExecError) → given ≡ Err error → Gives o given → Refuses o error
given_fault o given error was h = subst (Gives o) was h

pub left_good : (o : Outcome Bag) (given : Result Screened ExecError) (screened : Screened) → given ≡ Ok screened → GivesLeft o given → o ≡ Good (rows_left screened)
left_good o given screened was h = subst (GivesLeft o) was h

pub left_fault : (o : Outcome Bag) (given : Result Screened ExecError) (error : ExecError) → given ≡ Err error → GivesLeft o given → Refuses o error
left_fault o given error was h = subst (GivesLeft o) was h
