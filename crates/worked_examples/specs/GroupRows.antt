-- Worked examples of aggregates over s(c INTEGER), and of groups.
use Rattle.std.specs.Prelude.{◌≡◌, negsuc, [], ◌∷◌, Some, refl}
use Rattle.null_logic.specs.declared.arith.Arith.TheVariants.{Divide}
use Rattle.null_logic.specs.declared.compare.Compare.TheVariants as compare
use Rattle.null_logic.specs.declared.run_fault.RunFault.TheVariants.{OutOfRange, DivideByZero}
use Rattle.perm_values.specs.declared.kind.Kind.TheVariants as kind
use Rattle.perm_values.specs.declared.value.Value.TheVariants.{Null, Integer}
use Rattle.bag_algebra.specs.Bags.{Bag}
use Rattle.bag_algebra.specs.Meaning.{Database}
use Rattle.bag_algebra.specs.Outcome.{Good, Bad, only}
use Rattle.bag_algebra.specs.built.Patterns.{FilterOf, AggregateOf}
use Rattle.bag_algebra.specs.declared.query.Aggr.{Aggr}
use Rattle.bag_algebra.specs.declared.query.AggFn.{AggFn}
use Rattle.bag_algebra.specs.declared.query.AggFn.TheVariants.{Count, CountDistinct, Sum, Min, Max}
use Rattle.bag_algebra.specs.declared.query.Query.{Query, end_of-Sublink}
use Rattle.worked_examples.specs.Queries.{none, num, holding, col, number, compared, reckoned, s, printed, count_rows}

abbrev of_c : AggFn → Aggr
of_c function = record { function = function; argument = Some (col 0 0); kind = kind.Integer }

-- SELECT COUNT(*), COUNT(c), COUNT(DISTINCT c), SUM(c), MIN(c), MAX(c) FROM s
abbrev summary : Query
summary = AggregateOf s [] (count_rows ∷ of_c Count ∷ of_c CountDistinct ∷ of_c Sum ∷ of_c Min ∷ of_c Max ∷ [])

some-rows : printed summary (holding [] ((num 2 ∷ []) ∷ (Null ∷ []) ∷ (num 1 ∷ []) ∷ (num 2 ∷ []) ∷ []))
    ≡ Good ((num 4 ∷ num 3 ∷ num 2 ∷ num 5 ∷ num 1 ∷ num 2 ∷ []) ∷ [])
some-rows = refl

no-row : printed summary (holding [] []) ≡ Good ((num 0 ∷ num 0 ∷ num 0 ∷ Null ∷ Null ∷ Null ∷ []) ∷ [])
no-row = refl

nulls-alone : printed summary (holding [] ((Null ∷ []) ∷ (Null ∷ []) ∷ [])) ≡ Good ((num 2 ∷ num 0 ∷ num 0 ∷ Null ∷ Null ∷ Null ∷ []) ∷ [])
nulls-alone = refl

-- ---- SUM is exact: only the sum itself has to fit 64 bits

abbrev sum : Query
sum = AggregateOf s [] (of_c Sum ∷ [])

abbrev greatest : Bag
greatest = (num 9223372036854775807 ∷ []) ∷ (num 1 ∷ []) ∷ []

sum-out_of_range : printed sum (holding [] greatest) ≡ Bad (only OutOfRange)
sum-out_of_range = refl

sum-back_in_range : printed sum (holding [] ((num 9223372036854775807 ∷ []) ∷ (num 1 ∷ []) ∷ (Integer (negsuc 0) ∷ []) ∷ []))
    ≡ Good ((num 9223372036854775807 ∷ []) ∷ [])
sum-back_in_range = refl

-- every argument is looked at before any sum
arguments-first :
    printed (AggregateOf s [] (of_c Sum ∷ record { function = Min; argument = Some (reckoned Divide (col 0 0) (number 0)); kind = kind.Integer } ∷ []))
    (holding [] greatest)
    ≡ Bad (only DivideByZero)
arguments-first = refl

-- ---- GROUP BY c, with HAVING COUNT(*) > 1 and without

abbrev classes : Query
classes = AggregateOf s (0 ∷ []) (count_rows ∷ of_c Count ∷ of_c Sum ∷ [])

abbrev nulls_and_one : Database
nulls_and_one = holding [] ((Null ∷ []) ∷ (Null ∷ []) ∷ (num 1 ∷ []) ∷ [])

all-classes : printed classes nulls_and_one ≡ Good ((num 1 ∷ num 1 ∷ num 1 ∷ num 1 ∷ []) ∷ (Null ∷ num 2 ∷ num 0 ∷ Null ∷ []) ∷ [])
all-classes = refl

large-classes : printed (FilterOf classes (compared compare.Greater (col 0 1) (number 1)) none end_of-Sublink) nulls_and_one
    ≡ Good ((Null ∷ num 2 ∷ num 0 ∷ Null ∷ []) ∷ [])
large-classes = refl

no-class : printed classes (holding [] []) ≡ Good []
no-class = refl
