-- What becomes of the values of parts.
use Rattle.std.specs.Prelude.{◌≡◌, Bool, true, false, List, Option, Some, None, Result, Ok, Err, unwrap_or}
use Rattle.null_logic.specs.Logic.{truth_and, truth_or, truth_of, value_of}
use Rattle.null_logic.specs.declared.arith.Arith.{Arith}
use Rattle.null_logic.specs.declared.operator.Operator.{Operator}
use Rattle.null_logic.specs.declared.operator.Operator.TheVariants as op
use Rattle.null_logic.specs.declared.truth.Truth.{Truth}
use Rattle.perm_values.specs.declared.value.Value.{Value}
use Rattle.perm_values.specs.declared.value.Value.TheVariants.{Null, Boolean}
use Rattle.perm_values.specs.Values.{same_value, is_null}
use Rattle.bag_algebra.specs.Bags.{Row}
use Rattle.bag_algebra.specs.Children.{step_of}
use Rattle.bag_algebra.specs.Expressions.{chain, arith_values, has_truth, all_true, some_true}
use Rattle.bag_algebra.specs.Outcome.{Outcome, Good, and_then, both_then, each}
use Rattle.bag_algebra.specs.declared.expr.ChainStep.{ChainStep}
use Rattle.row_values.specs.Answers.{Refuses}
use Rattle.row_values.specs.declared.error.ExecError.{ExecError}

-- whether the operator is AND or OR
abbrev pub is_connective : Operator → Bool
is_connective op.And = true
is_connective op.Or = true
is_connective op.Not = false
is_connective op.Negate = false
is_connective (op.Compare c) = false
is_connective (op.Arith c) = false
is_connective op.Like = false
is_connective op.Between = false
is_connective op.InList = false
is_connective op.Coalesce = false
is_connective op.NullIf = false

-- the truth of all values together, by AND or by OR
abbrev pub truth_of_all : Bool → List Value → Truth
truth_of_all true vs = all_true vs
truth_of_all false vs = some_true vs

abbrev pub together : Bool → List Value → Outcome Value
together all vs = Good (value_of (truth_of_all all vs))

-- a truth with that of one more value
abbrev pub joined : Bool → Truth → Value → Truth
joined true t v = truth_and t (truth_of v)
joined false t v = truth_or t (truth_of v)

-- a chain behind what its first part gives
abbrev pub chain_of : Outcome Value → List ChainStep → Row → List Row → List Value → Outcome Value
chain_of first steps u env subs = both_then first (each (step_of u env subs) steps) chain

-- what a chain came to, with one more step
abbrev pub gone_on : Outcome Value → Arith → Value → Outcome Value
gone_on o op operand = and_then o (λ v. arith_values op v operand)

-- NULL in the place of a value that isn't there
abbrev pub value_or_null : Option Value → Value
value_or_null found = unwrap_or found Null

abbrev pub null_test : Value → Value
null_test v = Boolean (is_null v)

abbrev pub truth_test : Truth → Value → Value
truth_test truth v = Boolean (has_truth truth v)

abbrev pub same_as : Value → Value → Value
same_as v w = Boolean (same_value v w)

-- what the arms of a CASE choose, whatever stands behind them: a value, or what stands behind them
abbrev pub Chooses : (Outcome Value → Outcome Value) → Result (Option Value) ExecError → Type 0
Chooses arms (Ok (Some v)) = (otherwise : Outcome Value) → arms otherwise ≡ Good v
Chooses arms (Ok None) = (otherwise : Outcome Value) → arms otherwise ≡ otherwise
Chooses arms (Err error) = (otherwise : Outcome Value) → Refuses (arms otherwise) error
