-- Comparisons of values, BETWEEN and IN (ISO/IEC 9075-2, 'comparison predicate', 'between predicate', 'in predicate').
use Rattle.std.specs.Prelude.{Bool, true, false, cond, ◌||◌, List, [], ◌∷◌}
use Rattle.std.specs.declared.cmp.Ordering.{Ordering}
use Rattle.std.specs.declared.cmp.Ordering.TheVariants as order
use Rattle.null_logic.specs.Logic.{truth_and, truth_or, known}
use Rattle.null_logic.specs.declared.compare.Compare.{Compare}
use Rattle.null_logic.specs.declared.compare.Compare.TheVariants.{Equal, NotEqual, Less, LessEqual, Greater, GreaterEqual}
use Rattle.null_logic.specs.declared.truth.Truth.{Truth}
use Rattle.null_logic.specs.declared.truth.Truth.TheVariants.{False, Unknown}
use Rattle.perm_values.specs.Values.{value_cmp, is_null}
use Rattle.perm_values.specs.declared.value.Value.{Value}

-- whether the comparison holds of two values that stand in this order
abbrev pub holds : Compare → Ordering → Bool
holds Equal order.Less = false
holds Equal order.Equal = true
holds Equal order.Greater = false
holds NotEqual order.Less = true
holds NotEqual order.Equal = false
holds NotEqual order.Greater = true
holds Less order.Less = true
holds Less order.Equal = false
holds Less order.Greater = false
holds LessEqual order.Less = true
holds LessEqual order.Equal = true
holds LessEqual order.Greater = false
holds Greater order.Less = false
holds Greater order.Equal = false
holds Greater order.Greater = true
holds GreaterEqual order.Less = false
holds GreaterEqual order.Equal = true
holds GreaterEqual order.Greater = true

-- unknown beside NULL, otherwise by the order of values
abbrev pub compare_values : Compare → Value → Value → Truth
compare_values op a b = cond (is_null a || is_null b) Unknown (known (holds op (value_cmp a b)))

-- the comparison that holds where this one doesn't
abbrev pub opposite : Compare → Compare
opposite Equal = NotEqual
opposite NotEqual = Equal
opposite Less = GreaterEqual
opposite LessEqual = Greater
opposite Greater = LessEqual
opposite GreaterEqual = Less

-- the comparison that says the same of the operands in each other's place
abbrev pub mirrored : Compare → Compare
mirrored Equal = Equal
mirrored NotEqual = NotEqual
mirrored Less = Greater
mirrored LessEqual = GreaterEqual
mirrored Greater = Less
mirrored GreaterEqual = LessEqual

-- `a BETWEEN low AND high`
abbrev pub between : Value → Value → Value → Truth
between a low high = truth_and (compare_values GreaterEqual a low) (compare_values LessEqual a high)

-- `a IN (..)`
abbrev pub in_list : Value → List Value → Truth
in_list a [] = False
in_list a (v ∷ vs) = truth_or (compare_values Equal a v) (in_list a vs)
