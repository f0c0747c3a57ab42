-- IN and NOT IN, from whether a value equals some.
use Rattle.std.proofs.Common.{◌≡◌, true, IsTrue, sym, ap, ◌∙◌, true≢false}
use Rattle.null_logic.specs.Logic.{value_of}
use Rattle.null_logic.specs.declared.compare.Compare.{Compare}
use Rattle.null_logic.specs.declared.compare.Compare.TheVariants.{Equal, NotEqual, Less, LessEqual, Greater, GreaterEqual}
use Rattle.null_logic.specs.declared.truth.Truth.{Truth}
use Rattle.perm_values.specs.declared.value.Value.{Value}
use Rattle.bag_algebra.specs.Bags.{Bag}
use Rattle.bag_algebra.specs.Means.{sub_value, some_of, comparisons}
use Rattle.bag_algebra.specs.Outcome.{Good}
use Rattle.bag_algebra.specs.declared.query.SubKind.{SubKind}
use Rattle.bag_algebra.specs.declared.query.SubKind.TheVariants.{Exists, Any, All, Scalar}
use Rattle.row_joins.specs.Equated.{is_equality}
use Rattle.row_joins.proofs.Among.{differs_from_all}
use Rattle.row_nodes.specs.Known.{is_not_equal, tests_equality, turned}

some_value : (c : Compare) (x : Value) (vs : Bag) (truth : Truth) → is_equality c ≡ true → truth ≡ some_of (comparisons Equal x vs) → sub_value (Any c) x vs ≡ Good (value_of truth)
some_value Equal x vs truth h e = ap (λ t. Good (value_of t)) (sym e)
some_value NotEqual x vs truth h e = absurd (true≢false (sym h))
some_value Less x vs truth h e = absurd (true≢false (sym h))
some_value LessEqual x vs truth h e = absurd (true≢false (sym h))
some_value Greater x vs truth h e = absurd (true≢false (sym h))
some_value GreaterEqual x vs truth h e = absurd (true≢false (sym h))

all_value : (c : Compare) (x : Value) (vs : Bag) (truth : Truth) → is_not_equal c ≡ true → truth ≡ some_of (comparisons Equal x vs) →
    sub_value (All c) x vs ≡ Good (value_of (turned (All c) truth))
all_value Equal x vs truth h e = absurd (true≢false (sym h))
all_value NotEqual x vs truth h e = ap (λ t. Good (value_of t)) (differs_from_all x vs ∙ ap (turned (All NotEqual)) (sym e))
all_value Less x vs truth h e = absurd (true≢false (sym h))
all_value LessEqual x vs truth h e = absurd (true≢false (sym h))
all_value Greater x vs truth h e = absurd (true≢false (sym h))
all_value GreaterEqual x vs truth h e = absurd (true≢false (sym h))

pub equality_value : (kind : SubKind) (x : Value) (vs : Bag) (truth : Truth) → IsTrue (tests_equality kind) → truth ≡ some_of (comparisons Equal x vs) →
    sub_value kind x vs ≡ Good (value_of (turned kind truth))
equality_value Exists x vs truth h e = absurd (true≢false (sym h))
equality_value (Any c) x vs truth h e = some_value c x vs truth h e
equality_value (All c) x vs truth h e = all_value c x vs truth h e
equality_value Scalar x vs truth h e = absurd (true≢false (sym h))
