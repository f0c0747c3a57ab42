-- What one more value at the end makes of the truth of all values so far.
use Rattle.std.proofs.Common.{◌≡◌, Bool, true, false, List, [], ◌∷◌, ◌++◌, refl, ap, ◌∙◌}
use Rattle.null_logic.specs.Comparison.{compare_values, in_list}
use Rattle.null_logic.specs.Logic.{truth_and, truth_or, truth_of}
use Rattle.null_logic.specs.declared.compare.Compare.TheVariants.{Equal}
use Rattle.null_logic.specs.declared.truth.Truth.{Truth}
use Rattle.null_logic.specs.declared.truth.Truth.TheVariants.{True, False, Unknown}
use Rattle.perm_values.specs.declared.value.Value.{Value}
use Rattle.bag_algebra.specs.Expressions.{all_true, some_true}
use Rattle.row_values.specs.Parts.{truth_of_all, joined}

pub and_turned : (a : Truth) → truth_and a True ≡ truth_and True a
and_turned True = refl
and_turned False = refl
and_turned Unknown = refl

pub or_turned : (a : Truth) → truth_or a False ≡ truth_or False a
or_turned True = refl
or_turned False = refl
or_turned Unknown = refl

pub and_associates : (a b c : Truth) → truth_and a (truth_and b c) ≡ truth_and (truth_and a b) c
and_associates True True True = refl
and_associates True True False = refl
and_associates True True Unknown = refl
and_associates True False True = refl
and_associates True False False = refl
and_associates True False Unknown = refl
and_associates True Unknown True = refl
and_associates True Unknown False = refl
and_associates True Unknown Unknown = refl
and_associates False True True = refl
and_associates False True False = refl
and_associates False True Unknown = refl
and_associates False False True = refl
and_associates False False False = refl
and_associates False False Unknown = refl
and_associates False Unknown True = refl
and_associates False Unknown False = refl
and_associates False Unknown Unknown = refl
and_associates Unknown True True = refl
and_associates Unknown True False = refl
and_associates Unknown True Unknown = refl
and_associates Unknown False True = refl
and_associates Unknown False False = refl
and_associates Unknown False Unknown = refl
and_associates Unknown Unknown True = refl
and_associates Unknown Unknown False = refl
and_associates Unknown Unknown Unknown = refl

pub or_associates : (a b c : Truth) → truth_or a (truth_or b c) ≡ truth_or (truth_or a b) c
or_associates True True True = refl
or_associates True True False = refl
or_associates True True Unknown = refl
or_associates True False True = refl
or_associates True False False = refl
or_associates True False Unknown = refl
or_associates True Unknown True = refl
or_associates True Unknown False = refl
or_associates True Unknown Unknown = refl
or_associates False True True = refl
or_associates False True False = refl
or_associates False True Unknown = refl
or_associates False False True = refl
or_associates False False False = refl
or_associates False False Unknown = refl
or_associates False Unknown True = refl
or_associates False Unknown False = refl
or_associates False Unknown Unknown = refl
or_associates Unknown True True = refl
or_associates Unknown True False = refl
or_associates Unknown True Unknown = refl
or_associates Unknown False True = refl
or_associates Unknown False False = refl
or_associates Unknown False Unknown = refl
or_associates Unknown Unknown True = refl
or_associates Unknown Unknown False = refl
or_associates Unknown Unknown Unknown = refl

all_true_more : (vs : List Value) (v : Value) → all_true (vs ++ v ∷ []) ≡ truth_and (all_true vs) (truth_of v)
all_true_more [] v = and_turned (truth_of v)
all_true_more (u ∷ vs) v = ap (truth_and (truth_of u)) (all_true_more vs v) ∙ and_associates _ _ _

some_true_more : (vs : List Value) (v : Value) → some_true (vs ++ v ∷ []) ≡ truth_or (some_true vs) (truth_of v)
some_true_more [] v = or_turned (truth_of v)
some_true_more (u ∷ vs) v = ap (truth_or (truth_of u)) (some_true_more vs v) ∙ or_associates _ _ _

pub together_more : (all : Bool) (vs : List Value) (v : Value) → truth_of_all all (vs ++ v ∷ []) ≡ joined all (truth_of_all all vs) v
together_more true vs v = all_true_more vs v
together_more false vs v = some_true_more vs v

pub in_list_more : (a : Value) (vs : List Value) (v : Value) → in_list a (vs ++ v ∷ []) ≡ truth_or (in_list a vs) (compare_values Equal a v)
in_list_more a [] v = or_turned (compare_values Equal a v)
in_list_more a (u ∷ vs) v = ap (truth_or (compare_values Equal a u)) (in_list_more a vs v) ∙ or_associates _ _ _
