-- Which values hold: truths and tests as values, and both of two truths.
use Rattle.std.proofs.Common.{◌≡◌, Bool, true, false, ◌&&◌, refl}
use Rattle.null_logic.specs.Logic.{truth_and, truth_of, value_of, is_true}
use Rattle.null_logic.specs.declared.truth.Truth.{Truth}
use Rattle.null_logic.specs.declared.truth.Truth.TheVariants.{True, False, Unknown}
use Rattle.perm_values.specs.declared.value.Value.TheVariants.{Boolean}
use Rattle.bag_algebra.specs.Means.{holds_of}

pub holds-boolean : (b : Bool) → holds_of (Boolean b) ≡ b
holds-boolean true = refl
holds-boolean false = refl

pub holds-truth : (t : Truth) → holds_of (value_of t) ≡ is_true t
holds-truth True = refl
holds-truth False = refl
holds-truth Unknown = refl

pub truth_of-value : (t : Truth) → truth_of (value_of t) ≡ t
truth_of-value True = refl
truth_of-value False = refl
truth_of-value Unknown = refl

pub holds-both : (a b : Truth) → is_true (truth_of (value_of (truth_and a (truth_and b True)))) ≡ (is_true a && is_true b)
holds-both True True = refl
holds-both True False = refl
holds-both True Unknown = refl
holds-both False True = refl
holds-both False False = refl
holds-both False Unknown = refl
holds-both Unknown True = refl
holds-both Unknown False = refl
holds-both Unknown Unknown = refl
