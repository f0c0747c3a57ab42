-- When what the constructors of code make can be written, by plain lists of children; and a loop over a list.
use Rattle.std.proofs.Common.{◌≡◌, ℕ, ◌+◌, ◌<◌, List, [], ◌∷◌, length, get_or, drop, sym, subst}
use Rattle.std.specs.List.{AllByRecursion}
use Rattle.null_logic.specs.declared.operator.Operator.{Operator}
use Rattle.null_logic.specs.declared.truth.Truth.{Truth}
use Rattle.bag_algebra.specs.built.Openings.{row_of_parts, row_of_steps, row_of_arms, Chain-is, Case-is, IsNull-is, IsTruth-is, Same-is}
use Rattle.bag_algebra.specs.declared.expr.Arm.{Arm}
use Rattle.bag_algebra.specs.declared.expr.ChainStep.{ChainStep}
use Rattle.bag_algebra.specs.declared.expr.Expr.{Expr}
use Rattle.bag_algebra.specs.declared.expr.Expr.TheBlock.{shape-the_row-Expr-0, hidden-the_row-Expr-0, shape-the_row-ChainStep-2, hidden-the_row-ChainStep-2, shape-the_row-Arm-3, hidden-the_row-Arm-3}
use Rattle.bag_algebra.specs.declared.expr.Expr.TheVariants.{Op, Chain, Case, IsNull, IsTruth, Same}
use Rattle.bag_algebra.proofs.Rest.{from_here}
use Rattle.sql_printer.specs.rows.Writable.{Writable, WritableArms, WritableParts, WritableSteps}
use Rattle.sql_printer.specs.forms.Printable.{WritableArm, WritableStep}

parts-opened : (parts : List Expr) → AllByRecursion Writable parts → WritableParts (row_of_parts parts)
unfolding shape-the_row-Expr-0 hidden-the_row-Expr-0 package.denote.Hole.Carrier.hidden
parts-opened [] w = tt
parts-opened (part ∷ parts) w = (w.0, parts-opened parts w.1)

steps-opened : (steps : List ChainStep) → AllByRecursion WritableStep steps → WritableSteps (row_of_steps steps)
unfolding shape-the_row-ChainStep-2 hidden-the_row-ChainStep-2 package.denote.Hole.Carrier.hidden
steps-opened [] w = tt
steps-opened (step ∷ steps) w = (w.0, steps-opened steps w.1)

arms-opened : (arms : List Arm) → AllByRecursion WritableArm arms → WritableArms (row_of_arms arms)
unfolding shape-the_row-Arm-3 hidden-the_row-Arm-3 package.denote.Hole.Carrier.hidden
arms-opened [] w = tt
arms-opened (arm ∷ arms) w = (w.0.0, w.0.1, arms-opened arms w.1)

pub writable-Op : (op : Operator) (parts : List Expr) → AllByRecursion Writable parts → Writable (Op op parts)
writable-Op op parts w = parts-opened parts w

pub writable-Chain : (first : Expr) (steps : List ChainStep) → Writable first → AllByRecursion WritableStep steps → Writable (Chain first steps)
writable-Chain first steps w v = subst Writable (sym (Chain-is first steps)) (w, steps-opened steps v)

pub writable-Case : (arms : List Arm) (otherwise : Expr) → AllByRecursion WritableArm arms → Writable otherwise → Writable (Case arms otherwise)
writable-Case arms otherwise w v = subst Writable (sym (Case-is arms otherwise)) (arms-opened arms w, v)

pub writable-IsNull : (part : Expr) → Writable part → Writable (IsNull part)
writable-IsNull part w = subst Writable (sym (IsNull-is part)) w

pub writable-IsTruth : (truth : Truth) (part : Expr) → Writable part → Writable (IsTruth truth part)
writable-IsTruth truth part w = subst Writable (sym (IsTruth-is truth part)) w

pub writable-Same : (first second : Expr) → Writable first → Writable second → Writable (Same first second)
writable-Same first second w v = subst Writable (sym (Same-is first second)) (w, v)

-- ---- loops

-- what a list owes to its rest at a place it owes to the item there and the rest behind it
pub owed-here : {X : Type 0} (P : List X → Type 0) (xs : List X) (i : ℕ) (x : X) → i < length xs → x ≡ get_or xs i x
    → (P (drop i xs) → P xs) → P (x ∷ drop (i + 1) xs) → P xs
owed-here P xs i x within is owed here = owed (subst P (sym (from_here (λ l. l) xs i x within is)) here)
