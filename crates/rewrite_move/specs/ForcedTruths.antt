-- The truth that a condition forces on a sublink of its node: where a condition is true each conjunct of it is, and what stands under NOT
-- is false; where a disjunction is false so is each part of it, and what is tested for a truth has that truth where the test is true.
use Rattle.std.specs.Prelude.{◌≡◌, ⊤, ℕ, true, cond, ◌==◌, List, [], ◌∷◌, Option, Some, None}
use Rattle.null_logic.specs.Logic.{truth_not}
use Rattle.null_logic.specs.declared.operator.Operator.{Operator}
use Rattle.null_logic.specs.declared.operator.Operator.TheVariants as op
use Rattle.null_logic.specs.declared.truth.Truth.{Truth}
use Rattle.null_logic.specs.declared.truth.Truth.TheVariants.{True, False, Unknown}
use Rattle.perm_values.specs.declared.value.Value.{Value}
use Rattle.bag_algebra.specs.Expressions.{has_truth}
use Rattle.bag_algebra.specs.built.Patterns.{OpOf, ChainOf, CaseOf, IsNullOf, IsTruthOf, SameOf}
use Rattle.bag_algebra.specs.declared.expr.Expr.{Expr, Row_of-Expr, more_of-Expr, end_of-Expr}
use Rattle.bag_algebra.specs.declared.expr.Expr.TheVariants.{Col, Lit, Sub}

-- ---- what the truth of an operator says of its parts

-- of what has this truth, if one is known, something else is known where it is true
abbrev pub if_true : Option Truth → Truth → Option Truth
if_true None told = None
if_true (Some True) told = Some told
if_true (Some False) told = None
if_true (Some Unknown) told = None

abbrev pub if_false : Option Truth → Truth → Option Truth
if_false None told = None
if_false (Some True) told = None
if_false (Some False) told = Some told
if_false (Some Unknown) told = None

abbrev pub negated : Option Truth → Option Truth
negated None = None
negated (Some truth) = Some (truth_not truth)

-- of the first part, where the operator has this truth
abbrev pub of_first : Operator → Option Truth → Option Truth
of_first op.And known = if_true known True
of_first op.Or known = if_false known False
of_first op.Not known = negated known
of_first op.Negate known = None
of_first (op.Compare c) known = None
of_first (op.Arith c) known = None
of_first op.Like known = None
of_first op.Between known = None
of_first op.InList known = None
of_first op.Coalesce known = None
of_first op.NullIf known = None

-- of each part behind the first; NOT has none
abbrev pub of_others : Operator → Option Truth → Option Truth
of_others op.And known = if_true known True
of_others op.Or known = if_false known False
of_others op.Not known = None
of_others op.Negate known = None
of_others (op.Compare c) known = None
of_others (op.Arith c) known = None
of_others op.Like known = None
of_others op.Between known = None
of_others op.InList known = None
of_others op.Coalesce known = None
of_others op.NullIf known = None

-- ---- what it forces

abbrev pub first_of : Option Truth → Option Truth → Option Truth
first_of None other = other
first_of (Some truth) other = Some truth

-- the truth of the sublink of this number, where the expression has that truth, if one is known
abbrev mutual
  pub forced : Option Truth → Expr → ℕ → Option Truth
  forced known (Col level place) at = None
  forced known (Lit v kind) at = None
  forced known (OpOf op _ parts) at = parts_forced (of_first op known) (of_others op known) parts at
  forced known (ChainOf first _ steps) at = None
  forced known (CaseOf _ arms otherwise) at = None
  forced known (Sub number) at = cond (number == at) known None
  forced known (IsNullOf part) at = None
  forced known (IsTruthOf truth part) at = forced (if_true known truth) part at
  forced known (SameOf first second) at = None

  pub parts_forced : {m : _} → (first others : Option Truth) → Row_of-Expr m → ℕ → Option Truth
  parts_forced first others end_of-Expr at = None
  parts_forced first others (more_of-Expr part parts) at = first_of (forced first part at) (parts_forced others others parts at)

-- the truth that the sublink of this number has wherever the condition is true, if it forces one
abbrev pub forces : Expr → ℕ → Option Truth
forces condition at = forced (Some True) condition at

-- of a list of parts
abbrev pub all_forced : (first others : Option Truth) → List Expr → ℕ → Option Truth
all_forced first others [] at = None
all_forced first others (part ∷ parts) at = first_of (forced first part at) (all_forced others others parts at)

-- ---- what is known of a value

abbrev pub HasTruth : Option Truth → Value → Type 0
HasTruth None v = ⊤
HasTruth (Some truth) v = has_truth truth v ≡ true
