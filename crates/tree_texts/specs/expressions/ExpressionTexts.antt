-- The text of an expression, piece by piece, where each sublink has its text.
use Rattle.std.specs.Prelude.{ℕ, ◌+◌, Bool, true, cond, List, [], ◌∷◌, ◌++◌, map, length, slice_index_or, codes}
use Rattle.std.specs.List.{flat_map}
use Rattle.null_logic.specs.declared.arith.Arith.{Arith}
use Rattle.null_logic.specs.declared.operator.Operator.{Operator}
use Rattle.null_logic.specs.declared.truth.Truth.{Truth}
use Rattle.null_logic.specs.declared.truth.Truth.TheVariants.{True, False, Unknown}
use Rattle.bag_algebra.specs.WellFormed.{is_additive}
use Rattle.bag_algebra.specs.built.Patterns.{OpOf, ChainOf, CaseOf, IsNullOf, IsTruthOf, SameOf}
use Rattle.bag_algebra.specs.declared.expr.Arm.{Arm}
use Rattle.bag_algebra.specs.declared.expr.ChainStep.{ChainStep}
use Rattle.bag_algebra.specs.declared.expr.Expr.{Expr, Row_of-Expr, Row_of-Arm, Row_of-ChainStep, more_of-Expr, end_of-Expr, more_of-Arm, end_of-Arm, more_of-ChainStep, end_of-ChainStep}
use Rattle.bag_algebra.specs.declared.expr.Expr.TheVariants.{Col, Lit, Sub}
use Rattle.tree_texts.specs.expressions.Words.{reference_text, literal_text, unsaid_text, is_said, front, first_between, later_between, back, separated, chain_word, unless_none}

-- an operator with so many parts
abbrev pub operated_with : Operator → ℕ → List (List ℕ) → List ℕ
operated_with op count parts =
    cond (is_said op count) (front op count ++ (separated (first_between op count) (later_between op) 0 parts ++ back op count)) unsaid_text

abbrev pub operated_text : Operator → List (List ℕ) → List ℕ
operated_text op parts = operated_with op (length parts) parts

pub record StepText : Type 0 where
  pub op : Arith
  pub part : List ℕ

-- of which level a chain is
abbrev pub level_of : List StepText → Bool
level_of [] = true
level_of (step ∷ steps) = is_additive step.op

abbrev pub step_text : Bool → StepText → List ℕ
step_text additive step = chain_word additive step.op ++ step.part

abbrev pub steps_text : Bool → List StepText → List ℕ
steps_text additive steps = flat_map (step_text additive) steps

-- a chain of a level, with so many steps
abbrev pub chained_with : Bool → ℕ → List ℕ → List StepText → List ℕ
chained_with additive count first steps =
    unless_none count (codes "( ") ++ (first ++ (steps_text additive steps ++ unless_none count (codes ") ")))

abbrev pub chained_text : List ℕ → List StepText → List ℕ
chained_text first steps = chained_with (level_of steps) (length steps) first steps

pub record ArmText : Type 0 where
  pub condition : List ℕ
  pub value : List ℕ

abbrev pub arm_text : ArmText → List ℕ
arm_text arm = codes "WHEN " ++ (arm.condition ++ (codes "THEN " ++ arm.value))

abbrev pub arms_text : List ArmText → List ℕ
arms_text arms = flat_map arm_text arms

-- a CASE with so many arms
abbrev pub cases_with : ℕ → List ArmText → List ℕ → List ℕ
cases_with count arms otherwise =
    unless_none count (codes "CASE ") ++ (arms_text arms ++ (unless_none count (codes "ELSE ") ++ (otherwise ++ unless_none count (codes "END "))))

abbrev pub cases_text : List ArmText → List ℕ → List ℕ
cases_text arms otherwise = cases_with (length arms) arms otherwise

abbrev pub truth_front : Truth → List ℕ
truth_front True = codes "( "
truth_front False = codes "( "
truth_front Unknown = codes "( ( NOT "

abbrev pub truth_back : Truth → List ℕ
truth_back True = codes "IS TRUE ) "
truth_back False = codes "IS FALSE ) "
truth_back Unknown = codes ") IS NULL ) "

abbrev mutual
  pub expr_bytes : List ℕ → List (List ℕ) → Expr → List ℕ
  expr_bytes prefix subs (Col level place) = reference_text prefix level (place + 1)
  expr_bytes prefix subs (Lit v kind) = literal_text v kind
  expr_bytes prefix subs (OpOf op _ parts) = operated_text op (part_texts prefix subs parts)
  expr_bytes prefix subs (ChainOf first _ steps) = chained_text (expr_bytes prefix subs first) (step_texts prefix subs steps)
  expr_bytes prefix subs (CaseOf _ arms otherwise) = cases_text (arm_texts prefix subs arms) (expr_bytes prefix subs otherwise)
  expr_bytes prefix subs (Sub number) = slice_index_or subs number unsaid_text
  expr_bytes prefix subs (IsNullOf part) = codes "( " ++ (expr_bytes prefix subs part ++ codes "IS NULL ) ")
  expr_bytes prefix subs (IsTruthOf truth part) = truth_front truth ++ (expr_bytes prefix subs part ++ truth_back truth)
  expr_bytes prefix subs (SameOf first second) =
      codes "( " ++ (expr_bytes prefix subs first ++ (codes "IS NOT DISTINCT FROM " ++ (expr_bytes prefix subs second ++ codes ") ")))

  pub part_texts : List ℕ → List (List ℕ) → {m : _} → Row_of-Expr m → List (List ℕ)
  part_texts prefix subs end_of-Expr = []
  part_texts prefix subs (more_of-Expr part parts) = expr_bytes prefix subs part ∷ part_texts prefix subs parts

  pub step_texts : List ℕ → List (List ℕ) → {m : _} → Row_of-ChainStep m → List StepText
  step_texts prefix subs end_of-ChainStep = []
  step_texts prefix subs (more_of-ChainStep op part steps) =
      record { op = op; part = expr_bytes prefix subs part } ∷ step_texts prefix subs steps

  pub arm_texts : List ℕ → List (List ℕ) → {m : _} → Row_of-Arm m → List ArmText
  arm_texts prefix subs end_of-Arm = []
  arm_texts prefix subs (more_of-Arm condition arm arms) =
      record { condition = expr_bytes prefix subs condition; value = expr_bytes prefix subs arm } ∷ arm_texts prefix subs arms

-- ---- on plain lists of children

-- of which level a chain is, by its first step
abbrev pub first_level : List ChainStep → Bool
first_level [] = true
first_level (step ∷ steps) = is_additive step.op

module _ (prefix : List ℕ) (subs : List (List ℕ)) where
  abbrev pub texts_of : List Expr → List (List ℕ)
  texts_of parts = map (expr_bytes prefix subs) parts

  abbrev pub step_text_of : ChainStep → StepText
  step_text_of step = record { op = step.op; part = expr_bytes prefix subs step.part }

  abbrev pub steps_of : List ChainStep → List StepText
  steps_of steps = map step_text_of steps

  abbrev pub arm_text_of : Arm → ArmText
  arm_text_of arm = record { condition = expr_bytes prefix subs arm.condition; value = expr_bytes prefix subs arm.value }

  abbrev pub arms_of : List Arm → List ArmText
  arms_of arms = map arm_text_of arms

  abbrev pub operated_on : Operator → List Expr → List ℕ
  operated_on op parts = operated_with op (length parts) (texts_of parts)

  -- the steps of a chain, and what closes it
  abbrev pub steps_on : List ChainStep → List ℕ
  steps_on steps = steps_text (first_level steps) (steps_of steps) ++ unless_none (length steps) (codes ") ")

  -- the arms of a CASE, and what stands around them
  abbrev pub arms_on : List Arm → List ℕ
  arms_on arms = unless_none (length arms) (codes "CASE ") ++ (arms_text (arms_of arms) ++ unless_none (length arms) (codes "ELSE "))
