-- What the tree of each compound form means: its step, over the trees of its parts.
use Rattle.std.proofs.Common.{◌≡◌, Bool, true, false, List, [], ◌∷◌, map, Some, refl, sym, ap, ◌∙◌, true≢false}
use Rattle.null_logic.specs.declared.arith.Arith.{Arith}
use Rattle.null_logic.specs.declared.arith.Arith.TheVariants as arithmetic
use Rattle.null_logic.specs.declared.compare.Compare.{Compare}
use Rattle.null_logic.specs.declared.compare.Compare.TheVariants as comparison
use Rattle.null_logic.specs.declared.operator.Operator.TheVariants as x
use Rattle.null_logic.specs.declared.truth.Truth.{Truth}
use Rattle.perm_values.specs.declared.kind.Kind.TheVariants.{Integer, Boolean}
use Rattle.bag_algebra.specs.WellFormed.{is_additive}
use Rattle.bag_algebra.specs.declared.expr.Expr.TheVariants.{Op, IsNull, IsTruth, Same}
use Rattle.perm_catalog.specs.Contents.{Contents}
use Rattle.sql_tree.specs.declared.expression.ArmTree.{ArmTree}
use Rattle.sql_tree.specs.declared.expression.ExprStep.{ExprStep}
use Rattle.sql_tree.specs.declared.expression.ExprTree.{ExprTree}
use Rattle.name_meaning.proofs.Equations.{token, armtree-record, exprstep-record}
use Rattle.name_meaning.proofs.Forms.{means-paren, means-nots, means-signs, means-logic, means-chain, means-compared, means-like, means-between, means-inlist, means-isnull, means-istruth, means-isdistinct, means-case-some, means-coalesce, means-nullif}
use Rattle.name_meaning.specs.Expressions.{ArmPart, StepPart, case_meant, chain_gives, chain_made, first_need, first_of, second_of, step_operand, times}
use Rattle.name_meaning.specs.Meanings.{Meant, Part, Surroundings, means_at}
use Rattle.name_meaning.specs.Operands.{gives_of, need_of, node, operand, operated}
use Rattle.name_meaning.specs.Trees.{arm_of, part_of, step_of}
use Rattle.name_meaning.specs.declared.need.Gives.TheVariants.{Always as always, Common as common}
use Rattle.name_meaning.specs.declared.need.Need.TheVariants.{OfKind as of_kind, Alike as alike, Free as free}
use Rattle.tree_texts.specs.Forms as f
use Rattle.tree_texts.specs.Forms.{ExprForm, CompoundForm}
use Rattle.tree_texts.specs.Trees.{IsExpr, IsCompound, AreExprs, AreTerms, AreFactors, AreArms, enclosed_tree, case_tree, coalesce_tree, null_if_tree, negative_tree, added_tree, multiplied_tree, compared_tree, like_tree, between_tree, in_list_tree, is_null_tree, is_truth_tree, is_distinct_tree, negated_tree, each_of_tree, one_of_tree, no_expr_trees, an_expr_tree, term_tree, no_term_trees, a_term_tree, factor_tree, no_factor_trees, a_factor_tree, no_arm_trees, an_arm_tree, sum_of, product_of}
use Rattle.query_texts.specs.forms.ShownExpressions.{StepForm, ArmForm, others, terms, factors, arms_of, additive_of, multiplicative_of, chain_of}
use Rattle.sql_printer.proofs.rows.RelatedOutcomes.{Along}

-- ---- the table of operators

pub compare-row : (op : Compare) → (need_of (x.Compare op) false ≡ alike) × (gives_of (x.Compare op) false ≡ always Boolean)
compare-row comparison.Equal = (refl, refl)
compare-row comparison.NotEqual = (refl, refl)
compare-row comparison.Less = (refl, refl)
compare-row comparison.LessEqual = (refl, refl)
compare-row comparison.Greater = (refl, refl)
compare-row comparison.GreaterEqual = (refl, refl)

pub arith-row : (op : Arith) → (need_of (x.Arith op) false ≡ of_kind Integer) × (gives_of (x.Arith op) false ≡ always Integer)
arith-row arithmetic.Add = (refl, refl)
arith-row arithmetic.Subtract = (refl, refl)
arith-row arithmetic.Multiply = (refl, refl)
arith-row arithmetic.Divide = (refl, refl)
arith-row arithmetic.Remainder = (refl, refl)

-- ---- lists

pub others-along : (forms : List ExprForm) {trees : List ExprTree} → AreExprs (others forms) trees → Along IsExpr forms trees
others-along [] no_expr_trees = tt
others-along (a ∷ more) (an_expr_tree d ds) = (d, others-along more ds)

-- the trees of the parts, and what is made of what they mean
pub record Opened (c : Contents) (here : Surroundings) (parts : List ExprForm) (tree : ExprTree) (meant : List Part → Meant) : Type 0 where
  pub trees : List ExprTree
  pub all : Along IsExpr parts trees
  pub is : (part_of c tree).means here ≡ meant (map (part_of c) trees)

module _ (c : Contents) (here : Surroundings) where
  -- ---- parentheses

  pub record Inside (form : CompoundForm) (tree : ExprTree) : Type 0 where
    pub inner : ExprTree
    pub compound : IsCompound form inner
    pub is : (part_of c tree).means here ≡ (part_of c inner).means here

  pub inside : {form : CompoundForm} {tree : ExprTree} → IsExpr (f.enclosed form) tree → Inside form tree
  unfolding means_at
  inside {tree = tree} (enclosed_tree {x = inner} d is) = record { inner = inner; compound = d; is = means-paren c here tree inner is }

  -- what stands in parentheses means the same
  pub within : {parts : List ExprForm} {tree inner : ExprTree} {meant : List Part → Meant} → (part_of c tree).means here ≡ (part_of c inner).means here
      → Opened c here parts inner meant → Opened c here parts tree meant
  within is o = record { trees = o.trees; all = o.all; is = is ∙ o.is }

  -- ---- compound forms

  pub opened-negative : {a : ExprForm} {tree : ExprTree} → IsCompound (f.negative a) tree
      → Opened c here (a ∷ []) tree (operated x.Negate true (λ es. times x.Negate 1 (first_of es)) here)
  unfolding means_at
  opened-negative {tree = tree} (negative_tree {x = y} d is) = record { trees = y ∷ []; all = (d, tt); is = means-signs c here tree 1 y is }

  pub opened-negated : {a : ExprForm} {tree : ExprTree} → IsCompound (f.negated a) tree
      → Opened c here (a ∷ []) tree (operated x.Not true (λ es. times x.Not 1 (first_of es)) here)
  unfolding means_at
  opened-negated {tree = tree} (negated_tree {x = y} d is) = record { trees = y ∷ []; all = (d, tt); is = means-nots c here tree 1 y is }

  pub opened-each : {a b : ExprForm} (more : List ExprForm) {tree : ExprTree} → IsCompound (f.each_of a b (others more)) tree
      → Opened c here (a ∷ b ∷ more) tree (operated x.And false (Op x.And) here)
  unfolding means_at
  opened-each more {tree = tree} (each_of_tree {x = y} {y = z} {trees = trees} d e ds is) = record {
    trees = y ∷ z ∷ trees;
    all = (d, (e, others-along more ds));
    is = means-logic c here tree x.And (y ∷ z ∷ trees) is;
  }

  pub opened-one : {a b : ExprForm} (more : List ExprForm) {tree : ExprTree} → IsCompound (f.one_of a b (others more)) tree
      → Opened c here (a ∷ b ∷ more) tree (operated x.Or false (Op x.Or) here)
  unfolding means_at
  opened-one more {tree = tree} (one_of_tree {x = y} {y = z} {trees = trees} d e ds is) = record {
    trees = y ∷ z ∷ trees;
    all = (d, (e, others-along more ds));
    is = means-logic c here tree x.Or (y ∷ z ∷ trees) is;
  }

  pub opened-compared : {op : Compare} {a b : ExprForm} {tree : ExprTree} → IsCompound (f.compared op a b) tree
      → Opened c here (a ∷ b ∷ []) tree (operated (x.Compare op) false (Op (x.Compare op)) here)
  unfolding means_at
  opened-compared {op = op} {tree = tree} (compared_tree {x = y} {y = z} d e is) =
      record { trees = y ∷ z ∷ []; all = (d, (e, tt)); is = means-compared c here tree op y z is }

  pub opened-like : {a b : ExprForm} {tree : ExprTree} → IsCompound (f.like false a b) tree
      → Opened c here (a ∷ b ∷ []) tree (operated x.Like false (Op x.Like) here)
  unfolding means_at
  opened-like {tree = tree} (like_tree {x = y} {y = z} d e is) =
      record { trees = y ∷ z ∷ []; all = (d, (e, tt)); is = means-like c here tree false y z is }

  pub opened-between : {a b o : ExprForm} {tree : ExprTree} → IsCompound (f.between false a b o) tree
      → Opened c here (a ∷ b ∷ o ∷ []) tree (operated x.Between false (Op x.Between) here)
  unfolding means_at
  opened-between {tree = tree} (between_tree {x = y} {y = z} {z = w} d e g is) =
      record { trees = y ∷ z ∷ w ∷ []; all = (d, (e, (g, tt))); is = means-between c here tree false y z w is }

  pub opened-list : {a b : ExprForm} (more : List ExprForm) {tree : ExprTree} → IsCompound (f.in_list false a b (others more)) tree
      → Opened c here (a ∷ b ∷ more) tree (operated x.InList false (Op x.InList) here)
  unfolding means_at
  opened-list more {tree = tree} (in_list_tree {x = y} {y = z} {trees = trees} d e ds is) = record {
    trees = y ∷ z ∷ trees;
    all = (d, (e, others-along more ds));
    is = means-inlist c here tree false y (z ∷ trees) is;
  }

  pub opened-null : {a : ExprForm} {tree : ExprTree} → IsCompound (f.is_null false a) tree
      → Opened c here (a ∷ []) tree (λ parts. node (always Boolean) (λ es. IsNull (first_of es)) (map (operand here free) parts))
  unfolding means_at
  opened-null {tree = tree} (is_null_tree {x = y} d is) = record { trees = y ∷ []; all = (d, tt); is = means-isnull c here tree false y is }

  pub opened-truth : {truth : Truth} {a : ExprForm} {tree : ExprTree} → IsCompound (f.is_truth false truth a) tree
      → Opened c here (a ∷ []) tree (λ parts. node (always Boolean) (λ es. IsTruth truth (first_of es)) (map (operand here (of_kind Boolean)) parts))
  unfolding means_at
  opened-truth {truth = truth} {tree = tree} (is_truth_tree {x = y} d is) =
      record { trees = y ∷ []; all = (d, tt); is = means-istruth c here tree false truth y is }

  pub opened-same : {a b : ExprForm} {tree : ExprTree} → IsCompound (f.is_distinct true a b) tree
      → Opened c here (a ∷ b ∷ []) tree (λ parts. node (always Boolean) (λ es. Same (first_of es) (second_of es)) (map (operand here alike) parts))
  unfolding means_at
  opened-same {tree = tree} (is_distinct_tree {x = y} {y = z} d e is) =
      record { trees = y ∷ z ∷ []; all = (d, (e, tt)); is = means-isdistinct c here tree true y z is }

  pub opened-coalesce : {a : ExprForm} (more : List ExprForm) {tree : ExprTree} → IsExpr (f.coalesce a (others more)) tree
      → Opened c here (a ∷ more) tree (λ parts. node common (Op x.Coalesce) (map (operand here alike) parts))
  unfolding means_at
  opened-coalesce more {tree = tree} (coalesce_tree {x = y} {trees = trees} d ds is) =
      record { trees = y ∷ trees; all = (d, others-along more ds); is = means-coalesce c here tree (y ∷ trees) is }

  pub opened-null_if : {a b : ExprForm} {tree : ExprTree} → IsExpr (f.null_if a b) tree
      → Opened c here (a ∷ b ∷ []) tree (λ parts. node common (Op x.NullIf) (map (operand here alike) parts))
  unfolding means_at
  opened-null_if {tree = tree} (null_if_tree {x = y} {y = z} d e is) =
      record { trees = y ∷ z ∷ []; all = (d, (e, tt)); is = means-nullif c here tree y z is }

-- ---- chains

-- the tree of a step has its operator and a tree of its part
pub record IsStepTree (form : StepForm) (tree : ExprStep) : Type 0 where
  pub op_is : tree.op ≡ form.op
  pub part : IsExpr form.part tree.part

sum-of : (op : Arith) → is_additive op ≡ true → sum_of (additive_of op) ≡ op
sum-of arithmetic.Add e = refl
sum-of arithmetic.Subtract e = refl
sum-of arithmetic.Multiply e = absurd (true≢false (sym e))
sum-of arithmetic.Divide e = absurd (true≢false (sym e))
sum-of arithmetic.Remainder e = absurd (true≢false (sym e))

product-of : (op : Arith) → is_additive op ≡ false → product_of (multiplicative_of op) ≡ op
product-of arithmetic.Add e = absurd (true≢false e)
product-of arithmetic.Subtract e = absurd (true≢false e)
product-of arithmetic.Multiply e = refl
product-of arithmetic.Divide e = refl
product-of arithmetic.Remainder e = refl

-- all steps are of one level
abbrev pub OfLevel : Bool → List StepForm → Type 0
OfLevel additive [] = Unit {0}
OfLevel additive (step ∷ steps) = (is_additive step.op ≡ additive) × OfLevel additive steps

terms-along : (steps : List StepForm) → OfLevel true steps → {trees : List ExprStep} → AreTerms (terms steps) trees → Along IsStepTree steps trees
terms-along [] h no_term_trees = tt
terms-along (step ∷ steps) h (a_term_tree (term_tree is d) ds) =
    (record { op_is = is ∙ sum-of step.op h.0; part = d }, terms-along steps h.1 ds)

factors-along : (steps : List StepForm) → OfLevel false steps → {trees : List ExprStep} → AreFactors (factors steps) trees → Along IsStepTree steps trees
factors-along [] h no_factor_trees = tt
factors-along (step ∷ steps) h (a_factor_tree (factor_tree is d) ds) =
    (record { op_is = is ∙ product-of step.op h.0; part = d }, factors-along steps h.1 ds)

abbrev pub step_part : Contents → ExprStep → StepPart
step_part c tree = record { op = tree.op; part = part_of c tree.part }

pub step-is : (c : Contents) (tree : ExprStep) → step_of c tree ≡ step_part c tree
unfolding token
step-is c tree = exprstep-record c tree.op tree.part

steps-are : (c : Contents) (trees : List ExprStep) → map (step_of c) trees ≡ map (step_part c) trees
steps-are c [] = refl
steps-are c (tree ∷ trees) = λ i. step-is c tree i ∷ steps-are c trees i

abbrev pub chain_meant : Surroundings → Part → List StepPart → Meant
chain_meant here first steps =
    node (chain_gives steps) (chain_made steps) (operand here (first_need steps) first ∷ map (step_operand here) steps)

pub record OpenedChain (c : Contents) (here : Surroundings) (first : ExprForm) (steps : List StepForm) (tree : ExprTree) : Type 0 where
  pub start : ExprTree
  pub start_is : IsExpr first start
  pub trees : List ExprStep
  pub all : Along IsStepTree steps trees
  pub is : (part_of c tree).means here ≡ chain_meant here (part_of c start) (map (step_part c) trees)

module _ (c : Contents) (here : Surroundings) where
  opened-added : (a : ExprForm) (step : StepForm) (steps : List StepForm) → is_additive step.op ≡ true → OfLevel true steps → {tree : ExprTree}
      → IsCompound (f.added a (additive_of step.op) step.part (terms steps)) tree → OpenedChain c here a (step ∷ steps) tree
  unfolding means_at
  opened-added a step steps h hs {tree = tree} (added_tree {x = y} {step = first} {steps = more} d (term_tree is own) ds whole) = record {
    start = y;
    start_is = d;
    trees = first ∷ more;
    all = (record { op_is = is ∙ sum-of step.op h; part = own }, terms-along steps hs ds);
    is = means-chain c here tree y (first ∷ more) whole ∙ ap (chain_meant here (part_of c y)) (steps-are c (first ∷ more));
  }

  opened-multiplied : (a : ExprForm) (step : StepForm) (steps : List StepForm) → is_additive step.op ≡ false → OfLevel false steps → {tree : ExprTree}
      → IsCompound (f.multiplied a (multiplicative_of step.op) step.part (factors steps)) tree → OpenedChain c here a (step ∷ steps) tree
  unfolding means_at
  opened-multiplied a step steps h hs {tree = tree} (multiplied_tree {x = y} {step = first} {steps = more} d (factor_tree is own) ds whole) = record {
    start = y;
    start_is = d;
    trees = first ∷ more;
    all = (record { op_is = is ∙ product-of step.op h; part = own }, factors-along steps hs ds);
    is = means-chain c here tree y (first ∷ more) whole ∙ ap (chain_meant here (part_of c y)) (steps-are c (first ∷ more));
  }

  chain-in_parentheses : {a : ExprForm} {steps : List StepForm} {tree inner : ExprTree} → (part_of c tree).means here ≡ (part_of c inner).means here
      → OpenedChain c here a steps inner → OpenedChain c here a steps tree
  chain-in_parentheses is o = record { start = o.start; start_is = o.start_is; trees = o.trees; all = o.all; is = is ∙ o.is }

  pub opened-chain : (additive : Bool) (a : ExprForm) (step : StepForm) (steps : List StepForm) → is_additive step.op ≡ additive → OfLevel additive steps
      → {tree : ExprTree} → IsExpr (chain_of additive a step steps) tree → OpenedChain c here a (step ∷ steps) tree
  opened-chain true a step steps h hs d =
      let i = inside c here d in chain-in_parentheses i.is (opened-added a step steps h hs i.compound)
  opened-chain false a step steps h hs d =
      let i = inside c here d in chain-in_parentheses i.is (opened-multiplied a step steps h hs i.compound)

-- ---- CASE

pub record IsArmTree (form : ArmForm) (tree : ArmTree) : Type 0 where
  pub condition : IsExpr form.condition tree.condition
  pub value : IsExpr form.value tree.value

arms-along : (arms : List ArmForm) {trees : List ArmTree} → AreArms (arms_of arms) trees → Along IsArmTree arms trees
arms-along [] no_arm_trees = tt
arms-along (arm ∷ arms) (an_arm_tree d e ds) = (record { condition = d; value = e }, arms-along arms ds)

abbrev pub arm_part : Contents → ArmTree → ArmPart
arm_part c tree = record { condition = part_of c tree.condition; value = part_of c tree.value }

pub arm-is : (c : Contents) (tree : ArmTree) → arm_of c tree ≡ arm_part c tree
unfolding token
arm-is c tree = armtree-record c tree.condition tree.value

arms-are : (c : Contents) (trees : List ArmTree) → map (arm_of c) trees ≡ map (arm_part c) trees
arms-are c [] = refl
arms-are c (tree ∷ trees) = λ i. arm-is c tree i ∷ arms-are c trees i

pub record OpenedCase (c : Contents) (here : Surroundings) (arms : List ArmForm) (otherwise : ExprForm) (tree : ExprTree) : Type 0 where
  pub trees : List ArmTree
  pub all : Along IsArmTree arms trees
  pub last : ExprTree
  pub last_is : IsExpr otherwise last
  pub is : (part_of c tree).means here ≡ case_meant here (map (arm_part c) trees) (Some (part_of c last))

pub opened-case : (c : Contents) (here : Surroundings) (arm : ArmForm) (arms : List ArmForm) {otherwise : ExprForm} {tree : ExprTree}
    → IsExpr (f.case arm.condition arm.value (arms_of arms) otherwise) tree → OpenedCase c here (arm ∷ arms) otherwise tree
unfolding means_at
opened-case c here arm arms {tree = tree} (case_tree {z = z} {arm = first} {arms = more} d e ds g whole) = record {
  trees = first ∷ more;
  all = (record { condition = d; value = e }, arms-along arms ds);
  last = z;
  last_is = g;
  is = means-case-some c here tree (first ∷ more) z whole ∙ ap (λ parts. case_meant here parts (Some (part_of c z))) (arms-are c (first ∷ more));
}
