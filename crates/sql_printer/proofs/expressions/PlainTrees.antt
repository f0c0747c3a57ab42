-- The tree of an expression's form has no aggregate of its own core.
use Rattle.std.proofs.Common.{◌≡◌, Bool, true, false, ◌||◌, List, [], ◌∷◌, ◌++◌, map, flat_map, refl, ap, ◌∙◌}
use Rattle.std.specs.List.{list_any}
use Rattle.perm_catalog.specs.Contents.{Contents}
use Rattle.sql_tree.specs.declared.expression.ArmTree.{ArmTree}
use Rattle.sql_tree.specs.declared.expression.ExprStep.{ExprStep}
use Rattle.sql_tree.specs.declared.expression.ExprTree.{ExprTree}
use Rattle.name_meaning.proofs.Equations.{exprbody-nullof, exprbody-integer, exprbody-text, exprbody-truth, exprbody-column, exprbody-paren, exprbody-nots, exprbody-signs, exprbody-logic, exprbody-chain, exprbody-compared, exprbody-like, exprbody-between, exprbody-inlist, exprbody-inquery, exprbody-quantified, exprbody-isnull, exprbody-istruth, exprbody-isdistinct, exprbody-case-some, exprbody-coalesce, exprbody-nullif, exprbody-exists, exprbody-scalar, exprtree-record, token}
use Rattle.name_meaning.specs.Expressions.{ArmPart, Body, StepPart, arm_parts}
use Rattle.name_meaning.specs.Meanings.{Part}
use Rattle.name_meaning.specs.Trees.{arm_of, body_of, part_of, step_of}
use Rattle.null_logic.specs.declared.operator.Operator.TheVariants.{And, Or}
use Rattle.tree_texts.specs.Forms as f
use Rattle.tree_texts.specs.Forms.{ArmForms, CompoundForm, ExprForm, ExprForms, ProductForms, SumForms}
use Rattle.tree_texts.specs.Trees.{AreArms, AreExprs, AreFactors, AreTerms, IsCompound, IsExpr, a_factor_tree, a_term_tree, all_tree, an_arm_tree, an_expr_tree, any_tree, added_tree, between_tree, case_tree, coalesce_tree, column_tree, compared_tree, count_distinct_tree, count_rows_tree, count_tree, each_of_tree, enclosed_tree, exists_tree, factor_tree, folded_tree, in_list_tree, in_query_tree, integer_tree, is_distinct_tree, is_null_tree, is_truth_tree, like_tree, multiplied_tree, negated_tree, negative_tree, no_arm_trees, no_expr_trees, no_factor_trees, no_term_trees, null_if_tree, null_tree, one_of_tree, scalar_tree, term_tree, text_tree, truth_tree}
use Rattle.sql_printer.proofs.expressions.ReadForms.{arm-is, step-is}

-- ---- forms without aggregates, but for those of sublinks

abbrev mutual
  pub Plain : ExprForm → Type 0
  Plain (f.column form) = Unit {0}
  Plain (f.integer number) = Unit {0}
  Plain (f.text spelled) = Unit {0}
  Plain (f.truth truth) = Unit {0}
  Plain (f.null kind) = Unit {0}
  Plain (f.enclosed form) = PlainCompound form
  Plain (f.case a b more o) = Plain a × Plain b × PlainArms more × Plain o
  Plain (f.coalesce a more) = Plain a × PlainExprs more
  Plain (f.null_if a b) = Plain a × Plain b
  Plain f.count_rows = ⊥
  Plain (f.count a) = ⊥
  Plain (f.count_distinct a) = ⊥
  Plain (f.folded function a) = ⊥
  Plain (f.exists q) = Unit {0}
  Plain (f.scalar q) = Unit {0}

  pub PlainCompound : CompoundForm → Type 0
  PlainCompound (f.negative a) = Plain a
  PlainCompound (f.added a op b more) = Plain a × Plain b × PlainTerms more
  PlainCompound (f.multiplied a op b more) = Plain a × Plain b × PlainFactors more
  PlainCompound (f.compared op a b) = Plain a × Plain b
  PlainCompound (f.like negated a b) = Plain a × Plain b
  PlainCompound (f.between negated a b o) = Plain a × Plain b × Plain o
  PlainCompound (f.in_list negated a b more) = Plain a × Plain b × PlainExprs more
  PlainCompound (f.in_query negated a q) = Plain a
  PlainCompound (f.any op a q) = Plain a
  PlainCompound (f.all op a q) = Plain a
  PlainCompound (f.is_null negated a) = Plain a
  PlainCompound (f.is_truth negated truth a) = Plain a
  PlainCompound (f.is_distinct negated a b) = Plain a × Plain b
  PlainCompound (f.negated a) = Plain a
  PlainCompound (f.each_of a b more) = Plain a × Plain b × PlainExprs more
  PlainCompound (f.one_of a b more) = Plain a × Plain b × PlainExprs more

  pub PlainExprs : ExprForms → Type 0
  PlainExprs f.no_exprs = Unit {0}
  PlainExprs (f.an_expr a more) = Plain a × PlainExprs more

  pub PlainTerms : SumForms → Type 0
  PlainTerms f.no_terms = Unit {0}
  PlainTerms (f.a_term op a more) = Plain a × PlainTerms more

  pub PlainFactors : ProductForms → Type 0
  PlainFactors f.no_factors = Unit {0}
  PlainFactors (f.a_factor op a more) = Plain a × PlainFactors more

  pub PlainArms : ArmForms → Type 0
  PlainArms f.no_arms = Unit {0}
  PlainArms (f.an_arm a b more) = Plain a × Plain b × PlainArms more

-- ---- trees

module _ (c : Contents) where
  abbrev pub PlainTree : ExprTree → Type 0
  PlainTree tree = (part_of c tree).aggregating ≡ false

  abbrev any_aggregating : List Part → Bool
  any_aggregating parts = list_any (λ (part : Part). part.aggregating) parts

  plain-of : (tree : ExprTree) (body : Body) → body_of c tree.body ≡ body → body.aggregating ≡ false → PlainTree tree
  unfolding token
  plain-of tree body e h = ap (λ (p : Part). p.aggregating) (exprtree-record c tree.at tree.body) ∙ ap (λ (b : Body). b.aggregating) e ∙ h

  one-plain : (a : ExprTree) → PlainTree a → any_aggregating (part_of c a ∷ []) ≡ false
  one-plain a h = λ i. h i || false

  two-plain : (a b : ExprTree) → PlainTree a → PlainTree b → any_aggregating (part_of c a ∷ part_of c b ∷ []) ≡ false
  two-plain a b h k = λ i. h i || (k i || false)

  first-plain : (a : ExprTree) (parts : List Part) → PlainTree a → any_aggregating parts ≡ false → any_aggregating (part_of c a ∷ parts) ≡ false
  first-plain a parts h k = λ i. h i || k i

  step-plain : (step : ExprStep) (steps : List ExprStep) → PlainTree step.part
      → any_aggregating (map (λ (s : StepPart). s.part) (map (step_of c) steps)) ≡ false
      → any_aggregating (map (λ (s : StepPart). s.part) (map (step_of c) (step ∷ steps))) ≡ false
  step-plain step steps h k = λ i. (ap (λ (s : StepPart). s.part.aggregating) (step-is c step) ∙ h) i || k i

  abbrev PlainArmTrees : List ArmTree → Type 0
  PlainArmTrees [] = Unit {0}
  PlainArmTrees (arm ∷ arms) = (PlainTree arm.condition × PlainTree arm.value) × PlainArmTrees arms

  arms-plain : (arms : List ArmTree) (last : ExprTree) → PlainArmTrees arms → PlainTree last
      → any_aggregating (flat_map arm_parts (map (arm_of c) arms) ++ part_of c last ∷ []) ≡ false
  arms-plain [] last h k = one-plain last k
  arms-plain (arm ∷ arms) last h k =
      λ i. (ap (λ (a : ArmPart). a.condition.aggregating) (arm-is c arm) ∙ h.0.0) i
      || ((ap (λ (a : ArmPart). a.value.aggregating) (arm-is c arm) ∙ h.0.1) i || arms-plain arms last h.1 k i)

  mutual
    unfolding token

    pub plain-tree : {form : ExprForm} {tree : ExprTree} → Plain form → IsExpr form tree → PlainTree tree
    plain-tree {tree = tree} p (column_tree {x = x} d is) = plain-of tree _ (ap (body_of c) is ∙ exprbody-column c x) refl
    plain-tree {tree = tree} p (integer_tree is) = plain-of tree _ (ap (body_of c) is ∙ exprbody-integer c _) refl
    plain-tree {tree = tree} p (text_tree is) = plain-of tree _ (ap (body_of c) is ∙ exprbody-text c _) refl
    plain-tree {tree = tree} p (truth_tree is) = plain-of tree _ (ap (body_of c) is ∙ exprbody-truth c _) refl
    plain-tree {tree = tree} p (null_tree is) = plain-of tree _ (ap (body_of c) is ∙ exprbody-nullof c _) refl
    plain-tree {tree = tree} p (enclosed_tree {x = x} d is) = plain-of tree _ (ap (body_of c) is ∙ exprbody-paren c x) (plain-compound p d)
    plain-tree {tree = tree} p (case_tree {z = z} {arm = arm} {arms = arms} d e ds g is) =
        plain-of tree _ (ap (body_of c) is ∙ exprbody-case-some c (arm ∷ arms) z)
        (arms-plain (arm ∷ arms) z ((plain-tree p.0 d, plain-tree p.1 e), plain-arms p.2 ds) (plain-tree p.3 g))
    plain-tree {tree = tree} p (coalesce_tree {x = x} {trees = trees} d ds is) =
        plain-of tree _ (ap (body_of c) is ∙ exprbody-coalesce c (x ∷ trees)) (first-plain x (map (part_of c) trees) (plain-tree p.0 d) (plain-exprs p.1 ds))
    plain-tree {tree = tree} p (null_if_tree {x = x} {y = y} d e is) =
        plain-of tree _ (ap (body_of c) is ∙ exprbody-nullif c x y) (two-plain x y (plain-tree p.0 d) (plain-tree p.1 e))
    plain-tree p (count_rows_tree is) = absurd p
    plain-tree p (count_tree d is) = absurd p
    plain-tree p (count_distinct_tree d is) = absurd p
    plain-tree p (folded_tree d is) = absurd p
    plain-tree {tree = tree} p (exists_tree {x = x} d is) = plain-of tree _ (ap (body_of c) is ∙ exprbody-exists c x) refl
    plain-tree {tree = tree} p (scalar_tree {x = x} d is) = plain-of tree _ (ap (body_of c) is ∙ exprbody-scalar c x) refl

    plain-compound : {form : CompoundForm} {tree : ExprTree} → PlainCompound form → IsCompound form tree → PlainTree tree
    plain-compound {tree = tree} p (negative_tree {x = x} d is) = plain-of tree _ (ap (body_of c) is ∙ exprbody-signs c 1 x) (one-plain x (plain-tree p d))
    plain-compound {tree = tree} p (added_tree {x = x} {step = step} {steps = steps} d (term_tree own e) ds is) =
        plain-of tree _ (ap (body_of c) is ∙ exprbody-chain c x (step ∷ steps))
        (first-plain x (map (λ (s : StepPart). s.part) (map (step_of c) (step ∷ steps))) (plain-tree p.0 d) (step-plain step steps (plain-tree p.1 e) (plain-terms p.2 ds)))
    plain-compound {tree = tree} p (multiplied_tree {x = x} {step = step} {steps = steps} d (factor_tree own e) ds is) =
        plain-of tree _ (ap (body_of c) is ∙ exprbody-chain c x (step ∷ steps))
        (first-plain x (map (λ (s : StepPart). s.part) (map (step_of c) (step ∷ steps))) (plain-tree p.0 d) (step-plain step steps (plain-tree p.1 e) (plain-factors p.2 ds)))
    plain-compound {tree = tree} p (compared_tree {op = op} {x = x} {y = y} d e is) =
        plain-of tree _ (ap (body_of c) is ∙ exprbody-compared c op x y) (two-plain x y (plain-tree p.0 d) (plain-tree p.1 e))
    plain-compound {tree = tree} p (like_tree {negated = negated} {x = x} {y = y} d e is) =
        plain-of tree _ (ap (body_of c) is ∙ exprbody-like c negated x y) (two-plain x y (plain-tree p.0 d) (plain-tree p.1 e))
    plain-compound {tree = tree} p (between_tree {negated = negated} {x = x} {y = y} {z = z} d e g is) =
        plain-of tree _ (ap (body_of c) is ∙ exprbody-between c negated x y z)
        (first-plain x (part_of c y ∷ part_of c z ∷ []) (plain-tree p.0 d) (two-plain y z (plain-tree p.1 e) (plain-tree p.2 g)))
    plain-compound {tree = tree} p (in_list_tree {negated = negated} {x = x} {y = y} {trees = trees} d e ds is) =
        plain-of tree _ (ap (body_of c) is ∙ exprbody-inlist c negated x (y ∷ trees))
        (first-plain x (map (part_of c) (y ∷ trees)) (plain-tree p.0 d) (first-plain y (map (part_of c) trees) (plain-tree p.1 e) (plain-exprs p.2 ds)))
    plain-compound {tree = tree} p (in_query_tree {negated = negated} {x = x} {y = y} d q is) =
        plain-of tree _ (ap (body_of c) is ∙ exprbody-inquery c negated x y) (one-plain x (plain-tree p d))
    plain-compound {tree = tree} p (any_tree {op = op} {x = x} {y = y} d q is) =
        plain-of tree _ (ap (body_of c) is ∙ exprbody-quantified c false op x y) (one-plain x (plain-tree p d))
    plain-compound {tree = tree} p (all_tree {op = op} {x = x} {y = y} d q is) =
        plain-of tree _ (ap (body_of c) is ∙ exprbody-quantified c true op x y) (one-plain x (plain-tree p d))
    plain-compound {tree = tree} p (is_null_tree {negated = negated} {x = x} d is) =
        plain-of tree _ (ap (body_of c) is ∙ exprbody-isnull c negated x) (one-plain x (plain-tree p d))
    plain-compound {tree = tree} p (is_truth_tree {negated = negated} {truth = truth} {x = x} d is) =
        plain-of tree _ (ap (body_of c) is ∙ exprbody-istruth c negated truth x) (one-plain x (plain-tree p d))
    plain-compound {tree = tree} p (is_distinct_tree {negated = negated} {x = x} {y = y} d e is) =
        plain-of tree _ (ap (body_of c) is ∙ exprbody-isdistinct c negated x y) (two-plain x y (plain-tree p.0 d) (plain-tree p.1 e))
    plain-compound {tree = tree} p (negated_tree {x = x} d is) = plain-of tree _ (ap (body_of c) is ∙ exprbody-nots c 1 x) (one-plain x (plain-tree p d))
    plain-compound {tree = tree} p (each_of_tree {x = x} {y = y} {trees = trees} d e ds is) =
        plain-of tree _ (ap (body_of c) is ∙ exprbody-logic c And (x ∷ y ∷ trees))
        (first-plain x (map (part_of c) (y ∷ trees)) (plain-tree p.0 d) (first-plain y (map (part_of c) trees) (plain-tree p.1 e) (plain-exprs p.2 ds)))
    plain-compound {tree = tree} p (one_of_tree {x = x} {y = y} {trees = trees} d e ds is) =
        plain-of tree _ (ap (body_of c) is ∙ exprbody-logic c Or (x ∷ y ∷ trees))
        (first-plain x (map (part_of c) (y ∷ trees)) (plain-tree p.0 d) (first-plain y (map (part_of c) trees) (plain-tree p.1 e) (plain-exprs p.2 ds)))

    plain-exprs : {forms : ExprForms} {trees : List ExprTree} → PlainExprs forms → AreExprs forms trees → any_aggregating (map (part_of c) trees) ≡ false
    plain-exprs p no_expr_trees = refl
    plain-exprs p (an_expr_tree {x = x} {trees = trees} d ds) = first-plain x (map (part_of c) trees) (plain-tree p.0 d) (plain-exprs p.1 ds)

    plain-terms : {forms : SumForms} {trees : List ExprStep} → PlainTerms forms → AreTerms forms trees
        → any_aggregating (map (λ (s : StepPart). s.part) (map (step_of c) trees)) ≡ false
    plain-terms p no_term_trees = refl
    plain-terms p (a_term_tree {step = step} {steps = steps} (term_tree own d) ds) = step-plain step steps (plain-tree p.0 d) (plain-terms p.1 ds)

    plain-factors : {forms : ProductForms} {trees : List ExprStep} → PlainFactors forms → AreFactors forms trees
        → any_aggregating (map (λ (s : StepPart). s.part) (map (step_of c) trees)) ≡ false
    plain-factors p no_factor_trees = refl
    plain-factors p (a_factor_tree {step = step} {steps = steps} (factor_tree own d) ds) = step-plain step steps (plain-tree p.0 d) (plain-factors p.1 ds)

    plain-arms : {forms : ArmForms} {trees : List ArmTree} → PlainArms forms → AreArms forms trees → PlainArmTrees trees
    plain-arms p no_arm_trees = tt
    plain-arms p (an_arm_tree d e ds) = ((plain-tree p.0 d, plain-tree p.1 e), plain-arms p.2 ds)
