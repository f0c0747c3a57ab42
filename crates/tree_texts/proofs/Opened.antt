-- The texts of what the constructors of code make, in words on plain lists of children, and how they are joined piece by piece.
use Rattle.std.proofs.Common.{◌≡◌, ◌∙◌, ℕ, List, [], ◌∷◌, ◌++◌, length, refl, sym, ap, ap₂, append_assoc}
use Rattle.std.specs.Prelude.{codes}
use Rattle.std.proofs.lemmas.List.{length-map}
use Rattle.null_logic.specs.declared.operator.Operator.{Operator}
use Rattle.null_logic.specs.declared.truth.Truth.{Truth}
use Rattle.bag_algebra.specs.built.Openings.{row_of_parts, row_of_steps, row_of_arms, Chain-is, Case-is, IsNull-is, IsTruth-is, Same-is}
use Rattle.bag_algebra.specs.declared.expr.Arm.{Arm}
use Rattle.bag_algebra.specs.declared.expr.ChainStep.{ChainStep}
use Rattle.bag_algebra.specs.declared.expr.Expr.{Expr}
use Rattle.bag_algebra.specs.declared.expr.Expr.TheBlock.{shape-the_row-Expr-0, hidden-the_row-Expr-0, shape-the_row-ChainStep-2, hidden-the_row-ChainStep-2, shape-the_row-Arm-3, hidden-the_row-Arm-3}
use Rattle.bag_algebra.specs.declared.expr.Expr.TheVariants.{Op, Chain, Case, IsNull, IsTruth, Same}
use Rattle.tree_texts.specs.expressions.ExpressionTexts.{expr_bytes, part_texts, step_texts, arm_texts, texts_of, step_text_of, steps_of, arm_text_of, arms_of, operated_with, operated_text, operated_on, chained_with, chained_text, steps_on, cases_with, cases_text, arms_on, arms_text, level_of, first_level, truth_front, truth_back}
use Rattle.tree_texts.specs.expressions.Words.{unless_none}
use Rattle.tree_texts.proofs.Pieces.{laid3}

module _ (prefix : List ℕ) (subs : List (List ℕ)) where
  parts-opened : (parts : List Expr) → part_texts prefix subs (row_of_parts parts) ≡ texts_of prefix subs parts
  unfolding shape-the_row-Expr-0 hidden-the_row-Expr-0 package.denote.Hole.Carrier.hidden
  parts-opened [] = refl
  parts-opened (part ∷ parts) = ap (λ texts. expr_bytes prefix subs part ∷ texts) (parts-opened parts)

  steps-opened : (steps : List ChainStep) → step_texts prefix subs (row_of_steps steps) ≡ steps_of prefix subs steps
  unfolding shape-the_row-ChainStep-2 hidden-the_row-ChainStep-2 package.denote.Hole.Carrier.hidden
  steps-opened [] = refl
  steps-opened (step ∷ steps) = ap (λ texts. step_text_of prefix subs step ∷ texts) (steps-opened steps)

  arms-opened : (arms : List Arm) → arm_texts prefix subs (row_of_arms arms) ≡ arms_of prefix subs arms
  unfolding shape-the_row-Arm-3 hidden-the_row-Arm-3 package.denote.Hole.Carrier.hidden
  arms-opened [] = refl
  arms-opened (arm ∷ arms) = ap (λ texts. arm_text_of prefix subs arm ∷ texts) (arms-opened arms)

  level-opened : (steps : List ChainStep) → level_of (steps_of prefix subs steps) ≡ first_level steps
  level-opened [] = refl
  level-opened (step ∷ steps) = refl

  -- ---- the variants

  op_text : (op : Operator) (parts : List Expr) → expr_bytes prefix subs (Op op parts) ≡ operated_on prefix subs op parts
  op_text op parts =
      ap (operated_text op) (parts-opened parts)
      ∙ ap (λ count. operated_with op count (texts_of prefix subs parts)) (length-map parts (expr_bytes prefix subs))

  chain_text : (first : Expr) (steps : List ChainStep) → expr_bytes prefix subs (Chain first steps)
      ≡ unless_none (length steps) (codes "( ") ++ (expr_bytes prefix subs first ++ steps_on prefix subs steps)
  chain_text first steps =
      ap (expr_bytes prefix subs) (Chain-is first steps) ∙ ap (chained_text (expr_bytes prefix subs first)) (steps-opened steps)
      ∙ ap₂ (λ level count. chained_with level count (expr_bytes prefix subs first) (steps_of prefix subs steps)) (level-opened steps)
      (length-map steps (step_text_of prefix subs))

  case_text : (arms : List Arm) (otherwise : Expr) → expr_bytes prefix subs (Case arms otherwise)
      ≡ cases_with (length arms) (arms_of prefix subs arms) (expr_bytes prefix subs otherwise)
  case_text arms otherwise =
      ap (expr_bytes prefix subs) (Case-is arms otherwise) ∙ ap (λ texts. cases_text texts (expr_bytes prefix subs otherwise)) (arms-opened arms)
      ∙ ap (λ count. cases_with count (arms_of prefix subs arms) (expr_bytes prefix subs otherwise)) (length-map arms (arm_text_of prefix subs))

  null_test_text : (part : Expr) → expr_bytes prefix subs (IsNull part) ≡ codes "( " ++ (expr_bytes prefix subs part ++ codes "IS NULL ) ")
  null_test_text part = ap (expr_bytes prefix subs) (IsNull-is part)

  truth_test_text : (truth : Truth) (part : Expr)
      → expr_bytes prefix subs (IsTruth truth part) ≡ truth_front truth ++ (expr_bytes prefix subs part ++ truth_back truth)
  truth_test_text truth part = ap (expr_bytes prefix subs) (IsTruth-is truth part)

  same_text : (first second : Expr) → expr_bytes prefix subs (Same first second)
      ≡ codes "( " ++ (expr_bytes prefix subs first ++ (codes "IS NOT DISTINCT FROM " ++ (expr_bytes prefix subs second ++ codes ") ")))
  same_text first second = ap (expr_bytes prefix subs) (Same-is first second)

-- ---- what is pushed for each variant; the parts that code reads are those of the variant

module _ (prefix : List ℕ) (subs : List (List ℕ)) (start : List ℕ) (e : Expr) where
  -- a text of a variant is one of the expression that is the variant
  whole : (variant : Expr) (after : List ℕ) → e ≡ variant → after ≡ start ++ expr_bytes prefix subs variant → after ≡ start ++ expr_bytes prefix subs e
  whole variant after is pushed = pushed ∙ ap (λ x. start ++ expr_bytes prefix subs x) (sym is)

  pub op_pushed : (op : Operator) (parts parts' : List Expr) (after : List ℕ) → e ≡ Op op parts → parts' ≡ parts
      → after ≡ start ++ operated_on prefix subs op parts' → after ≡ start ++ expr_bytes prefix subs e
  op_pushed op parts parts' after is same pushed =
      whole (Op op parts) after is (pushed ∙ ap (λ ps. start ++ operated_on prefix subs op ps) same ∙ ap (λ t. start ++ t) (sym (op_text prefix subs op parts)))

  pub chain_pushed : (first first' : Expr) (steps steps' : List ChainStep) (count : ℕ) (one two three : List ℕ) → e ≡ Chain first steps
      → count ≡ length steps → first' ≡ first → steps' ≡ steps → one ≡ start ++ unless_none count (codes "( ")
      → two ≡ one ++ expr_bytes prefix subs first' → three ≡ two ++ steps_on prefix subs steps' → three ≡ start ++ expr_bytes prefix subs e
  chain_pushed first first' steps steps' count one two three is count_is first_is steps_is opened begun closed =
      whole (Chain first steps) three is
      (laid3 start one two three (unless_none (length steps) (codes "( ")) (expr_bytes prefix subs first) (steps_on prefix subs steps)
      (opened ∙ ap (λ n. start ++ unless_none n (codes "( ")) count_is)
      (begun ∙ ap (λ x. one ++ expr_bytes prefix subs x) first_is)
      (closed ∙ ap (λ s. two ++ steps_on prefix subs s) steps_is)
      ∙ ap (λ t. start ++ t) (sym (chain_text prefix subs first steps)))

  pub case_pushed : (arms arms' : List Arm) (otherwise otherwise' : Expr) (count : ℕ) (one two three : List ℕ) → e ≡ Case arms otherwise
      → arms' ≡ arms → otherwise' ≡ otherwise → count ≡ length arms → one ≡ start ++ arms_on prefix subs arms'
      → two ≡ one ++ expr_bytes prefix subs otherwise' → three ≡ two ++ unless_none count (codes "END ") → three ≡ start ++ expr_bytes prefix subs e
  case_pushed arms arms' otherwise otherwise' count one two three is arms_is otherwise_is count_is opened chosen closed =
      let n = length arms in
      let opening = unless_none n (codes "CASE ") in
      let inner = arms_text (arms_of prefix subs arms) in
      let between = unless_none n (codes "ELSE ") in
      let last = expr_bytes prefix subs otherwise ++ unless_none n (codes "END ") in
      whole (Case arms otherwise) three is
      (laid3 start one two three (arms_on prefix subs arms) (expr_bytes prefix subs otherwise) (unless_none n (codes "END "))
      (opened ∙ ap (λ s. start ++ arms_on prefix subs s) arms_is)
      (chosen ∙ ap (λ x. one ++ expr_bytes prefix subs x) otherwise_is)
      (closed ∙ ap (λ m. two ++ unless_none m (codes "END ")) count_is)
      ∙ ap (λ t. start ++ t) (append_assoc opening (inner ++ between) last ∙ ap (λ t. opening ++ t) (append_assoc inner between last) ∙ sym (case_text prefix subs arms otherwise)))

  pub null_test_pushed : (part part' : Expr) (after : List ℕ) → e ≡ IsNull part → part' ≡ part
      → after ≡ start ++ (codes "( " ++ (expr_bytes prefix subs part' ++ codes "IS NULL ) ")) → after ≡ start ++ expr_bytes prefix subs e
  null_test_pushed part part' after is same pushed =
      whole (IsNull part) after is (pushed ∙ ap (λ x. start ++ (codes "( " ++ (expr_bytes prefix subs x ++ codes "IS NULL ) "))) same
      ∙ ap (λ t. start ++ t) (sym (null_test_text prefix subs part)))

  pub truth_test_pushed : (truth : Truth) (part part' : Expr) (after : List ℕ) → e ≡ IsTruth truth part → part' ≡ part
      → after ≡ start ++ (truth_front truth ++ (expr_bytes prefix subs part' ++ truth_back truth)) → after ≡ start ++ expr_bytes prefix subs e
  truth_test_pushed truth part part' after is same pushed =
      whole (IsTruth truth part) after is (pushed ∙ ap (λ x. start ++ (truth_front truth ++ (expr_bytes prefix subs x ++ truth_back truth))) same
      ∙ ap (λ t. start ++ t) (sym (truth_test_text prefix subs truth part)))

  pub same_pushed : (first first' second second' : Expr) (one two three : List ℕ) → e ≡ Same first second → first' ≡ first → second' ≡ second
      → one ≡ start ++ codes "( " → two ≡ one ++ expr_bytes prefix subs first'
      → three ≡ two ++ (codes "IS NOT DISTINCT FROM " ++ (expr_bytes prefix subs second' ++ codes ") ")) → three ≡ start ++ expr_bytes prefix subs e
  same_pushed first first' second second' one two three is first_is second_is opened begun closed =
      whole (Same first second) three is
      (laid3 start one two three (codes "( ") (expr_bytes prefix subs first) (codes "IS NOT DISTINCT FROM " ++ (expr_bytes prefix subs second ++ codes ") "))
      opened
      (begun ∙ ap (λ x. one ++ expr_bytes prefix subs x) first_is)
      (closed ∙ ap (λ x. two ++ (codes "IS NOT DISTINCT FROM " ++ (expr_bytes prefix subs x ++ codes ") "))) second_is)
      ∙ ap (λ t. start ++ t) (sym (same_text prefix subs first second)))
