-- The tree of an expression's form is read as what is printed of the expression.
use Rattle.std.proofs.Common.{◌≡◌, ℕ, suc, ◌+◌, ◌≤◌, Bool, true, false, List, [], ◌∷◌, ◌++◌, length, length-append, map, Some, refl, sym, ap, subst, ◌∙◌, true≢false, append-nil, append_assoc, arith}
use Rattle.std.proofs.lemmas.Bool.{and_parts}
use Rattle.std.proofs.lemmas.List.{length-map, map-append}
use Rattle.std.specs.Int.{is_negative}
use Rattle.std.specs.Prelude.{◌==◌, if◌then◌else◌, slice_index_or, unsigned_abs}
use mathlib.Core.Bool.{beq}
use Rattle.null_logic.specs.declared.arith.Arith.TheVariants.{Subtract}
use Rattle.null_logic.specs.declared.operator.Operator.{Operator}
use Rattle.null_logic.specs.declared.operator.Operator.TheVariants as x
use Rattle.null_logic.specs.declared.truth.Truth.{Truth}
use Rattle.null_logic.specs.declared.truth.Truth.TheVariants.{True, False, Unknown}
use Rattle.perm_values.specs.declared.kind.Kind.{Kind}
use Rattle.perm_values.specs.declared.kind.Kind.TheVariants as kinds
use Rattle.bag_algebra.specs.WellFormed.{ArmsHave, HasKind, PartsHave, StepsHave, is_additive, number_of_arms, number_of_parts, number_of_steps, op_form, steps_are}
use Rattle.bag_algebra.specs.built.Patterns.{OpOf, ChainOf, CaseOf, IsNullOf, IsTruthOf, SameOf}
use Rattle.bag_algebra.specs.declared.expr.Arm.{Arm}
use Rattle.bag_algebra.specs.declared.expr.ChainStep.{ChainStep}
use Rattle.bag_algebra.specs.declared.expr.Expr.{Expr, Row_of-Expr, Row_of-Arm, Row_of-ChainStep, more_of-Expr, end_of-Expr, more_of-Arm, end_of-Arm, more_of-ChainStep, end_of-ChainStep}
use Rattle.bag_algebra.specs.declared.expr.Expr.TheVariants.{Col, Lit, Op, Chain, Case, Sub, IsNull, IsTruth, Same}
use Rattle.bag_algebra.specs.declared.query.Sublink.{Sublink}
use Rattle.perm_catalog.specs.Contents.{Contents}
use Rattle.sql_tree.specs.declared.expression.ArmTree.{ArmTree}
use Rattle.sql_tree.specs.declared.expression.ExprStep.{ExprStep}
use Rattle.sql_tree.specs.declared.expression.ExprTree.{ExprTree}
use Rattle.name_meaning.specs.Expressions.{case_meant, first_of, second_of, times}
use Rattle.name_meaning.specs.Meanings.{Surroundings, united_kind}
use Rattle.name_meaning.specs.Operands.{BuiltParts, Operand, node, operand, united}
use Rattle.name_meaning.specs.Sublinks.{nothing_before}
use Rattle.name_meaning.specs.Trees.{part_of}
use Rattle.name_meaning.specs.declared.need.Gives.TheVariants.{Always as always}
use Rattle.name_meaning.specs.declared.need.Need.{Need}
use Rattle.name_meaning.specs.declared.need.Need.TheVariants.{OfKind as of_kind, Alike as alike, Free as free}
use Rattle.tree_texts.specs.Forms as f
use Rattle.tree_texts.specs.Forms.{ExprForm}
use Rattle.tree_texts.specs.Trees.{IsExpr}
use Rattle.query_texts.specs.forms.ShownExpressions.{ArmForm, StepForm, cases, chain_of, chained, least as shown_least, operated, shown_arms, shown_expr, shown_parts, shown_steps, signed, truth_tested}
use Rattle.sql_printer.specs.rows.Printed.{nothing_asked, taken}
use Rattle.sql_printer.specs.rows.PrintedExpressions.{asked_in, asked_in_arms, asked_in_parts, asked_in_steps, integer, least, negative, printed_arms, printed_expr, printed_integer, printed_literal, printed_operator, printed_parts, printed_steps, printed_test}
use Rattle.sql_printer.specs.rows.Writable.{Writable, WritableArms, WritableParts, WritableSteps}
use Rattle.sql_printer.proofs.rows.RelatedOutcomes.{Along}
use Rattle.sql_printer.specs.expressions.Reading.{Finds, FindsSublinks, IsRead}
use Rattle.sql_printer.proofs.expressions.ReadForms.{IsArmTree, IsStepTree, OfLevel, Opened, arm_part, chain_meant, inside, opened-case, opened-chain, opened-negated, opened-null, opened-same, opened-truth, step_part, within}
use Rattle.sql_printer.proofs.expressions.ReadLeaves.{alone-read, column-read, integer-read, literal-read, negative-read}
use Rattle.sql_printer.proofs.expressions.ReadNodes.{ArmsRead, StepsRead, arm-read, case-read, chain-read, no_arms-read, no_steps-read, step-read}
use Rattle.sql_printer.proofs.expressions.ReadOperators.{PartsRead, SingleRead, operator-read, over-parts}
use Rattle.sql_printer.proofs.expressions.ReadParts.{AreRead, Meets, node-read, none-read, one-read, read-same, read-seen}

-- ---- integers

module _ (c : Contents) (here : Surroundings) where
  -- a step under the operator of its form
  pub step-named : (form : StepForm) (tree : ExprStep) (steps : List ExprStep) (made : ℕ → Expr) (others : ℕ → List ChainStep) (subs more : List Sublink) (count : ℕ)
      → tree.op ≡ form.op → IsRead ((part_of c tree.part).means here) kinds.Integer made subs → StepsRead here (map (step_part c) steps) others more → length subs ≡ count
      → StepsRead here (map (step_part c) (tree ∷ steps)) (λ n. record { op = form.op; part = made n } ∷ others (n + count)) (subs ++ more)
  step-named form tree steps made others subs more count is r rest same =
      subst (λ m. StepsRead here (map (step_part c) (tree ∷ steps)) m (subs ++ more)) (λ i n. record { op = is i; part = made n } ∷ others (n + count))
      (step-read here (step_part c tree) (map (step_part c) steps) made others subs more count r rest same)

  abbrev less_one : StepForm
  less_one = record { op = Subtract; part = f.integer 1 }

  least-over : (start : ExprTree) (trees : List ExprStep) → IsExpr (f.enclosed (f.negative (f.integer 9223372036854775807))) start
      → Along IsStepTree (less_one ∷ []) trees → IsRead (chain_meant here (part_of c start) (map (step_part c) trees)) kinds.Integer (λ n. least) []
  least-over start [] d all = absurd all
  least-over start (tree ∷ []) d all =
      chain-read here (part_of c start) (step_part c tree) [] (λ n. negative 9223372036854775807) (λ n. record { op = Subtract; part = integer 1 } ∷ []) [] [] 0
      (negative-read c here 9223372036854775807 d)
      (step-named less_one tree [] (λ n. integer 1) (λ n. []) [] [] 0 all.0.op_is (integer-read c here 1 all.0.part) (no_steps-read here) refl) refl
  least-over start (tree ∷ other ∷ more) d all = absurd all.1

  least-read : {tree : ExprTree} → IsExpr shown_least tree → IsRead ((part_of c tree).means here) kinds.Integer (λ n. least) []
  least-read {tree = tree} d =
      let o = opened-chain c here true (f.enclosed (f.negative (f.integer 9223372036854775807))) less_one [] refl tt d in
      read-same ((part_of c tree).means here) (chain_meant here (part_of c o.start) (map (step_part c) o.trees)) kinds.Integer (λ n. least) [] o.is
      (least-over o.start o.trees o.start_is o.all)

  -- a negative integer is read as the negation of its amount, or as a difference
  below-read : (amount : ℕ) (b : Bool) {tree : ExprTree} → IsExpr (if b then shown_least else f.enclosed (f.negative (f.integer amount))) tree
      → IsRead ((part_of c tree).means here) kinds.Integer (λ n. if b then least else negative amount) []
  below-read amount true d = least-read d
  below-read amount false d = negative-read c here amount d

  signed-read : (below : Bool) (amount : ℕ) {tree : ExprTree} → IsExpr (signed below amount) tree
      → IsRead ((part_of c tree).means here) kinds.Integer (λ n. printed_integer below amount) []
  signed-read false amount d = integer-read c here amount d
  signed-read true amount d = below-read amount (amount == 9223372036854775808) d

-- ---- lists of sublinks

pub taken-append : (asked : List Sublink) (numbers more : List ℕ) → taken asked (numbers ++ more) ≡ taken asked numbers ++ taken asked more
taken-append asked numbers more = map-append (λ number. slice_index_or asked number nothing_asked) numbers more

pub taken-count : (asked : List Sublink) (numbers : List ℕ) → length (taken asked numbers) ≡ length numbers
taken-count asked numbers = length-map numbers (λ number. slice_index_or asked number nothing_asked)

-- ---- tests

module _ (c : Contents) (here : Surroundings) (form : ExprForm) (own : Kind) (made : ℕ → Expr) (subs : List Sublink)
    (read : (tree : ExprTree) → IsExpr form tree → IsRead ((part_of c tree).means here) own made subs) where
  pub null-read : {tree : ExprTree} → IsExpr (f.enclosed (f.is_null false form)) tree → IsRead ((part_of c tree).means here) kinds.Boolean (λ n. IsNull (made n)) subs
  null-read {tree = tree} d =
      let i = inside c here d in
      let o = opened-null c here i.compound in
      read-same ((part_of c tree).means here) _ kinds.Boolean (λ n. IsNull (made n)) subs (i.is ∙ o.is)
      (node-read (always kinds.Boolean) (λ es. IsNull (first_of es)) (map (operand here free) (map (part_of c) o.trees)) own kinds.Boolean (λ n. made n ∷ []) subs
      (alone-read c here free own own form made subs read tt o.trees o.all) refl)

  over_truth-read : (need : own ≡ kinds.Boolean) (assembled : List Expr → Expr) (tree : ExprTree)
      → Opened c here (form ∷ []) tree (λ parts. node (always kinds.Boolean) assembled (map (operand here (of_kind kinds.Boolean)) parts))
      → IsRead ((part_of c tree).means here) kinds.Boolean (λ n. assembled (made n ∷ [])) subs
  over_truth-read need assembled tree o =
      read-same ((part_of c tree).means here) _ kinds.Boolean (λ n. assembled (made n ∷ [])) subs o.is
      (node-read (always kinds.Boolean) assembled (map (operand here (of_kind kinds.Boolean)) (map (part_of c) o.trees)) own kinds.Boolean (λ n. made n ∷ []) subs
      (alone-read c here (of_kind kinds.Boolean) own own form made subs read need o.trees o.all) refl)

tested-read : (c : Contents) (here : Surroundings) (truth : Truth) (form : ExprForm) (made : ℕ → Expr) (subs : List Sublink)
    → ((tree : ExprTree) → IsExpr form tree → IsRead ((part_of c tree).means here) kinds.Boolean made subs) → {tree : ExprTree}
    → IsExpr (truth_tested truth form) tree → IsRead ((part_of c tree).means here) kinds.Boolean (λ n. printed_test truth (made n)) subs
tested-read c here True form made subs read {tree = tree} d =
    let i = inside c here d in
    over_truth-read c here form kinds.Boolean made subs read refl (λ es. IsTruth True (first_of es)) tree (within c here i.is (opened-truth c here i.compound))
tested-read c here False form made subs read {tree = tree} d =
    let i = inside c here d in
    over_truth-read c here form kinds.Boolean made subs read refl (λ es. IsTruth False (first_of es)) tree (within c here i.is (opened-truth c here i.compound))
tested-read c here Unknown form made subs read d =
    null-read c here (f.enclosed (f.negated form)) kinds.Boolean (λ n. Op x.Not (made n ∷ [])) subs (λ tree e. negated e) d
  where
    negated : {tree : ExprTree} → IsExpr (f.enclosed (f.negated form)) tree → IsRead ((part_of c tree).means here) kinds.Boolean (λ n. Op x.Not (made n ∷ [])) subs
    negated {tree = tree} e =
        let i = inside c here e in
        over_truth-read c here form kinds.Boolean made subs read refl (λ es. times x.Not 1 (first_of es)) tree (within c here i.is (opened-negated c here i.compound))

-- ---- parts

module _ (c : Contents) (here : Surroundings) where
  no_parts-read : (shared : Kind) → PartsRead c here [] shared (λ n. []) []
  no_parts-read shared = record { count = λ n. refl; single = tt; parts = none; common = λ trees d h. absurd (omega (arith, h)) }
    where
      none : (need : Need) → Meets need shared shared → (trees : List ExprTree) → Along IsExpr [] trees
          → AreRead shared (map (operand here need) (map (part_of c) trees)) (λ n. []) []
      none need meets [] d = none-read shared
      none need meets (tree ∷ trees) d = absurd d

  module _ (a : ExprForm) (shared : Kind) (made : ℕ → Expr) (first : List Sublink)
      (read : (tree : ExprTree) → IsExpr a tree → IsRead ((part_of c tree).means here) shared made first) where
    -- where nothing stands behind it, no sublinks do
    single-read : (forms : List ExprForm) (others : ℕ → List Expr) (more : List Sublink) (count : ℕ) → PartsRead c here forms shared others more
        → SingleRead c here (a ∷ forms) shared (λ n. made n ∷ others (n + count)) (first ++ more)
    single-read [] others more count rest =
        let none : [] ≡ more = ap (λ (b : BuiltParts). b.subs) ((rest.parts free tt [] tt).make shared nothing_before) in
        λ tree d. subst (λ ms. IsRead ((part_of c tree).means here) shared made (first ++ ms)) none
        (subst (IsRead ((part_of c tree).means here) shared made) (sym (append-nil first)) (read tree d))
    single-read (b ∷ forms) others more count rest = tt

    module _ (forms : List ExprForm) (others : ℕ → List Expr) (more : List Sublink) (count : ℕ) (rest : PartsRead c here forms shared others more) (same : length first ≡ count) where
      more-read : (need : Need) → Meets need shared shared → (trees : List ExprTree) → Along IsExpr (a ∷ forms) trees
          → AreRead shared (map (operand here need) (map (part_of c) trees)) (λ n. made n ∷ others (n + count)) (first ++ more)
      more-read need meets [] d = absurd d
      more-read need meets (tree ∷ trees) d =
          one-read shared shared (operand here need (part_of c tree)) (map (operand here need) (map (part_of c) trees)) made others first more count (read tree d.0) meets
          (rest.parts need meets trees d.1) same

      first-common : (trees : List ExprTree) → Along IsExpr (a ∷ forms) trees → 1 ≤ length (a ∷ forms)
          → united (map (operand here alike) (map (part_of c) trees)) ≡ Some shared
      first-common [] d h = absurd d
      first-common (tree ∷ trees) d h =
          ap (λ found. united_kind found (united (map (operand here alike) (map (part_of c) trees))))
          (read-seen ((part_of c tree).means here) shared made first (read tree d.0))

      pub one_more-read : PartsRead c here (a ∷ forms) shared (λ n. made n ∷ others (n + count)) (first ++ more)
      one_more-read = record {
        count = λ n. ap suc (rest.count (n + count));
        single = single-read forms others more count rest;
        parts = more-read;
        common = first-common;
      }

-- ---- chains

equal_levels : (a b : Bool) → beq a b ≡ true → a ≡ b
equal_levels true true e = refl
equal_levels true false e = absurd (true≢false (sym e))
equal_levels false true e = absurd (true≢false (sym e))
equal_levels false false e = refl

steps-of_level : (prefix : List ℕ) (forms : List ExprForm) (additive : Bool) {m : _} (steps : Row_of-ChainStep m) → steps_are steps additive ≡ true
    → OfLevel additive (shown_steps prefix forms steps)
steps-of_level prefix forms additive end_of-ChainStep h = tt
steps-of_level prefix forms additive (more_of-ChainStep operation part steps) h =
    let parts = and_parts (beq (is_additive operation) additive) (steps_are steps additive) h in
    (equal_levels (is_additive operation) additive parts.0, steps-of_level prefix forms additive steps parts.1)

steps-shown : (prefix : List ℕ) (forms : List ExprForm) {m : _} (steps : Row_of-ChainStep m) → length (shown_steps prefix forms steps) ≡ number_of_steps steps
steps-shown prefix forms end_of-ChainStep = refl
steps-shown prefix forms (more_of-ChainStep operation part steps) = ap suc (steps-shown prefix forms steps)

module _ (c : Contents) (here : Surroundings) (a : ExprForm) (made : ℕ → Expr) (others : ℕ → List ChainStep) (first more : List Sublink) (count : ℕ)
    (read : (tree : ExprTree) → IsExpr a tree → IsRead ((part_of c tree).means here) kinds.Integer made first) (same : length first ≡ count) where
  chain-over : (steps : List StepForm) → 1 ≤ length steps → (start : ExprTree) (trees : List ExprStep) → IsExpr a start → Along IsStepTree steps trees
      → ((trees : List ExprStep) → Along IsStepTree steps trees → StepsRead here (map (step_part c) trees) others more)
      → IsRead (chain_meant here (part_of c start) (map (step_part c) trees)) kinds.Integer (λ n. Chain (made n) (others (n + count))) (first ++ more)
  chain-over [] h start trees d all rest = absurd (omega (arith, h))
  chain-over (step ∷ steps) h start [] d all rest = absurd all
  chain-over (step ∷ steps) h start (tree ∷ trees) d all rest =
      chain-read here (part_of c start) (step_part c tree) (map (step_part c) trees) made others first more count (read start d) (rest (tree ∷ trees) all) same

  chained-read : (additive : Bool) (steps : List StepForm) → 1 ≤ length steps → OfLevel additive steps
      → ((trees : List ExprStep) → Along IsStepTree steps trees → StepsRead here (map (step_part c) trees) others more) → {tree : ExprTree}
      → IsExpr (chained a steps) tree → IsRead ((part_of c tree).means here) kinds.Integer (λ n. Chain (made n) (others (n + count))) (first ++ more)
  chained-read additive [] h level rest d = absurd (omega (arith, h))
  chained-read additive (step ∷ steps) h level rest {tree = tree} d =
      let o = opened-chain c here additive a step steps level.0 level.1 (subst (λ b. IsExpr (chain_of b a step steps) tree) level.0 d) in
      read-same ((part_of c tree).means here) (chain_meant here (part_of c o.start) (map (step_part c) o.trees)) kinds.Integer
      (λ n. Chain (made n) (others (n + count))) (first ++ more) o.is (chain-over (step ∷ steps) h o.start o.trees o.start_is o.all rest)

-- ---- CASE

module _ (c : Contents) (here : Surroundings) where
  pub cased-read : (shared : Kind) (arms : List ArmForm) → 1 ≤ length arms → (otherwise : ExprForm) (made : ℕ → List Arm) (later : ℕ → Expr) (more : List Sublink)
      → ((trees : List ArmTree) → Along IsArmTree arms trees → (last : ExprTree) → IsExpr otherwise last
      → ArmsRead here shared (map (arm_part c) trees) (operand here alike (part_of c last)) made later more) → {tree : ExprTree}
      → IsExpr (cases arms otherwise) tree → IsRead ((part_of c tree).means here) shared (λ n. Case (made n) (later n)) more
  cased-read shared [] h otherwise made later more rest d = absurd (omega (arith, h))
  cased-read shared (arm ∷ arms) h otherwise made later more rest {tree = tree} d =
      let o = opened-case c here arm arms d in
      read-same ((part_of c tree).means here) (case_meant here (map (arm_part c) o.trees) (Some (part_of c o.last))) shared (λ n. Case (made n) (later n)) more o.is
      (case-read here shared (map (arm_part c) o.trees) (part_of c o.last) made later more (rest o.trees o.all o.last o.last_is))

-- ---- the whole

parts-shown : (prefix : List ℕ) (forms : List ExprForm) {m : _} (parts : Row_of-Expr m) → length (shown_parts prefix forms parts) ≡ number_of_parts parts
parts-shown prefix forms end_of-Expr = refl
parts-shown prefix forms (more_of-Expr part parts) = ap suc (parts-shown prefix forms parts)

arms-shown : (prefix : List ℕ) (forms : List ExprForm) {m : _} (arms : Row_of-Arm m) → length (shown_arms prefix forms arms) ≡ number_of_arms arms
arms-shown prefix forms end_of-Arm = refl
arms-shown prefix forms (more_of-Arm condition arm arms) = ap suc (arms-shown prefix forms arms)

module _ (c : Contents) (prefix : List ℕ) (forms : List ExprForm) (asked : List Sublink) (scopes : List (List Kind)) (subs : List Kind) (unread : List ℕ) (here : Surroundings)
    (finds : Finds prefix scopes unread here.scopes) (finds_sublinks : FindsSublinks c here forms asked subs) (outside : here.argument ≡ false) where
  abbrev Reads : (ℕ → Expr) → List ℕ → Kind → ExprTree → Type 0
  Reads made numbers kind tree = IsRead ((part_of c tree).means here) kind made (taken asked numbers)

  abbrev PartsReadOf : {m : _} → Row_of-Expr m → Kind → Type 0
  PartsReadOf parts shared = PartsRead c here (shown_parts prefix forms parts) shared (λ n. printed_parts unread n parts) (taken asked (asked_in_parts parts))

  operator-shown : (o : Operator) {m : _} (parts : Row_of-Expr m) (shared kind : Kind) → op_form o (number_of_parts parts) (λ own. own ≡ shared) kind → PartsReadOf parts shared
      → {tree : ExprTree} → IsExpr (operated o (shown_parts prefix forms parts)) tree
      → Reads (λ n. printed_operator o (printed_parts unread n parts)) (asked_in_parts parts) kind tree
  operator-shown o parts shared kind form read d =
      operator-read c here shared kind (λ n. printed_parts unread n parts) (taken asked (asked_in_parts parts)) o (shown_parts prefix forms parts)
      (subst (λ n. op_form o n (λ own. own ≡ shared) kind) (sym (parts-shown prefix forms parts)) form) read d

  -- the sublinks of two parts
  two-taken : (first more : List ℕ) (kind : Kind) (made : ℕ → Expr) (tree : ExprTree)
      → IsRead ((part_of c tree).means here) kind made (taken asked first ++ taken asked more) → Reads made (first ++ more) kind tree
  two-taken first more kind made tree r = subst (IsRead ((part_of c tree).means here) kind made) (sym (taken-append asked first more)) r

  same-read : (a b : ExprForm) (shared : Kind) (first second : ℕ → Expr) (one other : List ℕ)
      → ((tree : ExprTree) → IsExpr a tree → Reads first one shared tree) → ((tree : ExprTree) → IsExpr b tree → Reads second other shared tree) → {tree : ExprTree}
      → IsExpr (f.enclosed (f.is_distinct true a b)) tree → Reads (λ n. Same (first n) (second (n + length one))) (one ++ other) kinds.Boolean tree
  same-read a b shared first second one other read more {tree = tree} d =
      let i = inside c here d in
      let rest = one_more-read c here b shared second (taken asked other) more [] (λ n. []) [] (length other) (no_parts-read c here shared) (taken-count asked other) in
      let all = one_more-read c here a shared first (taken asked one) read (b ∷ []) (λ n. second n ∷ []) (taken asked other ++ []) (length one) rest (taken-count asked one) in
      let made : ℕ → Expr = λ n. Same (first n) (second (n + length one)) in
      let both = over-parts c here (a ∷ b ∷ []) shared (λ n. first n ∷ second (n + length one) ∷ []) (taken asked one ++ (taken asked other ++ [])) all alike
      (always kinds.Boolean) kinds.Boolean (λ es. Same (first_of es) (second_of es)) made tree refl (within c here i.is (opened-same c here i.compound))
      (λ trees d. refl) (λ n. refl) in
      two-taken one other kinds.Boolean made tree
      (subst (λ ms. IsRead ((part_of c tree).means here) kinds.Boolean made (taken asked one ++ ms)) (append-nil (taken asked other)) both)

  -- behind all arms
  arms-last : (shared : Kind) (last : ExprTree) (otherwise : ℕ → Expr) (more : List Sublink) → IsRead ((part_of c last).means here) shared otherwise more
      → ArmsRead here shared [] (operand here alike (part_of c last)) (λ n. []) (λ n. otherwise (n + 0)) more
  arms-last shared last otherwise more r =
      subst (λ made. ArmsRead here shared [] (operand here alike (part_of c last)) (λ n. []) made more)
      (λ i n. let none : n ≡ n + 0 = omega arith in otherwise (none i))
      (subst (ArmsRead here shared [] (operand here alike (part_of c last)) (λ n. []) otherwise) (append-nil more) (no_arms-read here shared (part_of c last) otherwise more r))

  arm-next : (shared : Kind) (tree : ArmTree) (trees : List ArmTree) (last : Operand) (test chosen : ℕ → Expr) (others : ℕ → List Arm) (otherwise : ℕ → Expr)
      (first second rest : List ℕ) (more : List Sublink) → Reads test first kinds.Boolean tree.condition → Reads chosen second shared tree.value
      → ArmsRead here shared (map (arm_part c) trees) last others (λ n. otherwise (n + length rest)) (taken asked rest ++ more)
      → ArmsRead here shared (map (arm_part c) (tree ∷ trees)) last
      (λ n. record { condition = test n; value = chosen (n + length first) } ∷ others (n + length first + length second))
      (λ n. otherwise (n + length (first ++ (second ++ rest)))) (taken asked (first ++ (second ++ rest)) ++ more)
  arm-next shared tree trees last test chosen others otherwise first second rest more r s all =
      let made : ℕ → List Arm = λ n. record { condition = test n; value = chosen (n + length first) } ∷ others (n + length first + length second) in
      let taken_all : taken asked first ++ (taken asked second ++ (taken asked rest ++ more)) ≡ taken asked (first ++ (second ++ rest)) ++ more =
      ap (λ ms. taken asked first ++ ms) (sym (append_assoc (taken asked second) (taken asked rest) more))
      ∙ sym (append_assoc (taken asked first) (taken asked second ++ taken asked rest) more)
      ∙ ap (λ ms. taken asked first ++ ms ++ more) (sym (taken-append asked second rest))
      ∙ ap (λ ms. ms ++ more) (sym (taken-append asked first (second ++ rest))) in
      let far : (n : ℕ) → n + length first + length second + length rest ≡ n + length (first ++ (second ++ rest)) =
      λ n. omega (arith, length-append first (second ++ rest), length-append second rest) in
      subst (λ later. ArmsRead here shared (map (arm_part c) (tree ∷ trees)) last made later (taken asked (first ++ (second ++ rest)) ++ more)) (λ i n. otherwise (far n i))
      (subst (ArmsRead here shared (map (arm_part c) (tree ∷ trees)) last made (λ n. otherwise (n + length first + length second + length rest))) taken_all
      (arm-read here shared (arm_part c tree) (map (arm_part c) trees) last test chosen others (λ n. otherwise (n + length rest)) (taken asked first) (taken asked second)
      (taken asked rest ++ more) (length first) (length second) r s all (taken-count asked first) (taken-count asked second)))

  mutual
    pub expr-read : (e : Expr) (kind : Kind) → HasKind scopes subs e kind → Writable e → {tree : ExprTree} → IsExpr (shown_expr prefix forms e) tree
        → Reads (λ n. printed_expr unread n e) (asked_in e) kind tree
    expr-read (Col level place) kind h w d = column-read c here prefix scopes unread finds outside level place kind h d
    expr-read (Lit v own) kind h w {tree = tree} d =
        subst (λ k. Reads (λ n. printed_literal v own) [] k tree) (sym h.gives)
        (literal-read c here v own h.fitting (λ number tree e. signed-read c here (is_negative number) (unsigned_abs number) e) d)
    expr-read (OpOf x.And _ parts) kind h w d =
        operator-shown x.And parts kinds.Boolean kind (record { number = h.number; parts = refl; gives = h.gives }) (parts-read parts kinds.Boolean h.parts w) d
    expr-read (OpOf x.Or _ parts) kind h w d =
        operator-shown x.Or parts kinds.Boolean kind (record { number = h.number; parts = refl; gives = h.gives }) (parts-read parts kinds.Boolean h.parts w) d
    expr-read (OpOf x.Not _ parts) kind h w d =
        operator-shown x.Not parts kinds.Boolean kind (record { number = h.number; parts = refl; gives = h.gives }) (parts-read parts kinds.Boolean h.parts w) d
    expr-read (OpOf x.Negate _ parts) kind h w d =
        operator-shown x.Negate parts kinds.Integer kind (record { number = h.number; parts = refl; gives = h.gives }) (parts-read parts kinds.Integer h.parts w) d
    expr-read (OpOf (x.Compare op) _ parts) kind h w d =
        let shared = h.parts.shared in
        operator-shown (x.Compare op) parts shared kind (record { number = h.number; parts = record { shared = shared; parts = refl }; gives = h.gives })
        (parts-read parts shared h.parts.parts w) d
    expr-read (OpOf (x.Arith op) _ parts) kind h w d = absurd h
    expr-read (OpOf x.Like _ parts) kind h w d =
        operator-shown x.Like parts kinds.Text kind (record { number = h.number; parts = refl; gives = h.gives }) (parts-read parts kinds.Text h.parts w) d
    expr-read (OpOf x.Between _ parts) kind h w d =
        let shared = h.parts.shared in
        operator-shown x.Between parts shared kind (record { number = h.number; parts = record { shared = shared; parts = refl }; gives = h.gives })
        (parts-read parts shared h.parts.parts w) d
    expr-read (OpOf x.InList _ parts) kind h w d =
        let shared = h.parts.shared in
        operator-shown x.InList parts shared kind (record { number = h.number; parts = record { shared = shared; parts = refl }; gives = h.gives })
        (parts-read parts shared h.parts.parts w) d
    expr-read (OpOf x.Coalesce _ parts) kind h w d =
        operator-shown x.Coalesce parts kind kind (record { number = h.number; parts = refl; gives = refl }) (parts-read parts kind h.parts w) d
    expr-read (OpOf x.NullIf _ parts) kind h w d =
        operator-shown x.NullIf parts kind kind (record { number = h.number; parts = refl; gives = refl }) (parts-read parts kind h.parts w) d
    expr-read (ChainOf first _ steps) kind h w {tree = tree} d =
        let made : ℕ → Expr = λ n. Chain (printed_expr unread n first) (printed_steps unread (n + length (asked_in first)) steps) in
        let number = h.number in
        subst (λ k. Reads made (asked_in first ++ asked_in_steps steps) k tree) (sym h.gives)
        (two-taken (asked_in first) (asked_in_steps steps) kinds.Integer made tree
        (chained-read c here (shown_expr prefix forms first) (λ n. printed_expr unread n first) (λ n. printed_steps unread n steps) (taken asked (asked_in first))
        (taken asked (asked_in_steps steps)) (length (asked_in first)) (λ tree e. expr-read first kinds.Integer h.first w.0 e) (taken-count asked (asked_in first))
        h.level.additive (shown_steps prefix forms steps) (omega (arith, number, steps-shown prefix forms steps))
        (steps-of_level prefix forms h.level.additive steps h.level.all) (λ trees all. steps-read steps h.steps w.1 trees all) d))
    expr-read (CaseOf _ arms otherwise) kind h w {tree = tree} d =
        let made : ℕ → Expr = λ n. Case (printed_arms unread n arms) (printed_expr unread (n + length (asked_in_arms arms)) otherwise) in
        let number = h.number in
        two-taken (asked_in_arms arms) (asked_in otherwise) kind made tree
        (cased-read c here kind (shown_arms prefix forms arms) (omega (arith, number, arms-shown prefix forms arms)) (shown_expr prefix forms otherwise)
        (λ n. printed_arms unread n arms) (λ n. printed_expr unread (n + length (asked_in_arms arms)) otherwise)
        (taken asked (asked_in_arms arms) ++ taken asked (asked_in otherwise))
        (λ trees all last e. arms-read arms kind h.arms w.0 trees all last (λ n. printed_expr unread n otherwise) (taken asked (asked_in otherwise))
        (expr-read otherwise kind h.otherwise w.1 e)) d)
    expr-read (Sub number) kind h w {tree = tree} d = finds_sublinks number kind h tree d
    expr-read (IsNullOf part) kind h w {tree = tree} d =
        subst (λ k. Reads (λ n. IsNull (printed_expr unread n part)) (asked_in part) k tree) (sym h.gives)
        (null-read c here (shown_expr prefix forms part) h.parts.shared (λ n. printed_expr unread n part) (taken asked (asked_in part))
        (λ tree e. expr-read part h.parts.shared h.parts.parts w e) d)
    expr-read (IsTruthOf truth part) kind h w {tree = tree} d =
        subst (λ k. Reads (λ n. printed_test truth (printed_expr unread n part)) (asked_in part) k tree) (sym h.gives)
        (tested-read c here truth (shown_expr prefix forms part) (λ n. printed_expr unread n part) (taken asked (asked_in part))
        (λ tree e. expr-read part kinds.Boolean h.parts w e) d)
    expr-read (SameOf first second) kind h w {tree = tree} d =
        subst (λ k. Reads (λ n. Same (printed_expr unread n first) (printed_expr unread (n + length (asked_in first)) second)) (asked_in first ++ asked_in second) k tree) (sym h.gives)
        (same-read (shown_expr prefix forms first) (shown_expr prefix forms second) h.parts.shared (λ n. printed_expr unread n first) (λ n. printed_expr unread n second)
        (asked_in first) (asked_in second) (λ tree e. expr-read first h.parts.shared h.parts.parts.0 w.0 e) (λ tree e. expr-read second h.parts.shared h.parts.parts.1 w.1 e) d)

    parts-read : {m : _} (parts : Row_of-Expr m) (shared : Kind) → PartsHave scopes subs parts shared → WritableParts parts → PartsReadOf parts shared
    parts-read end_of-Expr shared h w = no_parts-read c here shared
    parts-read (more_of-Expr part parts) shared h w =
        subst (PartsRead c here (shown_expr prefix forms part ∷ shown_parts prefix forms parts) shared
        (λ n. printed_expr unread n part ∷ printed_parts unread (n + length (asked_in part)) parts)) (sym (taken-append asked (asked_in part) (asked_in_parts parts)))
        (one_more-read c here (shown_expr prefix forms part) shared (λ n. printed_expr unread n part) (taken asked (asked_in part))
        (λ tree d. expr-read part shared h.0 w.0 d) (shown_parts prefix forms parts) (λ n. printed_parts unread n parts) (taken asked (asked_in_parts parts))
        (length (asked_in part)) (parts-read parts shared h.1 w.1) (taken-count asked (asked_in part)))

    steps-read : {m : _} (steps : Row_of-ChainStep m) → StepsHave scopes subs steps → WritableSteps steps → (trees : List ExprStep)
        → Along IsStepTree (shown_steps prefix forms steps) trees
        → StepsRead here (map (step_part c) trees) (λ n. printed_steps unread n steps) (taken asked (asked_in_steps steps))
    steps-read end_of-ChainStep h w [] d = no_steps-read here
    steps-read end_of-ChainStep h w (tree ∷ trees) d = absurd d
    steps-read (more_of-ChainStep operation part steps) h w [] d = absurd d
    steps-read (more_of-ChainStep operation part steps) h w (tree ∷ trees) d =
        let made : ℕ → List ChainStep = λ n. record { op = operation; part = printed_expr unread n part } ∷ printed_steps unread (n + length (asked_in part)) steps in
        subst (StepsRead here (map (step_part c) (tree ∷ trees)) made) (sym (taken-append asked (asked_in part) (asked_in_steps steps)))
        (step-named c here (record { op = operation; part = shown_expr prefix forms part }) tree trees (λ n. printed_expr unread n part) (λ n. printed_steps unread n steps)
        (taken asked (asked_in part)) (taken asked (asked_in_steps steps)) (length (asked_in part)) d.0.op_is
        (expr-read part kinds.Integer h.0 w.0 d.0.part) (steps-read steps h.1 w.1 trees d.1) (taken-count asked (asked_in part)))

    arms-read : {m : _} (arms : Row_of-Arm m) (shared : Kind) → ArmsHave scopes subs arms shared → WritableArms arms → (trees : List ArmTree)
        → Along IsArmTree (shown_arms prefix forms arms) trees → (last : ExprTree) (otherwise : ℕ → Expr) (more : List Sublink)
        → IsRead ((part_of c last).means here) shared otherwise more
        → ArmsRead here shared (map (arm_part c) trees) (operand here alike (part_of c last)) (λ n. printed_arms unread n arms)
        (λ n. otherwise (n + length (asked_in_arms arms))) (taken asked (asked_in_arms arms) ++ more)
    arms-read end_of-Arm shared h w [] d last otherwise more r = arms-last shared last otherwise more r
    arms-read end_of-Arm shared h w (tree ∷ trees) d last otherwise more r = absurd d
    arms-read (more_of-Arm condition arm arms) shared h w [] d last otherwise more r = absurd d
    arms-read (more_of-Arm condition arm arms) shared h w (tree ∷ trees) d last otherwise more r =
        arm-next shared tree trees (operand here alike (part_of c last)) (λ n. printed_expr unread n condition) (λ n. printed_expr unread n arm)
        (λ n. printed_arms unread n arms) otherwise (asked_in condition) (asked_in arm) (asked_in_arms arms) more
        (expr-read condition kinds.Boolean h.condition w.0 d.0.condition) (expr-read arm shared h.arm w.1 d.0.value)
        (arms-read arms shared h.others w.2 trees d.1 last otherwise more r)
