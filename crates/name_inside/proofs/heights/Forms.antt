-- The sublinks of an expression of each form are those of its parts.
use Rattle.std.specs.Prelude.{◌≡◌, ◌≤◌, ℕ, max, Bool, true, false, cond, not, List, [], ◌∷◌, ◌++◌, map, flat_map, Option, Some, None, option_map}
use Rattle.std.proofs.Common.{arith, subst, sym}
use Rattle.bag_algebra.specs.declared.expr.Expr.TheVariants.{IsNull, IsTruth, Op, Same}
use Rattle.bag_algebra.specs.declared.query.SubKind.{SubKind}
use Rattle.null_logic.specs.declared.compare.Compare.{Compare}
use Rattle.null_logic.specs.declared.compare.Compare.TheVariants.{Equal, NotEqual}
use Rattle.null_logic.specs.declared.operator.Operator.{Operator}
use Rattle.null_logic.specs.declared.operator.Operator.TheVariants as x
use Rattle.null_logic.specs.declared.truth.Truth.{Truth}
use Rattle.perm_catalog.specs.Contents.{Contents}
use Rattle.perm_values.specs.declared.kind.Kind.{Kind}
use Rattle.perm_values.specs.declared.kind.Kind.TheVariants as kind
use Rattle.perm_values.proofs.Lists.{front-none, back-none}
use Rattle.sql_tree.specs.declared.expression.ArmTree.{ArmTree}
use Rattle.sql_tree.specs.declared.expression.ExprBody.TheOpen.{ExprBody-F}
use Rattle.sql_tree.specs.declared.expression.ExprBody.TheVariants as e
use Rattle.sql_tree.specs.declared.expression.ExprStep.{ExprStep}
use Rattle.sql_tree.specs.declared.expression.ExprTree.{ExprTree}
use Rattle.sql_tree.specs.declared.name.Name.{Name}
use Rattle.sql_tree.specs.declared.query.QueryTree.{QueryTree}
use Rattle.sql_tree.specs.declared.query.SelectItem.{SelectItem}
use Rattle.sql_tree.specs.declared.query.SelectItem.TheVariants as i
use Rattle.name_meaning.proofs.Equations.{ExprBodyFrame, token, armtree-record, exprstep-record, selectitem-value}
use Rattle.name_meaning.proofs.Forms.{means-paren, means-nots, means-signs, means-logic, means-chain, means-compared, means-like, means-between, means-inlist, means-inquery, means-quantified, means-isnull, means-istruth, means-isdistinct, means-case-none, means-case-some, means-coalesce, means-nullif, means-exists, means-scalar}
use Rattle.name_meaning.specs.Expressions.{ArmPart, StepPart, arm_operands, body_step, case_made, chain_gives, chain_made, else_operand, first_need, first_of, in_kind, negated_if, null_meant, second_of, step_operand, times}
use Rattle.name_meaning.specs.Items.{SelectMeant, SelectPart, first_wanted}
use Rattle.name_meaning.specs.Meanings.{Meant, Part, QueryMeant, QueryPart, Surroundings, broken_if, means_at, query_means_at, seen_kind, settled}
use Rattle.name_meaning.specs.Operands.{gives_of, need_of, operand}
use Rattle.name_meaning.specs.Sublinks.{around_of, breaking, exists_meant, first_kind, if_standing, in_tested, is_one_column, nothing_before, scalar_meant, tested_break, tested_kind, tested_looked, tested_meant, tested_unlooked}
use Rattle.name_meaning.specs.Trees.{arm_of, item_of, part_of, query_of, step_of}
use Rattle.name_meaning.specs.declared.need.Gives.TheVariants.{Always as always, Common as common}
use Rattle.name_meaning.specs.declared.need.Need.{Need}
use Rattle.name_meaning.specs.declared.need.Need.TheVariants.{OfKind as of_kind, Alike as alike, Free as free}
use Rattle.name_meaning.specs.declared.rule.Rule.TheVariants as rule
use Rattle.name_meaning.specs.declared.scope.Scope.{Scope}
use Rattle.name_inside.proofs.heights.Operands.{node-high, operand-alone, operand-at, operands-both}
use Rattle.name_inside.specs.heights.High.{ListHigh, OperandsHigh, OptionalHigh, QueryHigh, SelectHigh, SubsHigh}

pub any-subs : (m : Meant) → SubsHigh 0 m
any-subs m none wanted before = omega arith

-- ---- sublinks

exists-high : (n : ℕ) (here : Surroundings) (at : ℕ) (q : QueryMeant) → QueryHigh n q → SubsHigh n (exists_meant here at q)
exists-high n here at q high none wanted before = omega (arith, high none [])

scalar-high : (n : ℕ) (here : Surroundings) (at : ℕ) (q : QueryMeant) → QueryHigh n q → SubsHigh n (scalar_meant here at q)
scalar-high n here at q high none wanted before =
    omega (arith, high (front-none q.breaks (broken_if (not (is_one_column q.columns)) rule.UnfitWidth at) none) (settled (first_kind q) wanted ∷ []))

standing-high : (n : ℕ) (here : Surroundings) (at : ℕ) (kind : Option Kind) (m : Meant) → SubsHigh n m → SubsHigh n (if_standing here at kind m)
standing-high n here at kind m high = chosen here.sublinks where
  chosen : (b : Bool) → SubsHigh n (cond b m (breaking rule.MisplacedSublink at kind))
  chosen true = high
  chosen false = λ none wanted before. absurd (cc none)

tested-high : (n : ℕ) (here : Surroundings) (at : ℕ) (sub : SubKind) (part : Part) (query : QueryPart) → QueryHigh n (query.means (around_of here))
    → SubsHigh n (tested_meant here at sub part query)
tested-high n here at sub part query high = chosen here.sublinks where
  tested : Meant
  tested = part.means (in_tested here)

  q : QueryMeant
  q = query.means (around_of here)

  chosen : (b : Bool) → SubsHigh n (cond b (tested_looked sub (part.means (in_tested here)) query.at (query.means (around_of here)))
      (tested_unlooked at (part.means (in_tested here))))
  chosen true = λ none wanted before.
      let whole = back-none tested.breaks q.breaks (front-none (tested.breaks ++ q.breaks) (tested_break (seen_kind tested) query.at q) none) in
      omega (arith, high whole (tested_kind tested q ∷ []))
  chosen false = λ none wanted before. absurd (cc (back-none tested.breaks _ none))

-- ---- every form, of its tree

module _ (c : Contents) (here : Surroundings) where
  abbrev pub PartHigh : ℕ → ExprTree → Type 0
  PartHigh n tree = SubsHigh n (means_at (part_of c tree) here)

  abbrev pub InnerHigh : ℕ → QueryTree → Type 0
  InnerHigh n query = QueryHigh n (query_means_at (query_of c query) (around_of here))

  abbrev pub TreesHigh : ℕ → Need → List ExprTree → Type 0
  TreesHigh n need trees = OperandsHigh n (map (operand here need) (map (part_of c) trees))

  module _ (tree : ExprTree) (n : ℕ) where
    of-form : (frame : ExprBodyFrame) → means_at (part_of c tree) here ≡ (body_step frame).means tree.at here
        → SubsHigh n ((body_step frame).means tree.at here) → PartHigh n tree
    of-form frame is high = subst (SubsHigh n) (sym is) high

    pub paren-high : (p : ExprTree) → tree.body ≡ e.Paren p → PartHigh n p → PartHigh n tree
    unfolding means_at
    paren-high p is high = of-form (ExprBody-F.«ExprBody::Paren» (part_of c p)) (means-paren c here tree p is) high

    pub nots-high : (count : ℕ) (p : ExprTree) → tree.body ≡ e.Nots count p → PartHigh n p → PartHigh n tree
    nots-high count p is high = of-form (ExprBody-F.Nots count (part_of c p)) (means-nots c here tree count p is)
        (node-high n (gives_of x.Not true) (λ es. times x.Not count (first_of es)) (operand here (need_of x.Not true) (part_of c p) ∷ [])
        (operand-at n here (need_of x.Not true) (part_of c p) high))

    pub signs-high : (count : ℕ) (p : ExprTree) → tree.body ≡ e.Signs count p → PartHigh n p → PartHigh n tree
    signs-high count p is high = of-form (ExprBody-F.Signs count (part_of c p)) (means-signs c here tree count p is)
        (node-high n (gives_of x.Negate true) (λ es. times x.Negate count (first_of es)) (operand here (need_of x.Negate true) (part_of c p) ∷ [])
        (operand-at n here (need_of x.Negate true) (part_of c p) high))

    pub isnull-high : (b : Bool) (p : ExprTree) → tree.body ≡ e.IsNull b p → PartHigh n p → PartHigh n tree
    isnull-high b p is high = of-form (ExprBody-F.IsNull b (part_of c p)) (means-isnull c here tree b p is)
        (node-high n (always kind.Boolean) (λ es. negated_if b (IsNull (first_of es))) (operand here free (part_of c p) ∷ [])
        (operand-at n here free (part_of c p) high))

    pub istruth-high : (b : Bool) (t : Truth) (p : ExprTree) → tree.body ≡ e.IsTruth b t p → PartHigh n p → PartHigh n tree
    istruth-high b t p is high = of-form (ExprBody-F.IsTruth b t (part_of c p)) (means-istruth c here tree b t p is)
        (node-high n (always kind.Boolean) (λ es. negated_if b (IsTruth t (first_of es))) (operand here (of_kind kind.Boolean) (part_of c p) ∷ [])
        (operand-at n here (of_kind kind.Boolean) (part_of c p) high))

    pub logic-high : (op : Operator) (ps : List ExprTree) → tree.body ≡ e.Logic op ps → ((need : Need) → TreesHigh n need ps) → PartHigh n tree
    logic-high op ps is high = of-form (ExprBody-F.Logic op (map (part_of c) ps)) (means-logic c here tree op ps is)
        (node-high n (gives_of op false) (Op op) (map (operand here (need_of op false)) (map (part_of c) ps)) (high (need_of op false)))

    pub coalesce-high : (ps : List ExprTree) → tree.body ≡ e.Coalesce ps → ((need : Need) → TreesHigh n need ps) → PartHigh n tree
    coalesce-high ps is high = of-form (ExprBody-F.Coalesce (map (part_of c) ps)) (means-coalesce c here tree ps is)
        (node-high n common (Op x.Coalesce) (map (operand here alike) (map (part_of c) ps)) (high alike))

    -- two operands, whatever each needs
    abbrev pub PairHigh : ExprTree → ExprTree → Type 0
    PairHigh p q = (need more : Need) → OperandsHigh n (operand here need (part_of c p) ∷ operand here more (part_of c q) ∷ [])

    pub compared-high : (op : Compare) (p q : ExprTree) → tree.body ≡ e.Compared op p q → PairHigh p q → PartHigh n tree
    compared-high op p q is high = of-form (ExprBody-F.Compared op (part_of c p) (part_of c q)) (means-compared c here tree op p q is)
        (node-high n (gives_of (x.Compare op) false) (Op (x.Compare op))
        (operand here (need_of (x.Compare op) false) (part_of c p) ∷ operand here (need_of (x.Compare op) false) (part_of c q) ∷ [])
        (high (need_of (x.Compare op) false) (need_of (x.Compare op) false)))

    pub like-high : (b : Bool) (p q : ExprTree) → tree.body ≡ e.Like b p q → PairHigh p q → PartHigh n tree
    like-high b p q is high = of-form (ExprBody-F.Like b (part_of c p) (part_of c q)) (means-like c here tree b p q is)
        (node-high n (gives_of x.Like false) (λ es. negated_if b (Op x.Like es))
        (operand here (need_of x.Like false) (part_of c p) ∷ operand here (need_of x.Like false) (part_of c q) ∷ [])
        (high (need_of x.Like false) (need_of x.Like false)))

    pub isdistinct-high : (b : Bool) (p q : ExprTree) → tree.body ≡ e.IsDistinct b p q → PairHigh p q → PartHigh n tree
    isdistinct-high b p q is high = of-form (ExprBody-F.IsDistinct b (part_of c p) (part_of c q)) (means-isdistinct c here tree b p q is)
        (node-high n (always kind.Boolean) (λ es. negated_if (not b) (Same (first_of es) (second_of es)))
        (operand here alike (part_of c p) ∷ operand here alike (part_of c q) ∷ []) (high alike alike))

    pub nullif-high : (p q : ExprTree) → tree.body ≡ e.NullIf p q → PairHigh p q → PartHigh n tree
    nullif-high p q is high = of-form (ExprBody-F.NullIf (part_of c p) (part_of c q)) (means-nullif c here tree p q is)
        (node-high n common (Op x.NullIf) (operand here alike (part_of c p) ∷ operand here alike (part_of c q) ∷ []) (high alike alike))

    pub inquery-high : (b : Bool) (p : ExprTree) (q : QueryTree) → tree.body ≡ e.InQuery b p q → InnerHigh n q → PartHigh n tree
    unfolding query_means_at
    inquery-high b p q is high = of-form (ExprBody-F.InQuery b (part_of c p) (query_of c q)) (means-inquery c here tree b p q is)
        (tested-high n here tree.at (in_kind b (cond b NotEqual Equal)) (part_of c p) (query_of c q) high)

    pub quantified-high : (b : Bool) (op : Compare) (p : ExprTree) (q : QueryTree) → tree.body ≡ e.Quantified b op p q → InnerHigh n q → PartHigh n tree
    unfolding query_means_at
    quantified-high b op p q is high = of-form (ExprBody-F.Quantified b op (part_of c p) (query_of c q)) (means-quantified c here tree b op p q is)
        (tested-high n here tree.at (in_kind b op) (part_of c p) (query_of c q) high)

    pub exists_tree-high : (q : QueryTree) → tree.body ≡ e.Exists q → InnerHigh n q → PartHigh n tree
    unfolding query_means_at
    exists_tree-high q is high =
        let query = query_of c q in
        of-form (ExprBody-F.Exists query) (means-exists c here tree q is)
        (standing-high n here tree.at (Some kind.Boolean) (exists_meant here query.at (query.means (around_of here)))
        (exists-high n here query.at (query.means (around_of here)) high))

    pub scalar_tree-high : (q : QueryTree) → tree.body ≡ e.Scalar q → InnerHigh n q → PartHigh n tree
    unfolding query_means_at
    scalar_tree-high q is high =
        let query = query_of c q in
        of-form (ExprBody-F.Scalar query) (means-scalar c here tree q is)
        (standing-high n here tree.at None (scalar_meant here query.at (query.means (around_of here)))
        (scalar-high n here query.at (query.means (around_of here)) high))

  module _ (tree : ExprTree) (a b : ℕ) where
    pub between-high : (negated : Bool) (p q r : ExprTree) → tree.body ≡ e.Between negated p q r → PartHigh a p → PairHigh tree b q r → PartHigh (max a b) tree
    between-high negated p q r is first more =
        let need = need_of x.Between false in
        of-form tree (max a b) (ExprBody-F.Between negated (part_of c p) (part_of c q) (part_of c r)) (means-between c here tree negated p q r is)
        (node-high (max a b) (gives_of x.Between false) (λ es. negated_if negated (Op x.Between es))
        (operand here need (part_of c p) ∷ operand here need (part_of c q) ∷ operand here need (part_of c r) ∷ [])
        (operands-both a b (operand here need (part_of c p) ∷ []) (operand here need (part_of c q) ∷ operand here need (part_of c r) ∷ [])
        (operand-at a here need (part_of c p) first) (more need need)))

    pub inlist-high : (negated : Bool) (p : ExprTree) (ps : List ExprTree) → tree.body ≡ e.InList negated p ps → PartHigh a p
        → ((need : Need) → TreesHigh b need ps) → PartHigh (max a b) tree
    inlist-high negated p ps is first more =
        let need = need_of x.InList false in
        of-form tree (max a b) (ExprBody-F.InList negated (part_of c p) (map (part_of c) ps)) (means-inlist c here tree negated p ps is)
        (node-high (max a b) (gives_of x.InList false) (λ es. negated_if negated (Op x.InList es))
        (operand here need (part_of c p) ∷ map (operand here need) (map (part_of c) ps))
        (operands-both a b (operand here need (part_of c p) ∷ []) (map (operand here need) (map (part_of c) ps))
        (operand-at a here need (part_of c p) first) (more need)))

    pub chain-high : (p : ExprTree) (ss : List ExprStep) → tree.body ≡ e.Chain p ss → PartHigh a p
        → OperandsHigh b (map (step_operand here) (map (step_of c) ss)) → PartHigh (max a b) tree
    chain-high p ss is first more =
        let steps = map (step_of c) ss in
        of-form tree (max a b) (ExprBody-F.«ExprBody::Chain» (part_of c p) steps) (means-chain c here tree p ss is)
        (node-high (max a b) (chain_gives steps) (chain_made steps) (operand here (first_need steps) (part_of c p) ∷ map (step_operand here) steps)
        (operands-both a b (operand here (first_need steps) (part_of c p) ∷ []) (map (step_operand here) steps)
        (operand-at a here (first_need steps) (part_of c p) first) more))

    pub case-high : (arms : List ArmTree) (otherwise : Option ExprTree) → tree.body ≡ e.Case arms otherwise
        → OperandsHigh a (flat_map (arm_operands here) (map (arm_of c) arms)) → OperandsHigh b (else_operand here (option_map (part_of c) otherwise) ∷ [])
        → PartHigh (max a b) tree
    case-high arms None is first last =
        let parts = map (arm_of c) arms in
        of-form tree (max a b) (ExprBody-F.Case parts None) (means-case-none c here tree arms is)
        (node-high (max a b) common (case_made parts) (flat_map (arm_operands here) parts ++ else_operand here None ∷ [])
        (operands-both a b (flat_map (arm_operands here) parts) (else_operand here None ∷ []) first last))
    case-high arms (Some part) is first last =
        let parts = map (arm_of c) arms in
        of-form tree (max a b) (ExprBody-F.Case parts (Some (part_of c part))) (means-case-some c here tree arms part is)
        (node-high (max a b) common (case_made parts) (flat_map (arm_operands here) parts ++ else_operand here (Some (part_of c part)) ∷ [])
        (operands-both a b (flat_map (arm_operands here) parts) (else_operand here (Some (part_of c part)) ∷ []) first last))

  -- ---- steps, arms and what stands behind the arms

  pub step-high : (step : ExprStep) (n : ℕ) → PartHigh n step.part → OperandsHigh n (step_operand here (step_of c step) ∷ [])
  unfolding token
  step-high step n high =
      subst (λ (part : StepPart). OperandsHigh n (step_operand here part ∷ [])) (sym (exprstep-record c step.op step.part))
      (operand-at n here (need_of (x.Arith step.op) false) (part_of c step.part) high)

  pub arm-high : (arm : ArmTree) (n : ℕ)
      → ((need more : Need) → OperandsHigh n (operand here need (part_of c arm.condition) ∷ operand here more (part_of c arm.value) ∷ []))
      → OperandsHigh n (arm_operands here (arm_of c arm))
  unfolding token
  arm-high arm n high =
      subst (λ (part : ArmPart). OperandsHigh n (arm_operands here part)) (sym (armtree-record c arm.condition arm.value)) (high (of_kind kind.Boolean) alike)

  pub no-else : OperandsHigh 0 (else_operand here None ∷ [])
  no-else = operand-alone 0 (else_operand here None) (any-subs null_meant)

  pub else-high : (part : ExprTree) (n : ℕ) → PartHigh n part → OperandsHigh n (else_operand here (Some (part_of c part)) ∷ [])
  else-high part n high = operand-at n here alike (part_of c part) high

-- ---- conditions and items of a list

pub no-condition : OptionalHigh 0 None
no-condition here none = omega arith

pub condition-high : (c : Contents) (tree : ExprTree) (n : ℕ) → ((here : Surroundings) → SubsHigh n (means_at (part_of c tree) here))
    → OptionalHigh n (Some (part_of c tree))
unfolding means_at
condition-high c tree n high here none =
    let m = (part_of c tree).means here in
    high here (front-none m.breaks _ none) kind.Boolean nothing_before

pub value-high : (c : Contents) (has_from : Bool) (scope : Scope) (here : Surroundings) (item : SelectItem) (expr : ExprTree) (name : Option Name) (n : ℕ)
    → item ≡ i.Value expr name → SubsHigh n (means_at (part_of c expr) here) → SelectHigh n ((item_of c item).means has_from scope here)
unfolding token means_at
value-high c has_from scope here item expr name n is high =
    subst (λ (t : SelectItem). SelectHigh n ((item_of c t).means has_from scope here)) (sym is)
    (subst (λ (part : SelectPart). SelectHigh n (part.means has_from scope here)) (sym (selectitem-value c expr name))
    (λ none wanted before. high none (settled ((part_of c expr).means here).kind (first_wanted wanted)) before))

pub any-listed : (m : SelectMeant) → SelectHigh 0 m
any-listed m none wanted before = omega arith

pub no-items : ListHigh 0 []
no-items none wanted before = omega arith
