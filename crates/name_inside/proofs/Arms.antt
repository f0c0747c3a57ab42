-- What is added where an expression has one form or another, of what is added for its parts.
use Rattle.std.specs.Prelude.{◌≡◌, ⊤, ℕ, ℤ, Bool, List, [], ◌∷◌, ◌++◌, map, flat_map, Option, Some, None, option_map}
use Rattle.std.proofs.Common.{ap, sym, subst, ◌∙◌}
use Rattle.null_logic.specs.declared.compare.Compare.{Compare}
use Rattle.null_logic.specs.declared.operator.Operator.{Operator}
use Rattle.null_logic.specs.declared.truth.Truth.{Truth}
use Rattle.perm_catalog.specs.Contents.{Contents}
use Rattle.perm_values.specs.declared.kind.Kind.{Kind}
use Rattle.sql_tree.specs.declared.expression.AggWord.{AggWord}
use Rattle.sql_tree.specs.declared.expression.ArmTree.{ArmTree}
use Rattle.sql_tree.specs.declared.expression.ExprBody.TheOpen.{ExprBody-F}
use Rattle.sql_tree.specs.declared.expression.ExprBody.TheVariants as e
use Rattle.sql_tree.specs.declared.expression.ExprStep.{ExprStep}
use Rattle.sql_tree.specs.declared.expression.ExprTree.{ExprTree}
use Rattle.sql_tree.specs.declared.name.ColRef.{ColRef}
use Rattle.sql_tree.specs.declared.query.QueryTree.{QueryTree}
use Rattle.name_meaning.proofs.Equations.{ExprBodyFrame, token, exprstep-record, armtree-record}
use Rattle.name_meaning.proofs.Forms.{means-null, means-nullof, means-integer, means-text, means-truth, means-column, means-paren, means-nots, means-signs, means-logic, means-chain, means-compared, means-like, means-between, means-inlist, means-inquery, means-quantified, means-isnull, means-istruth, means-isdistinct, means-case-none, means-case-some, means-coalesce, means-nullif, means-aggregate-none, means-aggregate-some, means-exists, means-scalar}
use Rattle.name_meaning.specs.Expressions.{body_step}
use Rattle.name_meaning.specs.Meanings.{Surroundings, means_at, query_means_at}
use Rattle.name_meaning.specs.Sublinks.{around_of}
use Rattle.name_meaning.specs.Trees.{arm_of, part_of, query_of, step_of}
use Rattle.name_inside.specs.Held.{Adds, Held, held, held_arm, held_at, held_optional, held_query, held_step}
use Rattle.name_inside.specs.declared.gathered.Gathered.{Gathered}
use Rattle.name_inside.proofs.Bare.{bare-tree}
use Rattle.name_inside.proofs.Forms.{TestedBare, over-body, parts_in}
use Rattle.name_inside.proofs.Over.{IsOver, adds-both, adds-nothing, adds-over, over-alike}

pub step-held : (c : Contents) (here : Surroundings) (step : ExprStep) → held_at here (part_of c step.part) ≡ held_step here (step_of c step)
unfolding token
step-held c here step = ap (held_step here) (sym (exprstep-record c step.op step.part))

pub arm-held : (c : Contents) (here : Surroundings) (arm : ArmTree)
    → (held_at here (part_of c arm.condition) ∷ held_at here (part_of c arm.value) ∷ []) ≡ held_arm here (arm_of c arm)
unfolding token
arm-held c here arm = ap (held_arm here) (sym (armtree-record c arm.condition arm.value))

pub step-adds : (c : Contents) (here : Surroundings) (step : ExprStep) {old new : Gathered}
    → Adds (held_at here (part_of c step.part) ∷ []) old new → Adds (held_step here (step_of c step) ∷ []) old new
step-adds c here step {old = old} {new = new} added = subst (λ (h : Held). Adds (h ∷ []) old new) (step-held c here step) added

pub arm-adds : (c : Contents) (here : Surroundings) (arm : ArmTree) {old middle new : Gathered}
    → Adds (held_at here (part_of c arm.condition) ∷ []) old middle → Adds (held_at here (part_of c arm.value) ∷ []) middle new
    → Adds (held_arm here (arm_of c arm)) old new
arm-adds c here arm {old = old} {new = new} condition value =
    subst (λ (hs : List Held). Adds hs old new) (arm-held c here arm) (adds-both condition value)

module _ (c : Contents) (here : Surroundings) where
  abbrev pub Held_part : ExprTree → Held
  Held_part tree = held_at here (part_of c tree)

  -- the part as it was read
  read_part : (read part : ExprTree) {old new : Gathered} → read ≡ part → Adds (Held_part read ∷ []) old new → Adds (Held_part part ∷ []) old new
  read_part read part {old = old} {new = new} same added = subst (λ (t : ExprTree). Adds (Held_part t ∷ []) old new) same added

  read_query : (read query : QueryTree) {old new : Gathered} → read ≡ query
      → Adds (held_query (query_means_at (query_of c read) (around_of here)) ∷ []) old new
      → Adds (held_query ((query_of c query).means (around_of here)) ∷ []) old new
  unfolding query_means_at
  read_query read query {old = old} {new = new} same added =
      subst (λ (q : QueryTree). Adds (held_query (query_means_at (query_of c q) (around_of here)) ∷ []) old new) same added

  module _ (tree : ExprTree) where
    form-over : (frame : ExprBodyFrame) → TestedBare frame → means_at (part_of c tree) here ≡ (body_step frame).means tree.at here
        → IsOver (Held_part tree) (parts_in here frame)
    form-over frame bare is = over-alike (ap held is) (over-body frame bare tree.at here)

    pub null_adds : (old : Gathered) → tree.body ≡ e.Null → Adds (Held_part tree ∷ []) old old
    null_adds old is = adds-nothing old (form-over (ExprBody-F.Null) tt (means-null c here tree is))

    pub nullof_adds : (k : Kind) (old : Gathered) → tree.body ≡ e.NullOf k → Adds (Held_part tree ∷ []) old old
    nullof_adds k old is = adds-nothing old (form-over (ExprBody-F.NullOf k) tt (means-nullof c here tree k is))

    pub integer_adds : (n : ℤ) (old : Gathered) → tree.body ≡ e.Integer n → Adds (Held_part tree ∷ []) old old
    integer_adds n old is = adds-nothing old (form-over (ExprBody-F.Integer n) tt (means-integer c here tree n is))

    pub text_adds : (t : List ℕ) (old : Gathered) → tree.body ≡ e.Text t → Adds (Held_part tree ∷ []) old old
    text_adds t old is = adds-nothing old (form-over (ExprBody-F.Text t) tt (means-text c here tree t is))

    pub truth_adds : (b : Bool) (old : Gathered) → tree.body ≡ e.Truth b → Adds (Held_part tree ∷ []) old old
    truth_adds b old is = adds-nothing old (form-over (ExprBody-F.Truth b) tt (means-truth c here tree b is))

    pub column_adds : (r : ColRef) (old : Gathered) → tree.body ≡ e.Column r → Adds (Held_part tree ∷ []) old old
    column_adds r old is = adds-nothing old (form-over (ExprBody-F.Column r) tt (means-column c here tree r is))

    pub paren_adds : (p f : ExprTree) (old new : Gathered) → tree.body ≡ e.Paren p → f ≡ p
        → Adds (Held_part f ∷ []) old new → Adds (Held_part tree ∷ []) old new
    paren_adds p f old new is same added =
        adds-over (form-over (ExprBody-F.«ExprBody::Paren» (part_of c p)) tt (means-paren c here tree p is)) (read_part f p same added)

    pub nots_adds : (n : ℕ) (p f : ExprTree) (old new : Gathered) → tree.body ≡ e.Nots n p → f ≡ p
        → Adds (Held_part f ∷ []) old new → Adds (Held_part tree ∷ []) old new
    nots_adds n p f old new is same added =
        adds-over (form-over (ExprBody-F.Nots n (part_of c p)) tt (means-nots c here tree n p is)) (read_part f p same added)

    pub signs_adds : (n : ℕ) (p f : ExprTree) (old new : Gathered) → tree.body ≡ e.Signs n p → f ≡ p
        → Adds (Held_part f ∷ []) old new → Adds (Held_part tree ∷ []) old new
    signs_adds n p f old new is same added =
        adds-over (form-over (ExprBody-F.Signs n (part_of c p)) tt (means-signs c here tree n p is)) (read_part f p same added)

    pub isnull_adds : (b : Bool) (p f : ExprTree) (old new : Gathered) → tree.body ≡ e.IsNull b p → f ≡ p
        → Adds (Held_part f ∷ []) old new → Adds (Held_part tree ∷ []) old new
    isnull_adds b p f old new is same added =
        adds-over (form-over (ExprBody-F.IsNull b (part_of c p)) tt (means-isnull c here tree b p is)) (read_part f p same added)

    pub istruth_adds : (b : Bool) (t : Truth) (p f : ExprTree) (old new : Gathered) → tree.body ≡ e.IsTruth b t p → f ≡ p
        → Adds (Held_part f ∷ []) old new → Adds (Held_part tree ∷ []) old new
    istruth_adds b t p f old new is same added =
        adds-over (form-over (ExprBody-F.IsTruth b t (part_of c p)) tt (means-istruth c here tree b t p is)) (read_part f p same added)

    pub compared_adds : (op : Compare) (p q f g : ExprTree) (old middle new : Gathered) → tree.body ≡ e.Compared op p q → f ≡ p → g ≡ q
        → Adds (Held_part f ∷ []) old middle → Adds (Held_part g ∷ []) middle new → Adds (Held_part tree ∷ []) old new
    compared_adds op p q f g old middle new is same same_too first second =
        adds-over (form-over (ExprBody-F.Compared op (part_of c p) (part_of c q)) tt (means-compared c here tree op p q is))
        (adds-both (read_part f p same first) (read_part g q same_too second))

    pub like_adds : (b : Bool) (p q f g : ExprTree) (old middle new : Gathered) → tree.body ≡ e.Like b p q → f ≡ p → g ≡ q
        → Adds (Held_part f ∷ []) old middle → Adds (Held_part g ∷ []) middle new → Adds (Held_part tree ∷ []) old new
    like_adds b p q f g old middle new is same same_too first second =
        adds-over (form-over (ExprBody-F.Like b (part_of c p) (part_of c q)) tt (means-like c here tree b p q is))
        (adds-both (read_part f p same first) (read_part g q same_too second))

    pub isdistinct_adds : (b : Bool) (p q f g : ExprTree) (old middle new : Gathered) → tree.body ≡ e.IsDistinct b p q → f ≡ p → g ≡ q
        → Adds (Held_part f ∷ []) old middle → Adds (Held_part g ∷ []) middle new → Adds (Held_part tree ∷ []) old new
    isdistinct_adds b p q f g old middle new is same same_too first second =
        adds-over (form-over (ExprBody-F.IsDistinct b (part_of c p) (part_of c q)) tt (means-isdistinct c here tree b p q is))
        (adds-both (read_part f p same first) (read_part g q same_too second))

    pub nullif_adds : (p q f g : ExprTree) (old middle new : Gathered) → tree.body ≡ e.NullIf p q → f ≡ p → g ≡ q
        → Adds (Held_part f ∷ []) old middle → Adds (Held_part g ∷ []) middle new → Adds (Held_part tree ∷ []) old new
    nullif_adds p q f g old middle new is same same_too first second =
        adds-over (form-over (ExprBody-F.NullIf (part_of c p) (part_of c q)) tt (means-nullif c here tree p q is))
        (adds-both (read_part f p same first) (read_part g q same_too second))

    pub between_adds : (b : Bool) (p q s f g h : ExprTree) (old middle later new : Gathered) → tree.body ≡ e.Between b p q s → f ≡ p → g ≡ q → h ≡ s
        → Adds (Held_part f ∷ []) old middle → Adds (Held_part g ∷ []) middle later → Adds (Held_part h ∷ []) later new → Adds (Held_part tree ∷ []) old new
    between_adds b p q s f g h old middle later new is same_f same_g same_h first second third =
        adds-over (form-over (ExprBody-F.Between b (part_of c p) (part_of c q) (part_of c s)) tt (means-between c here tree b p q s is))
        (adds-both (read_part f p same_f first) (adds-both (read_part g q same_g second) (read_part h s same_h third)))

    pub logic_adds : (op : Operator) (ps qs : List ExprTree) (old new : Gathered) → tree.body ≡ e.Logic op ps → qs ≡ ps
        → Adds (map (held_at here) (map (part_of c) qs)) old new → Adds (Held_part tree ∷ []) old new
    logic_adds op ps qs old new is same added =
        adds-over (form-over (ExprBody-F.Logic op (map (part_of c) ps)) tt (means-logic c here tree op ps is))
        (subst (λ (trees : List ExprTree). Adds (map (held_at here) (map (part_of c) trees)) old new) same added)

    pub coalesce_adds : (ps qs : List ExprTree) (old new : Gathered) → tree.body ≡ e.Coalesce ps → qs ≡ ps
        → Adds (map (held_at here) (map (part_of c) qs)) old new → Adds (Held_part tree ∷ []) old new
    coalesce_adds ps qs old new is same added =
        adds-over (form-over (ExprBody-F.Coalesce (map (part_of c) ps)) tt (means-coalesce c here tree ps is))
        (subst (λ (trees : List ExprTree). Adds (map (held_at here) (map (part_of c) trees)) old new) same added)

    pub inlist_adds : (b : Bool) (p f : ExprTree) (ps qs : List ExprTree) (old middle new : Gathered) → tree.body ≡ e.InList b p ps → f ≡ p → qs ≡ ps
        → Adds (Held_part f ∷ []) old middle → Adds (map (held_at here) (map (part_of c) qs)) middle new → Adds (Held_part tree ∷ []) old new
    inlist_adds b p f ps qs old middle new is same same_too first more =
        adds-over (form-over (ExprBody-F.InList b (part_of c p) (map (part_of c) ps)) tt (means-inlist c here tree b p ps is))
        (adds-both (read_part f p same first) (subst (λ (trees : List ExprTree). Adds (map (held_at here) (map (part_of c) trees)) middle new) same_too more))

    pub chain_adds : (p f : ExprTree) (ss qs : List ExprStep) (old middle new : Gathered) → tree.body ≡ e.Chain p ss → f ≡ p → qs ≡ ss
        → Adds (Held_part f ∷ []) old middle → Adds (map (held_step here) (map (step_of c) qs)) middle new → Adds (Held_part tree ∷ []) old new
    chain_adds p f ss qs old middle new is same same_too first more =
        adds-over (form-over (ExprBody-F.«ExprBody::Chain» (part_of c p) (map (step_of c) ss)) tt (means-chain c here tree p ss is))
        (adds-both (read_part f p same first) (subst (λ (steps : List ExprStep). Adds (map (held_step here) (map (step_of c) steps)) middle new) same_too more))

    pub case_adds : (arms qs : List ArmTree) (otherwise : Option ExprTree) (old middle new : Gathered) → tree.body ≡ e.Case arms otherwise → qs ≡ arms
        → Adds (flat_map (held_arm here) (map (arm_of c) qs)) old middle → Adds (held_optional here (option_map (part_of c) otherwise)) middle new
        → Adds (Held_part tree ∷ []) old new
    case_adds arms qs None old middle new is same in_arms behind =
        adds-over (form-over (ExprBody-F.Case (map (arm_of c) arms) None) tt (means-case-none c here tree arms is))
        (adds-both (subst (λ (trees : List ArmTree). Adds (flat_map (held_arm here) (map (arm_of c) trees)) old middle) same in_arms) behind)
    case_adds arms qs (Some last) old middle new is same in_arms behind =
        adds-over (form-over (ExprBody-F.Case (map (arm_of c) arms) (Some (part_of c last))) tt (means-case-some c here tree arms last is))
        (adds-both (subst (λ (trees : List ArmTree). Adds (flat_map (held_arm here) (map (arm_of c) trees)) old middle) same in_arms) behind)

    pub aggregate_adds : (w : AggWord) (argument : Option ExprTree) (old : Gathered) → tree.body ≡ e.Aggregate w argument → Adds (Held_part tree ∷ []) old old
    aggregate_adds w None old is = adds-nothing old (form-over (ExprBody-F.Aggregate w None) tt (means-aggregate-none c here tree w is))
    aggregate_adds w (Some argument) old is =
        adds-nothing old (form-over (ExprBody-F.Aggregate w (Some (part_of c argument))) (bare-tree c argument) (means-aggregate-some c here tree w argument is))

    pub inquery_adds : (b : Bool) (p : ExprTree) (q read : QueryTree) (old new : Gathered) → tree.body ≡ e.InQuery b p q → read ≡ q
        → Adds (held_query (query_means_at (query_of c read) (around_of here)) ∷ []) old new → Adds (Held_part tree ∷ []) old new
    inquery_adds b p q read old new is same added =
        adds-over (form-over (ExprBody-F.InQuery b (part_of c p) (query_of c q)) (bare-tree c p) (means-inquery c here tree b p q is)) (read_query read q same added)

    pub quantified_adds : (b : Bool) (op : Compare) (p : ExprTree) (q read : QueryTree) (old new : Gathered) → tree.body ≡ e.Quantified b op p q → read ≡ q
        → Adds (held_query (query_means_at (query_of c read) (around_of here)) ∷ []) old new → Adds (Held_part tree ∷ []) old new
    quantified_adds b op p q read old new is same added =
        adds-over (form-over (ExprBody-F.Quantified b op (part_of c p) (query_of c q)) (bare-tree c p) (means-quantified c here tree b op p q is)) (read_query read q same added)

    pub exists_adds : (q read : QueryTree) (old new : Gathered) → tree.body ≡ e.Exists q → read ≡ q
        → Adds (held_query (query_means_at (query_of c read) (around_of here)) ∷ []) old new → Adds (Held_part tree ∷ []) old new
    exists_adds q read old new is same added =
        adds-over (form-over (ExprBody-F.Exists (query_of c q)) tt (means-exists c here tree q is)) (read_query read q same added)

    pub scalar_adds : (q read : QueryTree) (old new : Gathered) → tree.body ≡ e.Scalar q → read ≡ q
        → Adds (held_query (query_means_at (query_of c read) (around_of here)) ∷ []) old new → Adds (Held_part tree ∷ []) old new
    scalar_adds q read old new is same added =
        adds-over (form-over (ExprBody-F.Scalar (query_of c q)) tt (means-scalar c here tree q is)) (read_query read q same added)
