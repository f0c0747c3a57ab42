-- What an expression of each form is made of, its parts made where they stand.
use Rattle.std.specs.Prelude.{◌≡◌, ℕ, ℤ, Bool, true, false, cond, not, List, [], ◌∷◌, ◌++◌, map, flat_map, Some, None, Ok, Err, IfOk, Result}
use Rattle.std.proofs.Common.{refl, ap, sym, subst, ◌∙◌}
use Rattle.null_logic.specs.declared.compare.Compare.{Compare}
use Rattle.null_logic.specs.declared.compare.Compare.TheVariants as compare
use Rattle.null_logic.specs.declared.operator.Operator.{Operator}
use Rattle.null_logic.specs.declared.operator.Operator.TheVariants as operator
use Rattle.null_logic.specs.declared.truth.Truth.{Truth}
use Rattle.bag_algebra.specs.declared.expr.Arm.{Arm}
use Rattle.bag_algebra.specs.declared.expr.ChainStep.{ChainStep}
use Rattle.bag_algebra.specs.declared.expr.Expr.{Expr}
use Rattle.bag_algebra.specs.declared.expr.Expr.TheVariants.{Lit, Op, Chain, Case, IsNull, IsTruth, Same}
use Rattle.perm_catalog.specs.Contents.{Contents}
use Rattle.perm_values.specs.declared.kind.Kind.{Kind}
use Rattle.perm_values.specs.declared.kind.Kind.TheVariants as kind
use Rattle.perm_values.specs.declared.value.Value.TheVariants as v
use Rattle.sql_tree.specs.declared.expression.AggWord.{AggWord}
use Rattle.sql_tree.specs.declared.expression.ArmTree.{ArmTree}
use Rattle.sql_tree.specs.declared.expression.ExprBody.TheVariants as e
use Rattle.sql_tree.specs.declared.expression.ExprStep.{ExprStep}
use Rattle.sql_tree.specs.declared.expression.ExprTree.{ExprTree}
use Rattle.sql_tree.specs.declared.name.ColRef.{ColRef}
use Rattle.sql_tree.specs.declared.query.QueryTree.{QueryTree}
use Rattle.name_meaning.specs.Expressions.{arm_operands, else_operand, first_need, first_of, in_kind, negated_if, null_meant, second_of, times}
use Rattle.name_meaning.specs.Meanings.{Meant, Surroundings, means_at, query_means_at, settled}
use Rattle.name_meaning.specs.Operands.{Operand, alike_wanted, gives_of, need_of, node, operand, united, wanted_of}
use Rattle.name_meaning.specs.Scopes.{look_up}
use Rattle.name_meaning.specs.Sublinks.{aggregated, around_of, built_alone, column_meant, exists_meant, if_standing, in_argument, null_at, rows_counted, scalar_meant, tested_meant}
use Rattle.name_meaning.specs.Trees.{arm_of, part_of, query_of, step_of}
use Rattle.name_meaning.specs.declared.need.Gives.{Gives}
use Rattle.name_meaning.specs.declared.need.Gives.TheVariants.{Always, Common}
use Rattle.name_meaning.specs.declared.need.Need.{Need}
use Rattle.name_meaning.specs.declared.need.Need.TheVariants.{OfKind, Alike, Free}
use Rattle.name_meaning.specs.declared.scope.Found.{Found}
use Rattle.name_meaning.proofs.Equations.{token, armtree-record, exprstep-record}
use Rattle.name_meaning.proofs.Forms.{means-null, means-nullof, means-integer, means-text, means-truth, means-column, means-paren, means-nots, means-signs, means-logic, means-chain, means-compared, means-like, means-between, means-inlist, means-isnull, means-istruth, means-isdistinct, means-case-none, means-case-some, means-coalesce, means-nullif, means-aggregate-none, means-aggregate-some, means-exists, means-scalar, means-inquery, means-quantified}
use Rattle.name_meaning.specs.nodes.Makes.{before_of, Makes, MakesMore, MakesSteps, MakesArms}
use Rattle.name_meaning.specs.declared.nodes.within.Within.{Within}
use Rattle.name_meaning.proofs.ArmsMade.{alone-made, part-made, operand-one, single-made, two-more, three-more, whole-chain, whole-case}
use Rattle.name_meaning.proofs.Parts.{more-more, node-made}

-- a result that is this expression
pub told : {E : Type 0} (may_link : Bool) (m : Meant) (wanted : Kind) (e : Expr) (old new : Within) (result : Result Expr E)
    → IfOk result (λ made. made ≡ e) → Makes may_link m wanted e old new → IfOk result (λ made. Makes may_link m wanted made old new)
told may_link m wanted e old new (Ok made) is makes = subst (λ (e : Expr). Makes may_link m wanted e old new) (sym is) makes
told may_link m wanted e old new (Err error) is makes = tt

-- the parts and the whole of one form
abbrev pub Stands : Contents → Surroundings → Bool → ExprTree → Kind → Expr → Within → Within → Type 0
Stands c here may_link tree wanted made old new = Makes may_link (means_at (part_of c tree) here) wanted made old new

as-meant : (c : Contents) (here : Surroundings) (may_link : Bool) (tree : ExprTree) (wanted : Kind) (made : Expr) (old new : Within) (m : Meant)
    → means_at (part_of c tree) here ≡ m → Makes may_link m wanted made old new → Stands c here may_link tree wanted made old new
as-meant c here may_link tree wanted made old new m is makes = subst (λ (m : Meant). Makes may_link m wanted made old new) (sym is) makes

-- ---- without parts

pub null-form : (c : Contents) (here : Surroundings) (may_link : Bool) (tree : ExprTree) (wanted : Kind) (w : Within) → tree.body ≡ e.Null
    → Stands c here may_link tree wanted (null_at wanted) w w
null-form c here may_link tree wanted w is =
    as-meant c here may_link tree wanted (null_at wanted) w w _ (means-null c here tree is) (alone-made may_link null_meant wanted (null_at wanted) w refl)

pub null-of-form : (c : Contents) (here : Surroundings) (may_link : Bool) (tree : ExprTree) (wanted kind : Kind) (w : Within) → tree.body ≡ e.NullOf kind
    → Stands c here may_link tree wanted (null_at kind) w w
null-of-form c here may_link tree wanted kind w is =
    as-meant c here may_link tree wanted (null_at kind) w w _ (means-nullof c here tree kind is) (alone-made may_link _ wanted (null_at kind) w refl)

pub integer-form : (c : Contents) (here : Surroundings) (may_link : Bool) (tree : ExprTree) (wanted : Kind) (n : ℤ) (w : Within) → tree.body ≡ e.Integer n
    → Stands c here may_link tree wanted (Lit (v.Integer n) kind.Integer) w w
integer-form c here may_link tree wanted n w is =
    as-meant c here may_link tree wanted (Lit (v.Integer n) kind.Integer) w w _ (means-integer c here tree n is)
    (alone-made may_link _ wanted (Lit (v.Integer n) kind.Integer) w refl)

pub text-form : (c : Contents) (here : Surroundings) (may_link : Bool) (tree : ExprTree) (wanted : Kind) (t : List ℕ) (w : Within) → tree.body ≡ e.Text t
    → Stands c here may_link tree wanted (Lit (v.Text t) kind.Text) w w
text-form c here may_link tree wanted t w is =
    as-meant c here may_link tree wanted (Lit (v.Text t) kind.Text) w w _ (means-text c here tree t is)
    (alone-made may_link _ wanted (Lit (v.Text t) kind.Text) w refl)

pub truth-form : (c : Contents) (here : Surroundings) (may_link : Bool) (tree : ExprTree) (wanted : Kind) (b : Bool) (w : Within) → tree.body ≡ e.Truth b
    → Stands c here may_link tree wanted (Lit (v.Boolean b) kind.Boolean) w w
truth-form c here may_link tree wanted b w is =
    as-meant c here may_link tree wanted (Lit (v.Boolean b) kind.Boolean) w w _ (means-truth c here tree b is)
    (alone-made may_link _ wanted (Lit (v.Boolean b) kind.Boolean) w refl)

pub column-form : (c : Contents) (here : Surroundings) (may_link : Bool) (tree : ExprTree) (wanted : Kind) (reference : ColRef) (found : Found) (made : Expr) (w : Within)
    → tree.body ≡ e.Column reference → found ≡ look_up 0 here.scopes reference
    → built_alone made ≡ (column_meant here reference.at found).make wanted (before_of w)
    → Stands c here may_link tree wanted made w w
column-form c here may_link tree wanted reference found made w is looked built =
    as-meant c here may_link tree wanted made w w _ (means-column c here tree reference is)
    (subst (λ (found : Found). Makes may_link (column_meant here reference.at found) wanted made w w) looked
    (alone-made may_link (column_meant here reference.at found) wanted made w (sym built)))

-- ---- one part

pub paren-form : (c : Contents) (here : Surroundings) (may_link : Bool) (tree part : ExprTree) (wanted : Kind) (made : Expr) (old new : Within)
    → tree.body ≡ e.Paren part → Stands c here may_link part wanted made old new → Stands c here may_link tree wanted made old new
paren-form c here may_link tree part wanted made old new is makes =
    as-meant c here may_link tree wanted made old new _ (means-paren c here tree part is) (part-made may_link (part_of c part) here wanted made old new makes)

pub nots-form : (c : Contents) (here : Surroundings) (may_link : Bool) (tree part : ExprTree) (n : ℕ) (wanted : Kind) (made : Expr) (old new : Within)
    → tree.body ≡ e.Nots n part → Stands c here may_link part kind.Boolean made old new → Stands c here may_link tree wanted (times operator.Not n made) old new
nots-form c here may_link tree part n wanted made old new is makes =
    as-meant c here may_link tree wanted (times operator.Not n made) old new _ (means-nots c here tree n part is)
    (single-made may_link (gives_of operator.Not true) (λ es. times operator.Not n (first_of es)) (need_of operator.Not true) (part_of c part) here wanted kind.Boolean made old new (λ alike. refl) makes)

pub signs-form : (c : Contents) (here : Surroundings) (may_link : Bool) (tree part : ExprTree) (n : ℕ) (wanted : Kind) (made : Expr) (old new : Within)
    → tree.body ≡ e.Signs n part → Stands c here may_link part kind.Integer made old new → Stands c here may_link tree wanted (times operator.Negate n made) old new
signs-form c here may_link tree part n wanted made old new is makes =
    as-meant c here may_link tree wanted (times operator.Negate n made) old new _ (means-signs c here tree n part is)
    (single-made may_link (gives_of operator.Negate true) (λ es. times operator.Negate n (first_of es)) (need_of operator.Negate true) (part_of c part) here wanted kind.Integer made old new (λ alike. refl) makes)

pub null-test-form : (c : Contents) (here : Surroundings) (may_link : Bool) (tree part : ExprTree) (b : Bool) (wanted : Kind) (made : Expr) (old new : Within)
    → tree.body ≡ e.IsNull b part → Stands c here may_link part kind.Text made old new → Stands c here may_link tree wanted (negated_if b (IsNull made)) old new
null-test-form c here may_link tree part b wanted made old new is makes =
    as-meant c here may_link tree wanted (negated_if b (IsNull made)) old new _ (means-isnull c here tree b part is)
    (single-made may_link (Always kind.Boolean) (λ es. negated_if b (IsNull (first_of es))) Free (part_of c part) here wanted kind.Text made old new (λ alike. refl) makes)

pub truth-test-form : (c : Contents) (here : Surroundings) (may_link : Bool) (tree part : ExprTree) (b : Bool) (t : Truth) (wanted : Kind) (made : Expr) (old new : Within)
    → tree.body ≡ e.IsTruth b t part → Stands c here may_link part kind.Boolean made old new → Stands c here may_link tree wanted (negated_if b (IsTruth t made)) old new
truth-test-form c here may_link tree part b t wanted made old new is makes =
    as-meant c here may_link tree wanted (negated_if b (IsTruth t made)) old new _ (means-istruth c here tree b t part is)
    (single-made may_link (Always kind.Boolean) (λ es. negated_if b (IsTruth t (first_of es))) (OfKind kind.Boolean) (part_of c part) here wanted kind.Boolean made old new (λ alike. refl) makes)

-- ---- several parts

-- two operands of a node
abbrev Two : Contents → Surroundings → Need → ExprTree → ExprTree → List Operand
Two c here need p q = operand here need (part_of c p) ∷ operand here need (part_of c q) ∷ []

two-form : (c : Contents) (here : Surroundings) (may_link : Bool) (tree p q : ExprTree) (gives : Gives) (need : Need) (assembled : List Expr → Expr) (wanted alike : Kind) (first second : List Expr) (w x y : Within)
    → means_at (part_of c tree) here ≡ node gives assembled (Two c here need p q)
    → alike ≡ settled (united (Two c here need p q)) (alike_wanted gives wanted)
    → MakesMore may_link alike (operand here need (part_of c p) ∷ []) [] first w x
    → MakesMore may_link alike (operand here need (part_of c q) ∷ []) first second x y
    → Stands c here may_link tree wanted (assembled second) w y
two-form c here may_link tree p q gives need assembled wanted alike first second w x y is same one two =
    as-meant c here may_link tree wanted (assembled second) w y _ is
    (node-made may_link gives assembled (Two c here need p q) wanted second w y
    (subst (λ (k : Kind). MakesMore may_link k (Two c here need p q) [] second w y) same
    (two-more may_link alike (operand here need (part_of c p)) (operand here need (part_of c q)) [] first second w x y one two)))

compare-need : (op : Compare) → need_of (operator.Compare op) false ≡ Alike
compare-need compare.Equal = refl
compare-need compare.NotEqual = refl
compare-need compare.Less = refl
compare-need compare.LessEqual = refl
compare-need compare.Greater = refl
compare-need compare.GreaterEqual = refl

compare-gives : (op : Compare) → gives_of (operator.Compare op) false ≡ Always kind.Boolean
compare-gives compare.Equal = refl
compare-gives compare.NotEqual = refl
compare-gives compare.Less = refl
compare-gives compare.LessEqual = refl
compare-gives compare.Greater = refl
compare-gives compare.GreaterEqual = refl

pub compared-form : (c : Contents) (here : Surroundings) (may_link : Bool) (tree p q : ExprTree) (op : Compare) (wanted alike : Kind) (first second : List Expr) (w x y : Within)
    → tree.body ≡ e.Compared op p q
    → alike ≡ settled (united (operand here Alike (part_of c p) ∷ operand here Alike (part_of c q) ∷ [])) (alike_wanted (Always kind.Boolean) wanted)
    → MakesMore may_link alike (operand here Alike (part_of c p) ∷ []) [] first w x
    → MakesMore may_link alike (operand here Alike (part_of c q) ∷ []) first second x y
    → Stands c here may_link tree wanted (Op (operator.Compare op) second) w y
compared-form c here may_link tree p q op wanted alike first second w x y is same one two =
    two-form c here may_link tree p q (Always kind.Boolean) Alike (Op (operator.Compare op)) wanted alike first second w x y
    (means-compared c here tree op p q is
    ∙ ap (λ (need : Need). node (gives_of (operator.Compare op) false) (Op (operator.Compare op)) (Two c here need p q)) (compare-need op)
    ∙ ap (λ (gives : Gives). node gives (Op (operator.Compare op)) (Two c here Alike p q)) (compare-gives op)) same one two

pub nullif-form : (c : Contents) (here : Surroundings) (may_link : Bool) (tree p q : ExprTree) (wanted alike : Kind) (first second : List Expr) (w x y : Within)
    → tree.body ≡ e.NullIf p q
    → alike ≡ settled (united (operand here Alike (part_of c p) ∷ operand here Alike (part_of c q) ∷ [])) (alike_wanted Common wanted)
    → MakesMore may_link alike (operand here Alike (part_of c p) ∷ []) [] first w x
    → MakesMore may_link alike (operand here Alike (part_of c q) ∷ []) first second x y
    → Stands c here may_link tree wanted (Op operator.NullIf second) w y
nullif-form c here may_link tree p q wanted alike first second w x y is same one two =
    two-form c here may_link tree p q Common Alike (Op operator.NullIf) wanted alike first second w x y (means-nullif c here tree p q is) same one two

-- an operand of one kind doesn't ask what others are
pub like-form : (c : Contents) (here : Surroundings) (may_link : Bool) (tree p q : ExprTree) (b : Bool) (wanted : Kind) (first second : List Expr) (w x y : Within)
    → tree.body ≡ e.Like b p q
    → MakesMore may_link kind.Text (operand here (OfKind kind.Text) (part_of c p) ∷ []) [] first w x
    → MakesMore may_link kind.Text (operand here (OfKind kind.Text) (part_of c q) ∷ []) first second x y
    → Stands c here may_link tree wanted (negated_if b (Op operator.Like second)) w y
like-form c here may_link tree p q b wanted first second w x y is one two =
    two-form c here may_link tree p q (gives_of operator.Like false) (OfKind kind.Text) (λ es. negated_if b (Op operator.Like es)) wanted kind.Text first second w x y
    (means-like c here tree b p q is) refl one two

pub distinct-form : (c : Contents) (here : Surroundings) (may_link : Bool) (tree p q : ExprTree) (b : Bool) (wanted alike : Kind) (first second : Expr) (w x y : Within)
    → tree.body ≡ e.IsDistinct b p q
    → alike ≡ settled (united (operand here Alike (part_of c p) ∷ operand here Alike (part_of c q) ∷ [])) (alike_wanted (Always kind.Boolean) wanted)
    → Stands c here may_link p alike first w x → Stands c here may_link q alike second x y
    → Stands c here may_link tree wanted (negated_if (not b) (Same first second)) w y
distinct-form c here may_link tree p q b wanted alike first second w x y is same one two =
    two-form c here may_link tree p q (Always kind.Boolean) Alike (λ es. negated_if (not b) (Same (first_of es) (second_of es))) wanted alike (first ∷ []) (first ∷ second ∷ []) w x y (means-isdistinct c here tree b p q is) same
    (operand-one may_link alike Alike (part_of c p) here [] first w x one) (operand-one may_link alike Alike (part_of c q) here (first ∷ []) second x y two)

pub between-form : (c : Contents) (here : Surroundings) (may_link : Bool) (tree p q r : ExprTree) (b : Bool) (wanted alike : Kind) (first second third : List Expr) (w x y z : Within)
    → tree.body ≡ e.Between b p q r
    → alike ≡ settled (united (operand here Alike (part_of c p) ∷ operand here Alike (part_of c q) ∷ operand here Alike (part_of c r) ∷ [])) kind.Text
    → MakesMore may_link alike (operand here Alike (part_of c p) ∷ []) [] first w x
    → MakesMore may_link alike (operand here Alike (part_of c q) ∷ []) first second x y
    → MakesMore may_link alike (operand here Alike (part_of c r) ∷ []) second third y z
    → Stands c here may_link tree wanted (negated_if b (Op operator.Between third)) w z
between-form c here may_link tree p q r b wanted alike first second third w x y z is same one two three =
    let os = operand here Alike (part_of c p) ∷ operand here Alike (part_of c q) ∷ operand here Alike (part_of c r) ∷ [] in
    as-meant c here may_link tree wanted (negated_if b (Op operator.Between third)) w z _ (means-between c here tree b p q r is)
    (node-made may_link (gives_of operator.Between false) (λ es. negated_if b (Op operator.Between es)) os wanted third w z
    (subst (λ (k : Kind). MakesMore may_link k os [] third w z) same
    (three-more may_link alike (operand here Alike (part_of c p)) (operand here Alike (part_of c q)) (operand here Alike (part_of c r)) [] first second third w x y z one two three)))

pub in-list-form : (c : Contents) (here : Surroundings) (may_link : Bool) (tree p : ExprTree) (list : List ExprTree) (b : Bool) (wanted alike : Kind) (first all : List Expr) (w x y : Within)
    → tree.body ≡ e.InList b p list
    → alike ≡ settled (united (operand here Alike (part_of c p) ∷ map (operand here Alike) (map (part_of c) list))) kind.Text
    → MakesMore may_link alike (operand here Alike (part_of c p) ∷ []) [] first w x
    → MakesMore may_link alike (map (operand here Alike) (map (part_of c) list)) first all x y
    → Stands c here may_link tree wanted (negated_if b (Op operator.InList all)) w y
in-list-form c here may_link tree p list b wanted alike first all w x y is same one more =
    let os = operand here Alike (part_of c p) ∷ map (operand here Alike) (map (part_of c) list) in
    as-meant c here may_link tree wanted (negated_if b (Op operator.InList all)) w y _ (means-inlist c here tree b p list is)
    (node-made may_link (gives_of operator.InList false) (λ es. negated_if b (Op operator.InList es)) os wanted all w y
    (subst (λ (k : Kind). MakesMore may_link k os [] all w y) same
    (more-more may_link alike (operand here Alike (part_of c p) ∷ []) (map (operand here Alike) (map (part_of c) list)) [] first all w x y one more)))

pub logic-form : (c : Contents) (here : Surroundings) (may_link : Bool) (tree : ExprTree) (list : List ExprTree) (op : Operator) (wanted : Kind) (made : Expr) (w x : Within)
    → tree.body ≡ e.Logic op list
    → Makes may_link (node (gives_of op false) (Op op) (map (operand here (need_of op false)) (map (part_of c) list))) wanted made w x
    → Stands c here may_link tree wanted made w x
logic-form c here may_link tree list op wanted made w x is makes = as-meant c here may_link tree wanted made w x _ (means-logic c here tree op list is) makes

pub coalesce-form : (c : Contents) (here : Surroundings) (may_link : Bool) (tree : ExprTree) (list : List ExprTree) (wanted : Kind) (made : Expr) (w x : Within)
    → tree.body ≡ e.Coalesce list
    → Makes may_link (node Common (Op operator.Coalesce) (map (operand here Alike) (map (part_of c) list))) wanted made w x
    → Stands c here may_link tree wanted made w x
coalesce-form c here may_link tree list wanted made w x is makes = as-meant c here may_link tree wanted made w x _ (means-coalesce c here tree list is) makes

pub chain-form : (c : Contents) (here : Surroundings) (may_link : Bool) (tree p : ExprTree) (steps : List ExprStep) (wanted start : Kind) (first : Expr) (made : List ChainStep) (w x y : Within)
    → tree.body ≡ e.Chain p steps
    → ((alike : Kind) → start ≡ wanted_of alike (first_need (map (step_of c) steps)))
    → Stands c here may_link p start first w x
    → ((alike : Kind) → MakesSteps may_link alike here (map (step_of c) steps) made x y)
    → Stands c here may_link tree wanted (Chain first made) w y
chain-form c here may_link tree p steps wanted start first made w x y is starts one more =
    as-meant c here may_link tree wanted (Chain first made) w y _ (means-chain c here tree p steps is)
    (whole-chain may_link here (part_of c p) (map (step_of c) steps) wanted start first made w x y starts one more)

pub case-form : (c : Contents) (here : Surroundings) (may_link : Bool) (tree : ExprTree) (arms : List ArmTree) (wanted alike : Kind) (made : List Arm) (w x : Within)
    → tree.body ≡ e.Case arms None
    → alike ≡ settled (united (flat_map (arm_operands here) (map (arm_of c) arms) ++ else_operand here None ∷ [])) wanted
    → MakesArms may_link alike here (map (arm_of c) arms) made w x
    → Stands c here may_link tree wanted (Case made (null_at alike)) w x
case-form c here may_link tree arms wanted alike made w x is same before =
    as-meant c here may_link tree wanted (Case made (null_at alike)) w x _ (means-case-none c here tree arms is)
    (whole-case may_link alike here (map (arm_of c) arms) (else_operand here None) wanted made (null_at alike) w x x same before
    (alone-made may_link null_meant alike (null_at alike) x refl))

pub case-else-form : (c : Contents) (here : Surroundings) (may_link : Bool) (tree p : ExprTree) (arms : List ArmTree) (wanted alike : Kind) (made : List Arm) (otherwise : Expr) (w x y : Within)
    → tree.body ≡ e.Case arms (Some p)
    → alike ≡ settled (united (flat_map (arm_operands here) (map (arm_of c) arms) ++ else_operand here (Some (part_of c p)) ∷ [])) wanted
    → MakesArms may_link alike here (map (arm_of c) arms) made w x
    → Stands c here may_link p alike otherwise x y
    → Stands c here may_link tree wanted (Case made otherwise) w y
case-else-form c here may_link tree p arms wanted alike made otherwise w x y is same before this =
    as-meant c here may_link tree wanted (Case made otherwise) w y _ (means-case-some c here tree arms p is)
    (whole-case may_link alike here (map (arm_of c) arms) (else_operand here (Some (part_of c p))) wanted made otherwise w x y same before
    (part-made may_link (part_of c p) here alike otherwise x y this))

-- ---- aggregates and sublinks

pub count-form : (c : Contents) (here : Surroundings) (may_link : Bool) (tree : ExprTree) (word : AggWord) (wanted : Kind) (made : Expr) (old new : Within)
    → tree.body ≡ e.Aggregate word None → Makes may_link (rows_counted here tree.at word) wanted made old new → Stands c here may_link tree wanted made old new
count-form c here may_link tree word wanted made old new is makes = as-meant c here may_link tree wanted made old new _ (means-aggregate-none c here tree word is) makes

pub aggregate-form : (c : Contents) (here : Surroundings) (may_link : Bool) (tree p : ExprTree) (word : AggWord) (wanted : Kind) (made : Expr) (old new : Within)
    → tree.body ≡ e.Aggregate word (Some p)
    → ((at argument_at : ℕ) → Makes may_link (aggregated here at word argument_at (means_at (part_of c p) (in_argument here))) wanted made old new)
    → Stands c here may_link tree wanted made old new
unfolding means_at
aggregate-form c here may_link tree p word wanted made old new is makes =
    as-meant c here may_link tree wanted made old new _ (means-aggregate-some c here tree word p is) (makes tree.at (part_of c p).at)

pub exists-form : (c : Contents) (here : Surroundings) (may_link : Bool) (tree : ExprTree) (query : QueryTree) (wanted : Kind) (made : Expr) (old new : Within)
    → tree.body ≡ e.Exists query
    → ((at query_at : ℕ) → Makes may_link (if_standing here at (Some kind.Boolean) (exists_meant here query_at (query_means_at (query_of c query) (around_of here)))) wanted made old new)
    → Stands c here may_link tree wanted made old new
unfolding query_means_at
exists-form c here may_link tree query wanted made old new is makes =
    as-meant c here may_link tree wanted made old new _ (means-exists c here tree query is) (makes tree.at (query_of c query).at)

pub scalar-form : (c : Contents) (here : Surroundings) (may_link : Bool) (tree : ExprTree) (query : QueryTree) (wanted : Kind) (made : Expr) (old new : Within)
    → tree.body ≡ e.Scalar query
    → ((at query_at : ℕ) → Makes may_link (if_standing here at None (scalar_meant here query_at (query_means_at (query_of c query) (around_of here)))) wanted made old new)
    → Stands c here may_link tree wanted made old new
unfolding query_means_at
scalar-form c here may_link tree query wanted made old new is makes =
    as-meant c here may_link tree wanted made old new _ (means-scalar c here tree query is) (makes tree.at (query_of c query).at)

pub in-query-form : (c : Contents) (here : Surroundings) (may_link : Bool) (tree p : ExprTree) (query : QueryTree) (b : Bool) (wanted : Kind) (made : Expr) (old new : Within)
    → tree.body ≡ e.InQuery b p query
    → Makes may_link (tested_meant here tree.at (in_kind b (cond b compare.NotEqual compare.Equal)) (part_of c p) (query_of c query)) wanted made old new
    → Stands c here may_link tree wanted made old new
in-query-form c here may_link tree p query b wanted made old new is makes = as-meant c here may_link tree wanted made old new _ (means-inquery c here tree b p query is) makes

pub quantified-form : (c : Contents) (here : Surroundings) (may_link : Bool) (tree p : ExprTree) (query : QueryTree) (b : Bool) (op : Compare) (wanted : Kind) (made : Expr) (old new : Within)
    → tree.body ≡ e.Quantified b op p query
    → Makes may_link (tested_meant here tree.at (in_kind b op) (part_of c p) (query_of c query)) wanted made old new
    → Stands c here may_link tree wanted made old new
quantified-form c here may_link tree p query b op wanted made old new is makes = as-meant c here may_link tree wanted made old new _ (means-quantified c here tree b op p query is) makes

-- ---- the parts of lists

pub step-is : (c : Contents) (step : ExprStep) → step_of c step ≡ record { op = step.op; part = part_of c step.part }
unfolding token
step-is c step = exprstep-record c step.op step.part

pub arm-is : (c : Contents) (arm : ArmTree) → arm_of c arm ≡ record { condition = part_of c arm.condition; value = part_of c arm.value }
unfolding token
arm-is c arm = armtree-record c arm.condition arm.value
