-- What an expression of each form means where it stands: its step, on what its parts mean.
use Rattle.std.specs.Prelude.{◌≡◌, ℕ, ℤ, Bool, List, map, Some, None}
use Rattle.std.proofs.Common.{ap, ◌∙◌}
use Rattle.null_logic.specs.declared.compare.Compare.{Compare}
use Rattle.null_logic.specs.declared.operator.Operator.{Operator}
use Rattle.null_logic.specs.declared.truth.Truth.{Truth}
use Rattle.perm_catalog.specs.Contents.{Contents}
use Rattle.perm_values.specs.declared.kind.Kind.{Kind}
use Rattle.sql_tree.specs.declared.expression.AggWord.{AggWord}
use Rattle.sql_tree.specs.declared.name.ColRef.{ColRef}
use Rattle.sql_tree.specs.declared.expression.ExprBody.TheVariants as e
use Rattle.sql_tree.specs.declared.expression.ExprBody.TheOpen.{ExprBody-F}
use Rattle.name_meaning.specs.Expressions.{Body, body_step}
use Rattle.name_meaning.specs.Meanings.{Surroundings, Part, means_at}
use Rattle.name_meaning.specs.Trees.{body_of, part_of, arm_of, step_of, query_of}
use Rattle.sql_tree.specs.declared.expression.ArmTree.{ArmTree}
use Rattle.sql_tree.specs.declared.expression.ExprStep.{ExprStep}
use Rattle.sql_tree.specs.declared.expression.ExprTree.{ExprTree}
use Rattle.sql_tree.specs.declared.query.QueryTree.{QueryTree}
use Rattle.name_meaning.proofs.Equations.{ExprBodyFrame, token, exprtree-record, exprbody-null, exprbody-nullof, exprbody-integer, exprbody-text, exprbody-truth, exprbody-column, exprbody-paren, exprbody-nots, exprbody-signs, exprbody-logic, exprbody-chain, exprbody-compared, exprbody-like, exprbody-between, exprbody-inlist, exprbody-inquery, exprbody-quantified, exprbody-isnull, exprbody-istruth, exprbody-isdistinct, exprbody-case-none, exprbody-case-some, exprbody-coalesce, exprbody-nullif, exprbody-aggregate-none, exprbody-aggregate-some, exprbody-exists, exprbody-scalar}

abbrev pub ExprBody_meant : ExprBodyFrame → Body
ExprBody_meant = body_step

opened : (c : Contents) (here : Surroundings) (tree : ExprTree) (body : Body) → body_of c tree.body ≡ body
    → means_at (part_of c tree) here ≡ body.means tree.at here
unfolding token means_at
opened c here tree body e =
    ap (λ (part : Part). part.means here) (exprtree-record c tree.at tree.body) ∙ ap (λ (b : Body). b.means tree.at here) e

pub means-null : (c : Contents) (here : Surroundings) (tree : ExprTree) → tree.body ≡ e.Null
    → means_at (part_of c tree) here ≡ (ExprBody_meant (ExprBody-F.Null)).means tree.at here
unfolding token
means-null c here tree is = opened c here tree _ (ap (body_of c) is ∙ exprbody-null c)

pub means-nullof : (c : Contents) (here : Surroundings) (tree : ExprTree) (k : Kind) → tree.body ≡ e.NullOf k
    → means_at (part_of c tree) here ≡ (ExprBody_meant (ExprBody-F.NullOf k)).means tree.at here
unfolding token
means-nullof c here tree k is = opened c here tree _ (ap (body_of c) is ∙ exprbody-nullof c k)

pub means-integer : (c : Contents) (here : Surroundings) (tree : ExprTree) (n : ℤ) → tree.body ≡ e.Integer n
    → means_at (part_of c tree) here ≡ (ExprBody_meant (ExprBody-F.Integer n)).means tree.at here
unfolding token
means-integer c here tree n is = opened c here tree _ (ap (body_of c) is ∙ exprbody-integer c n)

pub means-text : (c : Contents) (here : Surroundings) (tree : ExprTree) (t : List ℕ) → tree.body ≡ e.Text t
    → means_at (part_of c tree) here ≡ (ExprBody_meant (ExprBody-F.Text t)).means tree.at here
unfolding token
means-text c here tree t is = opened c here tree _ (ap (body_of c) is ∙ exprbody-text c t)

pub means-truth : (c : Contents) (here : Surroundings) (tree : ExprTree) (b : Bool) → tree.body ≡ e.Truth b
    → means_at (part_of c tree) here ≡ (ExprBody_meant (ExprBody-F.Truth b)).means tree.at here
unfolding token
means-truth c here tree b is = opened c here tree _ (ap (body_of c) is ∙ exprbody-truth c b)

pub means-column : (c : Contents) (here : Surroundings) (tree : ExprTree) (r : ColRef) → tree.body ≡ e.Column r
    → means_at (part_of c tree) here ≡ (ExprBody_meant (ExprBody-F.Column r)).means tree.at here
unfolding token
means-column c here tree r is = opened c here tree _ (ap (body_of c) is ∙ exprbody-column c r)

pub means-paren : (c : Contents) (here : Surroundings) (tree : ExprTree) (p : ExprTree) → tree.body ≡ e.Paren p
    → means_at (part_of c tree) here ≡ (ExprBody_meant (ExprBody-F.«ExprBody::Paren» (part_of c p))).means tree.at here
unfolding token
means-paren c here tree p is = opened c here tree _ (ap (body_of c) is ∙ exprbody-paren c p)

pub means-nots : (c : Contents) (here : Surroundings) (tree : ExprTree) (n : ℕ) (p : ExprTree) → tree.body ≡ e.Nots n p
    → means_at (part_of c tree) here ≡ (ExprBody_meant (ExprBody-F.Nots n (part_of c p))).means tree.at here
unfolding token
means-nots c here tree n p is = opened c here tree _ (ap (body_of c) is ∙ exprbody-nots c n p)

pub means-signs : (c : Contents) (here : Surroundings) (tree : ExprTree) (n : ℕ) (p : ExprTree) → tree.body ≡ e.Signs n p
    → means_at (part_of c tree) here ≡ (ExprBody_meant (ExprBody-F.Signs n (part_of c p))).means tree.at here
unfolding token
means-signs c here tree n p is = opened c here tree _ (ap (body_of c) is ∙ exprbody-signs c n p)

pub means-logic : (c : Contents) (here : Surroundings) (tree : ExprTree) (op : Operator) (ps : List ExprTree) → tree.body ≡ e.Logic op ps
    → means_at (part_of c tree) here ≡ (ExprBody_meant (ExprBody-F.Logic op (map (part_of c) ps))).means tree.at here
unfolding token
means-logic c here tree op ps is = opened c here tree _ (ap (body_of c) is ∙ exprbody-logic c op ps)

pub means-chain : (c : Contents) (here : Surroundings) (tree : ExprTree) (p : ExprTree) (ss : List ExprStep) → tree.body ≡ e.Chain p ss
    → means_at (part_of c tree) here ≡ (ExprBody_meant (ExprBody-F.«ExprBody::Chain» (part_of c p) (map (step_of c) ss))).means tree.at here
unfolding token
means-chain c here tree p ss is = opened c here tree _ (ap (body_of c) is ∙ exprbody-chain c p ss)

pub means-compared : (c : Contents) (here : Surroundings) (tree : ExprTree) (op : Compare) (p : ExprTree) (q : ExprTree) → tree.body ≡ e.Compared op p q
    → means_at (part_of c tree) here ≡ (ExprBody_meant (ExprBody-F.Compared op (part_of c p) (part_of c q))).means tree.at here
unfolding token
means-compared c here tree op p q is = opened c here tree _ (ap (body_of c) is ∙ exprbody-compared c op p q)

pub means-like : (c : Contents) (here : Surroundings) (tree : ExprTree) (b : Bool) (p : ExprTree) (q : ExprTree) → tree.body ≡ e.Like b p q
    → means_at (part_of c tree) here ≡ (ExprBody_meant (ExprBody-F.Like b (part_of c p) (part_of c q))).means tree.at here
unfolding token
means-like c here tree b p q is = opened c here tree _ (ap (body_of c) is ∙ exprbody-like c b p q)

pub means-between : (c : Contents) (here : Surroundings) (tree : ExprTree) (b : Bool) (p : ExprTree) (q : ExprTree) (s : ExprTree) → tree.body ≡ e.Between b p q s
    → means_at (part_of c tree) here ≡ (ExprBody_meant (ExprBody-F.Between b (part_of c p) (part_of c q) (part_of c s))).means tree.at here
unfolding token
means-between c here tree b p q s is = opened c here tree _ (ap (body_of c) is ∙ exprbody-between c b p q s)

pub means-inlist : (c : Contents) (here : Surroundings) (tree : ExprTree) (b : Bool) (p : ExprTree) (ps : List ExprTree) → tree.body ≡ e.InList b p ps
    → means_at (part_of c tree) here ≡ (ExprBody_meant (ExprBody-F.InList b (part_of c p) (map (part_of c) ps))).means tree.at here
unfolding token
means-inlist c here tree b p ps is = opened c here tree _ (ap (body_of c) is ∙ exprbody-inlist c b p ps)

pub means-inquery : (c : Contents) (here : Surroundings) (tree : ExprTree) (b : Bool) (p : ExprTree) (q : QueryTree) → tree.body ≡ e.InQuery b p q
    → means_at (part_of c tree) here ≡ (ExprBody_meant (ExprBody-F.InQuery b (part_of c p) (query_of c q))).means tree.at here
unfolding token
means-inquery c here tree b p q is = opened c here tree _ (ap (body_of c) is ∙ exprbody-inquery c b p q)

pub means-quantified : (c : Contents) (here : Surroundings) (tree : ExprTree) (b : Bool) (op : Compare) (p : ExprTree) (q : QueryTree) → tree.body ≡ e.Quantified b op p q
    → means_at (part_of c tree) here ≡ (ExprBody_meant (ExprBody-F.Quantified b op (part_of c p) (query_of c q))).means tree.at here
unfolding token
means-quantified c here tree b op p q is = opened c here tree _ (ap (body_of c) is ∙ exprbody-quantified c b op p q)

pub means-isnull : (c : Contents) (here : Surroundings) (tree : ExprTree) (b : Bool) (p : ExprTree) → tree.body ≡ e.IsNull b p
    → means_at (part_of c tree) here ≡ (ExprBody_meant (ExprBody-F.IsNull b (part_of c p))).means tree.at here
unfolding token
means-isnull c here tree b p is = opened c here tree _ (ap (body_of c) is ∙ exprbody-isnull c b p)

pub means-istruth : (c : Contents) (here : Surroundings) (tree : ExprTree) (b : Bool) (t : Truth) (p : ExprTree) → tree.body ≡ e.IsTruth b t p
    → means_at (part_of c tree) here ≡ (ExprBody_meant (ExprBody-F.IsTruth b t (part_of c p))).means tree.at here
unfolding token
means-istruth c here tree b t p is = opened c here tree _ (ap (body_of c) is ∙ exprbody-istruth c b t p)

pub means-isdistinct : (c : Contents) (here : Surroundings) (tree : ExprTree) (b : Bool) (p : ExprTree) (q : ExprTree) → tree.body ≡ e.IsDistinct b p q
    → means_at (part_of c tree) here ≡ (ExprBody_meant (ExprBody-F.IsDistinct b (part_of c p) (part_of c q))).means tree.at here
unfolding token
means-isdistinct c here tree b p q is = opened c here tree _ (ap (body_of c) is ∙ exprbody-isdistinct c b p q)

pub means-case-none : (c : Contents) (here : Surroundings) (tree : ExprTree) (arms : List ArmTree) → tree.body ≡ e.Case arms None
    → means_at (part_of c tree) here ≡ (ExprBody_meant (ExprBody-F.Case (map (arm_of c) arms) None)).means tree.at here
unfolding token
means-case-none c here tree arms is = opened c here tree _ (ap (body_of c) is ∙ exprbody-case-none c arms)

pub means-case-some : (c : Contents) (here : Surroundings) (tree : ExprTree) (arms : List ArmTree) (o : ExprTree) → tree.body ≡ e.Case arms (Some o)
    → means_at (part_of c tree) here ≡ (ExprBody_meant (ExprBody-F.Case (map (arm_of c) arms) (Some (part_of c o)))).means tree.at here
unfolding token
means-case-some c here tree arms o is = opened c here tree _ (ap (body_of c) is ∙ exprbody-case-some c arms o)

pub means-coalesce : (c : Contents) (here : Surroundings) (tree : ExprTree) (ps : List ExprTree) → tree.body ≡ e.Coalesce ps
    → means_at (part_of c tree) here ≡ (ExprBody_meant (ExprBody-F.Coalesce (map (part_of c) ps))).means tree.at here
unfolding token
means-coalesce c here tree ps is = opened c here tree _ (ap (body_of c) is ∙ exprbody-coalesce c ps)

pub means-nullif : (c : Contents) (here : Surroundings) (tree : ExprTree) (p : ExprTree) (q : ExprTree) → tree.body ≡ e.NullIf p q
    → means_at (part_of c tree) here ≡ (ExprBody_meant (ExprBody-F.NullIf (part_of c p) (part_of c q))).means tree.at here
unfolding token
means-nullif c here tree p q is = opened c here tree _ (ap (body_of c) is ∙ exprbody-nullif c p q)

pub means-aggregate-none : (c : Contents) (here : Surroundings) (tree : ExprTree) (w : AggWord) → tree.body ≡ e.Aggregate w None
    → means_at (part_of c tree) here ≡ (ExprBody_meant (ExprBody-F.Aggregate w None)).means tree.at here
unfolding token
means-aggregate-none c here tree w is = opened c here tree _ (ap (body_of c) is ∙ exprbody-aggregate-none c w)

pub means-aggregate-some : (c : Contents) (here : Surroundings) (tree : ExprTree) (w : AggWord) (o : ExprTree) → tree.body ≡ e.Aggregate w (Some o)
    → means_at (part_of c tree) here ≡ (ExprBody_meant (ExprBody-F.Aggregate w (Some (part_of c o)))).means tree.at here
unfolding token
means-aggregate-some c here tree w o is = opened c here tree _ (ap (body_of c) is ∙ exprbody-aggregate-some c w o)

pub means-exists : (c : Contents) (here : Surroundings) (tree : ExprTree) (q : QueryTree) → tree.body ≡ e.Exists q
    → means_at (part_of c tree) here ≡ (ExprBody_meant (ExprBody-F.Exists (query_of c q))).means tree.at here
unfolding token
means-exists c here tree q is = opened c here tree _ (ap (body_of c) is ∙ exprbody-exists c q)

pub means-scalar : (c : Contents) (here : Surroundings) (tree : ExprTree) (q : QueryTree) → tree.body ≡ e.Scalar q
    → means_at (part_of c tree) here ≡ (ExprBody_meant (ExprBody-F.Scalar (query_of c q))).means tree.at here
unfolding token
means-scalar c here tree q is = opened c here tree _ (ap (body_of c) is ∙ exprbody-scalar c q)
