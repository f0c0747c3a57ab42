-- Each variant is regular where its parts are, and each node where its fields are.
use Rattle.std.specs.Prelude.{◌≡◌, ℕ, ◌≤◌, ℤ, Bool, true, List, Option, Some, is_some}
use Rattle.std.specs.Int.{IsNonNegative}
use Rattle.std.proofs.Common.{sym, subst}
use Rattle.null_logic.specs.declared.compare.Compare.{Compare}
use Rattle.null_logic.specs.declared.operator.Operator.{Operator}
use Rattle.null_logic.specs.declared.truth.Truth.{Truth}
use Rattle.perm_values.specs.declared.kind.Kind.{Kind}
use Rattle.sql_tree.specs.Regular.{IsFilled, IsSeveral, Each, IfThere, IsConnective, has_argument, has_condition, is_lateral, IsLateralItem, RegularExpr, RegularBody, RegularBodyLayer, RegularStep, RegularArm, RegularQuery, RegularSet, RegularSetLayer, RegularSetStep, RegularItem, RegularItemLayer, RegularSource, RegularSourceLayer, RegularFrom, RegularJoin, RegularFromItem, RegularCore, regular_aggregate, regular_between, regular_case, regular_chain, regular_coalesce, regular_column, regular_compared, regular_core, regular_exists, regular_from, regular_in_list, regular_in_query, regular_inner, regular_integer, regular_is_distinct, regular_is_null, regular_is_truth, regular_join_step, regular_like, regular_logic, regular_named, regular_nots, regular_null, regular_null_if, regular_null_of, regular_paren, regular_quantified, regular_scalar, regular_set_chain, regular_set_core, regular_set_paren, regular_signs, regular_star, regular_table_star, regular_text, regular_truth, regular_value}
use Rattle.sql_tree.specs.declared.expression.AggWord.{AggWord}
use Rattle.sql_tree.specs.declared.expression.ArmTree.{ArmTree}
use Rattle.sql_tree.specs.declared.expression.ExprBody.TheVariants as e
use Rattle.sql_tree.specs.declared.expression.ExprBody.TheViews.{out-roll-Core, out-roll-FromTree, out-roll-JoinStep}
use Rattle.sql_tree.specs.declared.expression.ExprStep.{ExprStep}
use Rattle.sql_tree.specs.declared.expression.ExprTree.{ExprTree}
use Rattle.sql_tree.specs.declared.name.ColRef.{ColRef}
use Rattle.sql_tree.specs.declared.name.Name.{Name}
use Rattle.sql_tree.specs.declared.query.Core.{Core, roll-Core}
use Rattle.sql_tree.specs.declared.query.QueryTree.{QueryTree}
use Rattle.sql_tree.specs.declared.query.SelectItem.TheVariants as i
use Rattle.sql_tree.specs.declared.query.SelectItem.{SelectItem}
use Rattle.sql_tree.specs.declared.query.SetStep.{SetStep}
use Rattle.sql_tree.specs.declared.query.SetTree.TheVariants as set
use Rattle.sql_tree.specs.declared.query.SetTree.{SetTree}
use Rattle.sql_tree.specs.declared.source.FromItem.{FromItem}
use Rattle.sql_tree.specs.declared.source.FromSource.TheVariants as source
use Rattle.sql_tree.specs.declared.source.FromTree.{FromTree, roll-FromTree}
use Rattle.sql_tree.specs.declared.source.JoinStep.{JoinStep, roll-JoinStep}
use Rattle.sql_tree.specs.declared.source.JoinWord.{JoinWord}

-- ---- expressions

pub null-regular : RegularBody e.Null
null-regular = subst RegularBodyLayer (sym e.outs-Null) regular_null

pub null_of-regular : (kind : Kind) → RegularBody (e.NullOf kind)
null_of-regular kind = subst RegularBodyLayer (sym (e.outs-NullOf kind)) regular_null_of

pub integer-regular : (number : ℤ) → IsNonNegative number → RegularBody (e.Integer number)
integer-regular number a = subst RegularBodyLayer (sym (e.outs-Integer number)) (regular_integer a)

pub text-regular : (spelled : List ℕ) → RegularBody (e.Text spelled)
text-regular spelled = subst RegularBodyLayer (sym (e.outs-Text spelled)) regular_text

pub truth-regular : (truth : Bool) → RegularBody (e.Truth truth)
truth-regular truth = subst RegularBodyLayer (sym (e.outs-Truth truth)) regular_truth

pub column-regular : (reference : ColRef) → RegularBody (e.Column reference)
column-regular reference = subst RegularBodyLayer (sym (e.outs-Column reference)) regular_column

pub paren-regular : (part : ExprTree) → RegularExpr part → RegularBody (e.Paren part)
paren-regular part a = subst RegularBodyLayer (sym (e.outs-Paren part)) (regular_paren a)

pub nots-regular : (count : ℕ) (part : ExprTree) → 1 ≤ count → RegularExpr part → RegularBody (e.Nots count part)
nots-regular count part a b = subst RegularBodyLayer (sym (e.outs-Nots count part)) (regular_nots a b)

pub signs-regular : (count : ℕ) (part : ExprTree) → 1 ≤ count → RegularExpr part → RegularBody (e.Signs count part)
signs-regular count part a b = subst RegularBodyLayer (sym (e.outs-Signs count part)) (regular_signs a b)

pub logic-regular : (op : Operator) (parts : List ExprTree) → IsConnective op → IsSeveral parts → Each RegularExpr parts → RegularBody (e.Logic op parts)
logic-regular op parts a b c = subst RegularBodyLayer (sym (e.outs-Logic op parts)) (regular_logic a b c)

pub chain-regular : (level : ℕ) (first : ExprTree) (steps : List ExprStep) → RegularExpr first → IsFilled steps → Each (RegularStep level) steps → RegularBody (e.Chain first steps)
chain-regular level first steps a b c = subst RegularBodyLayer (sym (e.outs-Chain first steps)) (regular_chain level a b c)

pub compared-regular : (op : Compare) (first second : ExprTree) → RegularExpr first → RegularExpr second → RegularBody (e.Compared op first second)
compared-regular op first second a b = subst RegularBodyLayer (sym (e.outs-Compared op first second)) (regular_compared a b)

pub like-regular : (negated : Bool) (part pattern : ExprTree) → RegularExpr part → RegularExpr pattern → RegularBody (e.Like negated part pattern)
like-regular negated part pattern a b = subst RegularBodyLayer (sym (e.outs-Like negated part pattern)) (regular_like a b)

pub between-regular : (negated : Bool) (part low high : ExprTree) → RegularExpr part → RegularExpr low → RegularExpr high → RegularBody (e.Between negated part low high)
between-regular negated part low high a b c = subst RegularBodyLayer (sym (e.outs-Between negated part low high)) (regular_between a b c)

pub in_list-regular : (negated : Bool) (part : ExprTree) (list : List ExprTree) → RegularExpr part → IsFilled list → Each RegularExpr list → RegularBody (e.InList negated part list)
in_list-regular negated part list a b c = subst RegularBodyLayer (sym (e.outs-InList negated part list)) (regular_in_list a b c)

pub in_query-regular : (negated : Bool) (part : ExprTree) (query : QueryTree) → RegularExpr part → RegularQuery query → RegularBody (e.InQuery negated part query)
in_query-regular negated part query a b = subst RegularBodyLayer (sym (e.outs-InQuery negated part query)) (regular_in_query a b)

pub quantified-regular : (every : Bool) (op : Compare) (part : ExprTree) (query : QueryTree) → RegularExpr part → RegularQuery query → RegularBody (e.Quantified every op part query)
quantified-regular every op part query a b = subst RegularBodyLayer (sym (e.outs-Quantified every op part query)) (regular_quantified a b)

pub is_null-regular : (negated : Bool) (part : ExprTree) → RegularExpr part → RegularBody (e.IsNull negated part)
is_null-regular negated part a = subst RegularBodyLayer (sym (e.outs-IsNull negated part)) (regular_is_null a)

pub is_truth-regular : (negated : Bool) (truth : Truth) (part : ExprTree) → RegularExpr part → RegularBody (e.IsTruth negated truth part)
is_truth-regular negated truth part a = subst RegularBodyLayer (sym (e.outs-IsTruth negated truth part)) (regular_is_truth a)

pub is_distinct-regular : (negated : Bool) (first second : ExprTree) → RegularExpr first → RegularExpr second → RegularBody (e.IsDistinct negated first second)
is_distinct-regular negated first second a b = subst RegularBodyLayer (sym (e.outs-IsDistinct negated first second)) (regular_is_distinct a b)

pub case-regular : (arms : List ArmTree) (otherwise : Option ExprTree) → IsFilled arms → Each RegularArm arms → IfThere RegularExpr otherwise → RegularBody (e.Case arms otherwise)
case-regular arms otherwise a b c = subst RegularBodyLayer (sym (e.outs-Case arms otherwise)) (regular_case a b c)

pub coalesce-regular : (list : List ExprTree) → IsFilled list → Each RegularExpr list → RegularBody (e.Coalesce list)
coalesce-regular list a b = subst RegularBodyLayer (sym (e.outs-Coalesce list)) (regular_coalesce a b)

pub null_if-regular : (first second : ExprTree) → RegularExpr first → RegularExpr second → RegularBody (e.NullIf first second)
null_if-regular first second a b = subst RegularBodyLayer (sym (e.outs-NullIf first second)) (regular_null_if a b)

pub aggregate-regular : (function : AggWord) (argument : Option ExprTree) → is_some argument ≡ has_argument function → IfThere RegularExpr argument → RegularBody (e.Aggregate function argument)
aggregate-regular function argument a b = subst RegularBodyLayer (sym (e.outs-Aggregate function argument)) (regular_aggregate a b)

pub exists-regular : (query : QueryTree) → RegularQuery query → RegularBody (e.Exists query)
exists-regular query a = subst RegularBodyLayer (sym (e.outs-Exists query)) (regular_exists a)

pub scalar-regular : (query : QueryTree) → RegularQuery query → RegularBody (e.Scalar query)
scalar-regular query a = subst RegularBodyLayer (sym (e.outs-Scalar query)) (regular_scalar a)

-- ---- queries

pub set_core-regular : (core : Core) → RegularCore core → RegularSet (set.Core core)
set_core-regular core a = subst RegularSetLayer (sym (set.outs-Core core)) (regular_set_core a)

pub set_paren-regular : (query : QueryTree) → RegularQuery query → RegularSet (set.Paren query)
set_paren-regular query a = subst RegularSetLayer (sym (set.outs-Paren query)) (regular_set_paren a)

pub set_chain-regular : (first : SetTree) (steps : List SetStep) → RegularSet first → IsFilled steps → Each RegularSetStep steps → RegularSet (set.Chain first steps)
set_chain-regular first steps a b c = subst RegularSetLayer (sym (set.outs-Chain first steps)) (regular_set_chain a b c)

pub star-regular : (at : ℕ) → RegularItem (i.Star at)
star-regular at = subst RegularItemLayer (sym (i.outs-Star at)) regular_star

pub table_star-regular : (table : Name) → RegularItem (i.TableStar table)
table_star-regular table = subst RegularItemLayer (sym (i.outs-TableStar table)) regular_table_star

pub value-regular : (expr : ExprTree) (name : Option Name) → RegularExpr expr → RegularItem (i.Value expr name)
value-regular expr name a = subst RegularItemLayer (sym (i.outs-Value expr name)) (regular_value a)

pub named-regular : (name : Name) (alias : Option Name) → RegularSource (source.Named name) alias
named-regular name alias = subst (λ layer. RegularSourceLayer layer alias) (sym (source.outs-Named name)) regular_named

pub inner-regular : (query : QueryTree) (alias : Name) → RegularQuery query → RegularSource (source.Inner query) (Some alias)
inner-regular query alias a = subst (λ layer. RegularSourceLayer layer (Some alias)) (sym (source.outs-Inner query)) (regular_inner a)

-- ---- nodes

pub core-regular : (at : ℕ) (provenance : Option ℕ) (distinct : Bool) (items : List SelectItem) (sources : List FromTree)
    (condition : Option ExprTree) (groups : List ColRef) (having : Option ExprTree)
    → IsFilled items → Each RegularItem items → Each RegularFrom sources → IfThere RegularExpr condition → IfThere RegularExpr having
    → RegularCore (roll-Core (record { at = at; provenance = provenance; distinct = distinct; items = items; sources = sources; condition = condition; groups = groups; having = having }))
core-regular at provenance distinct items sources condition groups having filled i s c h =
    let rolled = sym (out-roll-Core (record { at = at; provenance = provenance; distinct = distinct; items = items; sources = sources; condition = condition; groups = groups; having = having })) in
    regular_core
    (subst (λ f. IsFilled f.items) rolled filled) (subst (λ f. Each RegularItem f.items) rolled i)
    (subst (λ f. Each RegularFrom f.sources) rolled s) (subst (λ f. IfThere RegularExpr f.condition) rolled c)
    (subst (λ f. IfThere RegularExpr f.having) rolled h)

pub from-regular : (first : FromItem) (joins : List JoinStep) → RegularFromItem first → Each RegularJoin joins
    → RegularFrom (roll-FromTree (record { first = first; joins = joins }))
from-regular first joins f j =
    let rolled = sym (out-roll-FromTree (record { first = first; joins = joins })) in
    regular_from (subst (λ v. RegularFromItem v.first) rolled f) (subst (λ v. Each RegularJoin v.joins) rolled j)

pub join-regular : (operation : JoinWord) (item : FromItem) (condition : Option ExprTree)
    → is_some condition ≡ has_condition operation → (is_lateral operation ≡ true → IsLateralItem item) → RegularFromItem item
    → IfThere RegularExpr condition
    → RegularJoin (roll-JoinStep (record { word = operation; item = item; condition = condition }))
join-regular operation item condition same l i c =
    let rolled = sym (out-roll-JoinStep (record { word = operation; item = item; condition = condition })) in
    regular_join_step
    (subst (λ v. is_some v.condition ≡ has_condition v.word) rolled same)
    (subst (λ v. is_lateral v.word ≡ true → IsLateralItem v.item) rolled l) (subst (λ v. RegularFromItem v.item) rolled i)
    (subst (λ v. IfThere RegularExpr v.condition) rolled c)
