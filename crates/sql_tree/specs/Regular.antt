-- Which syntax trees are regular: what the tree of every script keeps, and the types of the tree don't say.
use Rattle.std.specs.Prelude.{◌≡◌, ℕ, ◌≤◌, ◌<◌, ◌^◌, ℤ, nat_abs, Bool, true, false, not, ◌&&◌, List, [], ◌∷◌, find, Option, Some, is_some, option_map, Contains, ◌⊎◌}
use Rattle.std.specs.Int.{IsNonNegative}
use Rattle.std.specs.Str.{bytes_eq}
use Rattle.null_logic.specs.Operators.{operator_table, arith_spelling}
use Rattle.null_logic.specs.declared.arith.Arith.{Arith}
use Rattle.null_logic.specs.declared.operator.Operator.{Operator}
use Rattle.null_logic.specs.declared.operator.Operator.TheVariants.{And, Or}
use Rattle.null_logic.specs.declared.compare.Compare.{Compare}
use Rattle.null_logic.specs.declared.truth.Truth.{Truth}
use Rattle.perm_values.specs.declared.kind.Kind.{Kind}
use Rattle.perm_values.specs.declared.kind.Kind.TheVariants as kind
use Rattle.sql_tree.specs.declared.expression.AggWord.{AggWord}
use Rattle.sql_tree.specs.declared.expression.AggWord.TheVariants as word
use Rattle.sql_tree.specs.declared.expression.ArmTree.{ArmTree}
use Rattle.sql_tree.specs.declared.expression.ExprBody.{ExprBody, out-ExprBody}
use Rattle.sql_tree.specs.declared.expression.ExprBody.TheOpen.{ExprBody-F, SetTree-F, SelectItem-F, FromSource-F}
use Rattle.sql_tree.specs.declared.expression.ExprStep.{ExprStep}
use Rattle.sql_tree.specs.declared.expression.ExprTree.{ExprTree}
use Rattle.sql_tree.specs.declared.name.ColRef.{ColRef}
use Rattle.sql_tree.specs.declared.name.Name.{Name}
use Rattle.sql_tree.specs.declared.query.Core.{Core, out-Core}
use Rattle.sql_tree.specs.declared.query.OrderKey.{OrderKey}
use Rattle.sql_tree.specs.declared.query.OrderKey.TheVariants.{Named as named_key, Position}
use Rattle.sql_tree.specs.declared.query.OrderTree.{OrderTree}
use Rattle.sql_tree.specs.declared.query.QueryTree.{QueryTree}
use Rattle.sql_tree.specs.declared.query.SelectItem.{SelectItem, out-SelectItem}
use Rattle.sql_tree.specs.declared.query.SetStep.{SetStep}
use Rattle.sql_tree.specs.declared.query.SetTree.{SetTree, out-SetTree}
use Rattle.sql_tree.specs.declared.source.FromItem.{FromItem}
use Rattle.sql_tree.specs.declared.source.FromSource.{FromSource, out-FromSource}
use Rattle.sql_tree.specs.declared.source.FromTree.{FromTree, out-FromTree}
use Rattle.sql_tree.specs.declared.source.JoinStep.{JoinStep, out-JoinStep}
use Rattle.sql_tree.specs.declared.source.JoinWord.{JoinWord}
use Rattle.sql_tree.specs.declared.source.JoinWord.TheVariants as join
use Rattle.sql_tree.specs.declared.source.ScopeMark.{ScopeMark}
use Rattle.sql_tree.specs.declared.source.ScopeMark.TheVariants as mark
use Rattle.sql_tree.specs.declared.statement.ColumnDef.{ColumnDef}
use Rattle.sql_tree.specs.declared.statement.Script.{Script}
use Rattle.sql_tree.specs.declared.statement.Statement.{Statement}
use Rattle.sql_tree.specs.declared.statement.StatementBody.{StatementBody}
use Rattle.sql_tree.specs.declared.statement.StatementBody.TheVariants as st
use Rattle.sql_tree.specs.declared.statement.ValuesRow.{ValuesRow}

-- ---- lists and parts that may be absent

-- at least one stands in the list
abbrev pub IsFilled : {X : Type 0} → List X → Type 0
IsFilled [] = ⊥
IsFilled (x ∷ xs) = Unit {0}

-- at least two stand in the list
abbrev pub IsSeveral : {X : Type 0} → List X → Type 0
IsSeveral [] = ⊥
IsSeveral (x ∷ xs) = IsFilled xs

-- so is it for each element
abbrev pub Each : {X : Type 0} → (X → Type 0) → List X → Type 0
Each {X = X} P xs = (x : X) → Contains xs x → P x

-- what is there, if anything is
abbrev pub IfThere : {X : Type 0} → (X → Type 0) → Option X → Type 0
IfThere {X = X} P option = (x : X) → option ≡ Some x → P x

-- ---- words

-- an operator that stands between many parts
abbrev pub IsConnective : Operator → Type 0
IsConnective op = (op ≡ And) ⊎ (op ≡ Or)

-- how tightly the operator of a step binds, by the table of operators
abbrev pub level_of : Arith → Option ℕ
level_of op = option_map (λ entry. entry.0) (find (λ entry. bytes_eq entry.1 (arith_spelling op) && not entry.2) operator_table)

-- COUNT(*) alone has no argument
abbrev pub has_argument : AggWord → Bool
has_argument word.CountRows = false
has_argument word.Count = true
has_argument word.CountDistinct = true
has_argument word.Sum = true
has_argument word.Min = true
has_argument word.Max = true

-- a cross join has no condition, and neither has a lateral one: the TRUE behind ON says nothing
abbrev pub has_condition : JoinWord → Bool
has_condition join.Inner = true
has_condition join.Left = true
has_condition join.Right = true
has_condition join.Full = true
has_condition join.Cross = false
has_condition join.CrossLateral = false
has_condition join.LeftLateral = false

-- the item behind it sees the row on the left
abbrev pub is_lateral : JoinWord → Bool
is_lateral join.Inner = false
is_lateral join.Left = false
is_lateral join.Right = false
is_lateral join.Full = false
is_lateral join.Cross = false
is_lateral join.CrossLateral = true
is_lateral join.LeftLateral = true

abbrev pub RegularMark : ScopeMark → Type 0
RegularMark mark.Plain = Unit {0}
RegularMark mark.BaseRelation = Unit {0}
RegularMark (mark.External attributes) = IsFilled attributes

-- a number as a token has it: 63 bits, without a sign
abbrev pub IsTokenNumber : ℤ → Type 0
IsTokenNumber number = IsNonNegative number × (nat_abs number < 2 ^ 63)

abbrev pub RegularKey : OrderKey → Type 0
RegularKey (named_key name) = Unit {0}
RegularKey (Position number) = IsNonNegative number

abbrev pub RegularOrder : OrderTree → Type 0
RegularOrder tree = RegularKey tree.key

-- ---- one level of each of the types with variants: what a tree is made of can be read off it, and so can its regularity

abbrev pub BodyLayer : Type 0
BodyLayer = ExprBody-F ExprBody SelectItem SetTree FromSource ArmTree ExprStep ExprTree Core QueryTree SetStep FromItem FromTree JoinStep

abbrev pub SetLayer : Type 0
SetLayer = SetTree-F ExprBody SelectItem SetTree FromSource ArmTree ExprStep ExprTree Core QueryTree SetStep FromItem FromTree JoinStep

abbrev pub ItemLayer : Type 0
ItemLayer = SelectItem-F ExprBody SelectItem SetTree FromSource ArmTree ExprStep ExprTree Core QueryTree SetStep FromItem FromTree JoinStep

abbrev pub SourceLayer : Type 0
SourceLayer = FromSource-F ExprBody SelectItem SetTree FromSource ArmTree ExprStep ExprTree Core QueryTree SetStep FromItem FromTree JoinStep

abbrev pub IsSubquery : SourceLayer → Type 0
IsSubquery (FromSource-F.Named name) = ⊥
IsSubquery (FromSource-F.Inner query) = Unit {0}

-- what a lateral join reads: a subquery without a mark
abbrev pub IsLateralItem : FromItem → Type 0
IsLateralItem item = IsSubquery (out-FromSource item.source) × (item.mark ≡ mark.Plain)

-- ---- expressions and queries

mutual
  pub data RegularExpr : ExprTree → Type 0 where
    regular_expr : {tree : ExprTree} → RegularBodyLayer (out-ExprBody tree.body) → RegularExpr tree

  pub data RegularBodyLayer : BodyLayer → Type 0 where
    regular_null : RegularBodyLayer ExprBody-F.Null
    regular_null_of : {kind : Kind} → RegularBodyLayer (ExprBody-F.NullOf kind)
    regular_integer : {number : ℤ} → IsNonNegative number → RegularBodyLayer (ExprBody-F.Integer number)
    regular_text : {text : List ℕ} → RegularBodyLayer (ExprBody-F.Text text)
    regular_truth : {truth : Bool} → RegularBodyLayer (ExprBody-F.Truth truth)
    regular_column : {reference : ColRef} → RegularBodyLayer (ExprBody-F.Column reference)
    regular_paren : {part : ExprTree} → RegularExpr part → RegularBodyLayer (ExprBody-F.«ExprBody::Paren» part)
    regular_nots : {count : ℕ} {part : ExprTree} → 1 ≤ count → RegularExpr part → RegularBodyLayer (ExprBody-F.Nots count part)
    regular_signs : {count : ℕ} {part : ExprTree} → 1 ≤ count → RegularExpr part → RegularBodyLayer (ExprBody-F.Signs count part)
    regular_logic : {op : Operator} {parts : List ExprTree} → IsConnective op → IsSeveral parts
        → ((part : ExprTree) → Contains parts part → RegularExpr part)
        → RegularBodyLayer (ExprBody-F.Logic op parts)
    -- all steps of a chain are of one level
    regular_chain : (level : ℕ) {first : ExprTree} {steps : List ExprStep} → RegularExpr first → IsFilled steps
        → ((step : ExprStep) → Contains steps step → RegularStep level step)
        → RegularBodyLayer (ExprBody-F.«ExprBody::Chain» first steps)
    regular_compared : {op : Compare} {first second : ExprTree} → RegularExpr first → RegularExpr second
        → RegularBodyLayer (ExprBody-F.Compared op first second)
    regular_like : {negated : Bool} {part pattern : ExprTree} → RegularExpr part → RegularExpr pattern
        → RegularBodyLayer (ExprBody-F.Like negated part pattern)
    regular_between : {negated : Bool} {part low high : ExprTree} → RegularExpr part → RegularExpr low → RegularExpr high
        → RegularBodyLayer (ExprBody-F.Between negated part low high)
    regular_in_list : {negated : Bool} {part : ExprTree} {list : List ExprTree} → RegularExpr part → IsFilled list
        → ((part : ExprTree) → Contains list part → RegularExpr part)
        → RegularBodyLayer (ExprBody-F.InList negated part list)
    regular_in_query : {negated : Bool} {part : ExprTree} {query : QueryTree} → RegularExpr part → RegularQuery query
        → RegularBodyLayer (ExprBody-F.InQuery negated part query)
    regular_quantified : {every : Bool} {op : Compare} {part : ExprTree} {query : QueryTree} → RegularExpr part
        → RegularQuery query
        → RegularBodyLayer (ExprBody-F.Quantified every op part query)
    regular_is_null : {negated : Bool} {part : ExprTree} → RegularExpr part → RegularBodyLayer (ExprBody-F.IsNull negated part)
    regular_is_truth : {negated : Bool} {truth : Truth} {part : ExprTree} → RegularExpr part
        → RegularBodyLayer (ExprBody-F.IsTruth negated truth part)
    regular_is_distinct : {negated : Bool} {first second : ExprTree} → RegularExpr first → RegularExpr second
        → RegularBodyLayer (ExprBody-F.IsDistinct negated first second)
    regular_case : {arms : List ArmTree} {otherwise : Option ExprTree} → IsFilled arms
        → ((arm : ArmTree) → Contains arms arm → RegularArm arm) → ((part : ExprTree) → otherwise ≡ Some part → RegularExpr part)
        → RegularBodyLayer (ExprBody-F.Case arms otherwise)
    regular_coalesce : {list : List ExprTree} → IsFilled list → ((part : ExprTree) → Contains list part → RegularExpr part)
        → RegularBodyLayer (ExprBody-F.Coalesce list)
    regular_null_if : {first second : ExprTree} → RegularExpr first → RegularExpr second → RegularBodyLayer (ExprBody-F.NullIf first second)
    regular_aggregate : {function : AggWord} {argument : Option ExprTree} → is_some argument ≡ has_argument function
        → ((part : ExprTree) → argument ≡ Some part → RegularExpr part)
        → RegularBodyLayer (ExprBody-F.Aggregate function argument)
    regular_exists : {query : QueryTree} → RegularQuery query → RegularBodyLayer (ExprBody-F.Exists query)
    regular_scalar : {query : QueryTree} → RegularQuery query → RegularBodyLayer (ExprBody-F.Scalar query)

  -- a step whose operator is of the level
  pub data RegularStep : ℕ → ExprStep → Type 0 where
    regular_step : {level : ℕ} {tree : ExprStep} → level_of tree.op ≡ Some level → RegularExpr tree.part → RegularStep level tree

  pub data RegularArm : ArmTree → Type 0 where
    regular_arm : {tree : ArmTree} → RegularExpr tree.condition → RegularExpr tree.value → RegularArm tree

  pub data RegularQuery : QueryTree → Type 0 where
    regular_query : {tree : QueryTree} → RegularSetLayer (out-SetTree tree.body) → Each RegularOrder tree.order
        → IfThere IsTokenNumber tree.limit → RegularQuery tree

  pub data RegularSetLayer : SetLayer → Type 0 where
    regular_set_core : {core : Core} → RegularCore core → RegularSetLayer (SetTree-F.Core core)
    regular_set_paren : {query : QueryTree} → RegularQuery query → RegularSetLayer (SetTree-F.«SetTree::Paren» query)
    regular_set_chain : {first : SetTree} {steps : List SetStep} → RegularSetLayer (out-SetTree first) → IsFilled steps
        → ((step : SetStep) → Contains steps step → RegularSetStep step)
        → RegularSetLayer (SetTree-F.«SetTree::Chain» first steps)

  pub data RegularSetStep : SetStep → Type 0 where
    regular_set_step : {step : SetStep} → RegularSetLayer (out-SetTree step.operand) → RegularSetStep step

  pub data RegularCore : Core → Type 0 where
    regular_core : {core : Core} → IsFilled (out-Core core).items
        → ((item : SelectItem) → Contains (out-Core core).items item → RegularItemLayer (out-SelectItem item))
        → ((tree : FromTree) → Contains (out-Core core).sources tree → RegularFrom tree)
        → ((part : ExprTree) → (out-Core core).condition ≡ Some part → RegularExpr part)
        → ((part : ExprTree) → (out-Core core).having ≡ Some part → RegularExpr part) → RegularCore core

  pub data RegularItemLayer : ItemLayer → Type 0 where
    regular_star : {at : ℕ} → RegularItemLayer (SelectItem-F.Star at)
    regular_table_star : {table : Name} → RegularItemLayer (SelectItem-F.TableStar table)
    regular_value : {expr : ExprTree} {name : Option Name} → RegularExpr expr → RegularItemLayer (SelectItem-F.Value expr name)

  pub data RegularFrom : FromTree → Type 0 where
    regular_from : {tree : FromTree} → RegularFromItem (out-FromTree tree).first
        → ((join : JoinStep) → Contains (out-FromTree tree).joins join → RegularJoin join) → RegularFrom tree

  pub data RegularJoin : JoinStep → Type 0 where
    regular_join_step : {step : JoinStep} → is_some (out-JoinStep step).condition ≡ has_condition (out-JoinStep step).word
        → (is_lateral (out-JoinStep step).word ≡ true → IsLateralItem (out-JoinStep step).item)
        → RegularFromItem (out-JoinStep step).item
        → ((part : ExprTree) → (out-JoinStep step).condition ≡ Some part → RegularExpr part) → RegularJoin step

  pub data RegularFromItem : FromItem → Type 0 where
    regular_from_item : {item : FromItem} → RegularSourceLayer (out-FromSource item.source) item.alias → RegularMark item.mark
        → RegularFromItem item

  -- what an item reads, and its alias: a query has one
  pub data RegularSourceLayer : SourceLayer → Option Name → Type 0 where
    regular_named : {name : Name} {alias : Option Name} → RegularSourceLayer (FromSource-F.Named name) alias
    regular_inner : {query : QueryTree} {alias : Name} → RegularQuery query → RegularSourceLayer (FromSource-F.Inner query) (Some alias)

abbrev pub RegularBody : ExprBody → Type 0
RegularBody body = RegularBodyLayer (out-ExprBody body)

abbrev pub RegularSet : SetTree → Type 0
RegularSet tree = RegularSetLayer (out-SetTree tree)

abbrev pub RegularItem : SelectItem → Type 0
RegularItem item = RegularItemLayer (out-SelectItem item)

abbrev pub RegularSource : FromSource → Option Name → Type 0
RegularSource source alias = RegularSourceLayer (out-FromSource source) alias

-- ---- statements

-- a column holds no Booleans
abbrev pub RegularColumn : ColumnDef → Type 0
RegularColumn column = column.kind ≡ kind.Boolean → ⊥

abbrev pub RegularRow : ValuesRow → Type 0
RegularRow row = IsFilled row.values × Each RegularExpr row.values

abbrev pub RegularStatementBody : StatementBody → Type 0
RegularStatementBody (st.CreateTable table columns) = IsFilled columns × Each RegularColumn columns
RegularStatementBody (st.CreateTableAs table query) = RegularQuery query
RegularStatementBody (st.CreateView view query) = RegularQuery query
RegularStatementBody (st.Copy table file header null_field) = Unit {0}
RegularStatementBody (st.Insert table rows) = IsFilled rows × Each RegularRow rows
RegularStatementBody (st.Delete table condition) = IfThere RegularExpr condition
RegularStatementBody (st.DropTable table) = Unit {0}
RegularStatementBody (st.DropView view) = Unit {0}
RegularStatementBody (st.Select query) = RegularQuery query
RegularStatementBody (st.Explain query) = RegularQuery query
RegularStatementBody (st.ShowFresh table) = Unit {0}
RegularStatementBody (st.Impact table condition query) = IfThere RegularExpr condition × RegularQuery query

abbrev pub RegularStatement : Statement → Type 0
RegularStatement statement = RegularStatementBody statement.body

-- every statement of the script is regular
abbrev pub Regular : Script → Type 0
Regular script = Each RegularStatement script.statements
