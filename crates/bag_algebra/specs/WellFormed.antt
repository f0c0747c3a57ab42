-- When queries and expressions are well formed: every column that they read is there, every part has the kind that is
-- asked of it (the rules of ISO/IEC 9075-2 for data types), and every node has the parts that it needs. Outer kinds are
-- the kinds of the columns of each outer row, the nearest row first; the scopes of an expression are the kinds of the
-- node's own row and then the outer kinds.
use Rattle.std.specs.Prelude.{◌≡◌, ◌≢◌, ⊤, All, ℕ, suc, ◌≤◌, ◌<◌, ◌^◌, Bool, true, ◌&&◌, List, [], ◌∷◌, ◌++◌, length, Option, Some, None, slice_get}
use mathlib.Core.Bool.{beq}
use Rattle.null_logic.specs.declared.arith.Arith.{Arith}
use Rattle.null_logic.specs.declared.arith.Arith.TheVariants.{Add, Subtract, Multiply, Divide, Remainder}
use Rattle.null_logic.specs.declared.operator.Operator.{Operator}
use Rattle.null_logic.specs.declared.operator.Operator.TheVariants as op
use Rattle.perm_values.specs.Rows.{KeysWithin, PlacesWithin}
use Rattle.perm_values.specs.Values.{fits}
use Rattle.perm_values.specs.declared.kind.Kind.{Kind}
use Rattle.perm_values.specs.declared.kind.Kind.TheVariants.{Integer, Text, Boolean}
use Rattle.perm_values.specs.declared.value.Value.{Value}
use Rattle.bag_algebra.specs.Kinds.{kinds_of, kind_in, width_of}
use Rattle.bag_algebra.specs.built.Patterns.{OpOf, ChainOf, CaseOf, IsNullOf, IsTruthOf, SameOf, BaseOf, FilterOf, ProjectOf, JoinOf, ApplyOf, UnionOf, IntersectOf, ExceptOf, DistinctOf, AggregateOf, LimitOf, ProvOf}
use Rattle.bag_algebra.specs.declared.expr.Expr.{Expr, Row_of-Expr, Row_of-Arm, Row_of-ChainStep, more_of-Expr, end_of-Expr, more_of-Arm, end_of-Arm, more_of-ChainStep, end_of-ChainStep}
use Rattle.bag_algebra.specs.declared.expr.Expr.TheVariants.{Col, Lit, Sub}
use Rattle.bag_algebra.specs.declared.expr.Item.{Item}
use Rattle.bag_algebra.specs.declared.query.AggFn.{AggFn}
use Rattle.bag_algebra.specs.declared.query.AggFn.TheVariants.{CountRows, Count, CountDistinct, Sum, Min, Max}
use Rattle.bag_algebra.specs.declared.query.Aggr.{Aggr}
use Rattle.bag_algebra.specs.declared.query.JoinKind.{JoinKind}
use Rattle.bag_algebra.specs.declared.query.JoinKind.TheVariants.{Inner, Left, Right, Full}
use Rattle.bag_algebra.specs.declared.query.Label.{Label}
use Rattle.bag_algebra.specs.declared.query.Label.TheVariants.{Relation, External}
use Rattle.bag_algebra.specs.declared.query.Query.{Query, Row_of-Sublink, more_of-Sublink, end_of-Sublink}
use Rattle.bag_algebra.specs.declared.query.Query.TheVariants.{Table, Single}
use Rattle.bag_algebra.specs.declared.query.SubKind.{SubKind}
use Rattle.bag_algebra.specs.declared.query.SubKind.TheVariants as sub

-- ---- expressions

abbrev pub kind_at_place : Option (List Kind) → ℕ → Option Kind
kind_at_place None place = None
kind_at_place (Some kinds) place = slice_get kinds place

-- the kind of a column: level 0 is the node's own row, level k the kth outer row
abbrev pub column_kind : List (List Kind) → ℕ → ℕ → Option Kind
column_kind scopes level place = kind_at_place (slice_get scopes level) place

-- parts of some one kind, whichever it is
pub record Alike (all_have : Kind → Type 0) : Type 0 where
  pub shared : Kind
  pub parts : all_have shared

-- a literal has its own kind, which its value fits
pub record LiteralForm (value : Value) (own kind : Kind) : Type 0 where
  pub fitting : fits value own ≡ true
  pub gives : kind ≡ own

-- so many parts, of such kinds, give this kind
pub record OpForm (Number Parts : Type 0) (given kind : Kind) : Type 0 where
  pub number : Number
  pub parts : Parts
  pub gives : kind ≡ given

-- the table of operators: how many parts each has, the kinds that it needs of them, and the kind that it gives
abbrev pub op_form : Operator → ℕ → (Kind → Type 0) → Kind → Type 0
op_form op.And n all_have kind = OpForm (2 ≤ n) (all_have Boolean) Boolean kind
op_form op.Or n all_have kind = OpForm (2 ≤ n) (all_have Boolean) Boolean kind
op_form op.Not n all_have kind = OpForm (n ≡ 1) (all_have Boolean) Boolean kind
op_form op.Negate n all_have kind = OpForm (n ≡ 1) (all_have Integer) Integer kind
op_form (op.Compare c) n all_have kind = OpForm (n ≡ 2) (Alike all_have) Boolean kind
op_form (op.Arith c) n all_have kind = ⊥
op_form op.Like n all_have kind = OpForm (n ≡ 2) (all_have Text) Boolean kind
op_form op.Between n all_have kind = OpForm (n ≡ 3) (Alike all_have) Boolean kind
op_form op.InList n all_have kind = OpForm (2 ≤ n) (Alike all_have) Boolean kind
op_form op.Coalesce n all_have kind = OpForm (1 ≤ n) (all_have kind) kind kind
op_form op.NullIf n all_have kind = OpForm (n ≡ 2) (all_have kind) kind kind

-- `+` and `-` are of one level, `*`, `/` and `%` of another
abbrev pub is_additive : Arith → Bool
is_additive Add = true
is_additive Subtract = true
is_additive Multiply = Bool.false
is_additive Divide = Bool.false
is_additive Remainder = Bool.false

-- one level for all steps
pub record OneLevel (steps_are : Bool → Bool) : Type 0 where
  pub additive : Bool
  pub all : steps_are additive ≡ true

pub record ChainForm (Number Level First Steps : Type 0) (kind : Kind) : Type 0 where
  pub number : Number
  pub level : Level
  pub first : First
  pub steps : Steps
  pub gives : kind ≡ Integer

pub record ArmForm (Condition Arm Others : Type 0) : Type 0 where
  pub condition : Condition
  pub arm : Arm
  pub others : Others

pub record CaseForm (Number Arms Otherwise : Type 0) : Type 0 where
  pub number : Number
  pub arms : Arms
  pub otherwise : Otherwise

-- a test of parts gives a truth
pub record TestForm (Parts : Type 0) (kind : Kind) : Type 0 where
  pub parts : Parts
  pub gives : kind ≡ Boolean

abbrev pub number_of_parts : {m : _} → Row_of-Expr m → ℕ
number_of_parts end_of-Expr = 0
number_of_parts (more_of-Expr part parts) = suc (number_of_parts parts)

abbrev pub number_of_steps : {m : _} → Row_of-ChainStep m → ℕ
number_of_steps end_of-ChainStep = 0
number_of_steps (more_of-ChainStep op part steps) = suc (number_of_steps steps)

abbrev pub number_of_arms : {m : _} → Row_of-Arm m → ℕ
number_of_arms end_of-Arm = 0
number_of_arms (more_of-Arm condition arm arms) = suc (number_of_arms arms)

abbrev pub steps_are : {m : _} → Row_of-ChainStep m → Bool → Bool
steps_are end_of-ChainStep additive = true
steps_are (more_of-ChainStep op part steps) additive = beq (is_additive op) additive && steps_are steps additive

-- the expression is well formed and has this kind, in these scopes, where the node's sublinks have these kinds
abbrev mutual
  pub HasKind : List (List Kind) → List Kind → Expr → Kind → Type 0
  HasKind scopes subs (Col level place) kind = column_kind scopes level place ≡ Some kind
  HasKind scopes subs (Lit value own) kind = LiteralForm value own kind
  HasKind scopes subs (OpOf op _ parts) kind = op_form op (number_of_parts parts) (PartsHave scopes subs parts) kind
  HasKind scopes subs (ChainOf first _ steps) kind =
      ChainForm (1 ≤ number_of_steps steps) (OneLevel (steps_are steps)) (HasKind scopes subs first Integer) (StepsHave scopes subs steps) kind
  HasKind scopes subs (CaseOf _ arms otherwise) kind =
      CaseForm (1 ≤ number_of_arms arms) (ArmsHave scopes subs arms kind) (HasKind scopes subs otherwise kind)
  HasKind scopes subs (Sub number) kind = slice_get subs number ≡ Some kind
  HasKind scopes subs (IsNullOf part) kind = TestForm (Alike (HasKind scopes subs part)) kind
  HasKind scopes subs (IsTruthOf truth part) kind = TestForm (HasKind scopes subs part Boolean) kind
  HasKind scopes subs (SameOf first second) kind =
      TestForm (Alike (λ shared. HasKind scopes subs first shared × HasKind scopes subs second shared)) kind

  -- all parts have the kind
  pub PartsHave : List (List Kind) → List Kind → {m : _} → Row_of-Expr m → Kind → Type 0
  PartsHave scopes subs end_of-Expr kind = ⊤
  PartsHave scopes subs (more_of-Expr part parts) kind = HasKind scopes subs part kind × PartsHave scopes subs parts kind

  -- the operands of all steps are integers
  pub StepsHave : List (List Kind) → List Kind → {m : _} → Row_of-ChainStep m → Type 0
  StepsHave scopes subs end_of-ChainStep = ⊤
  StepsHave scopes subs (more_of-ChainStep op part steps) = HasKind scopes subs part Integer × StepsHave scopes subs steps

  -- all conditions are truths, and all values have the kind
  pub ArmsHave : List (List Kind) → List Kind → {m : _} → Row_of-Arm m → Kind → Type 0
  ArmsHave scopes subs end_of-Arm kind = ⊤
  ArmsHave scopes subs (more_of-Arm condition arm arms) kind =
      ArmForm (HasKind scopes subs condition Boolean) (HasKind scopes subs arm kind) (ArmsHave scopes subs arms kind)

-- ---- parts of queries

abbrev pub ItemsForm : List (List Kind) → List Kind → List Item → Type 0
ItemsForm scopes subs items = All (λ (item : Item). HasKind scopes subs item.expr item.kind) items

abbrev pub label_width : Label → ℕ
label_width (Relation name columns) = length columns
label_width (External columns) = length columns

-- an argument of some kind gives a number
pub record CountForm (has_kind : Kind → Type 0) (kind : Kind) : Type 0 where
  pub argument : Alike has_kind
  pub gives : kind ≡ Integer

-- the aggregate has the argument that it needs, and gives this kind
abbrev pub aggr_form : AggFn → Option Expr → List (List Kind) → Kind → Type 0
aggr_form CountRows None scopes kind = kind ≡ Integer
aggr_form CountRows (Some argument) scopes kind = ⊥
aggr_form Count None scopes kind = ⊥
aggr_form Count (Some argument) scopes kind = CountForm (HasKind scopes [] argument) kind
aggr_form CountDistinct None scopes kind = ⊥
aggr_form CountDistinct (Some argument) scopes kind = CountForm (HasKind scopes [] argument) kind
aggr_form Sum None scopes kind = ⊥
aggr_form Sum (Some argument) scopes kind = HasKind scopes [] argument Integer × (kind ≡ Integer)
aggr_form Min None scopes kind = ⊥
aggr_form Min (Some argument) scopes kind = HasKind scopes [] argument kind × (kind ≢ Boolean)
aggr_form Max None scopes kind = ⊥
aggr_form Max (Some argument) scopes kind = HasKind scopes [] argument kind × (kind ≢ Boolean)

abbrev pub AggregatesForm : List (List Kind) → List Aggr → Type 0
AggregatesForm scopes aggregates = All (λ (aggregate : Aggr). aggr_form aggregate.function aggregate.argument scopes aggregate.kind) aggregates

-- a sublink of one column
pub record OneColumn (kinds : List Kind) : Type 0 where
  pub column : Kind
  pub one : kinds ≡ column ∷ []

-- a sublink of one column, beside which a tested expression of its kind stands
pub record TestedForm (kinds : List Kind) (tested : Kind → Type 0) : Type 0 where
  pub column : Kind
  pub one : kinds ≡ column ∷ []
  pub compared : tested column

-- what a sublink needs beside a well formed query with columns of these kinds; what is tested holds no sublink
abbrev pub sub_form : SubKind → Option Expr → List (List Kind) → List Kind → Type 0
sub_form sub.Exists None scopes kinds = ⊤
sub_form sub.Exists (Some tested) scopes kinds = ⊥
sub_form (sub.Any c) None scopes kinds = ⊥
sub_form (sub.Any c) (Some tested) scopes kinds = TestedForm kinds (HasKind scopes [] tested)
sub_form (sub.All c) None scopes kinds = ⊥
sub_form (sub.All c) (Some tested) scopes kinds = TestedForm kinds (HasKind scopes [] tested)
sub_form sub.Scalar None scopes kinds = OneColumn kinds
sub_form sub.Scalar (Some tested) scopes kinds = ⊥

-- the kind of a sublink's value
abbrev pub sub_kind : SubKind → List Kind → Kind
sub_kind sub.Exists kinds = Boolean
sub_kind (sub.Any c) kinds = Boolean
sub_kind (sub.All c) kinds = Boolean
sub_kind sub.Scalar kinds = kind_in kinds 0

abbrev pub sub_kinds : {m : _} → Row_of-Sublink m → List Kind
sub_kinds end_of-Sublink = []
sub_kinds (more_of-Sublink kind tested query subs) = sub_kind kind (kinds_of query) ∷ sub_kinds subs

-- ---- queries

pub record SubForm (QueryForm Rest Others : Type 0) : Type 0 where
  pub query : QueryForm
  pub fitting : Rest
  pub others : Others

pub record BaseForm (Input Places : Type 0) (places : List ℕ) (label : Label) : Type 0 where
  pub input : Input
  pub in_range : Places
  pub named : label_width label ≡ length places

pub record FilterForm (Input Subs Condition : Type 0) : Type 0 where
  pub input : Input
  pub subs : Subs
  pub condition : Condition

pub record ProjectForm (Input Subs Items : Type 0) : Type 0 where
  pub input : Input
  pub subs : Subs
  pub items : Items

pub record JoinForm (LeftSide RightSide Subs Condition : Type 0) : Type 0 where
  pub left : LeftSide
  pub right : RightSide
  pub subs : Subs
  pub condition : Condition

-- a dependent join keeps no right rows
abbrev pub is_dependent : JoinKind → Bool
is_dependent Inner = true
is_dependent Left = true
is_dependent Right = Bool.false
is_dependent Full = Bool.false

pub record ApplyForm (LeftSide RightSide : Type 0) (kind : JoinKind) : Type 0 where
  pub left : LeftSide
  pub right : RightSide
  pub dependent : is_dependent kind ≡ true

pub record SetForm (LeftSide RightSide : Type 0) (left right : List Kind) : Type 0 where
  pub left_side : LeftSide
  pub right_side : RightSide
  pub same_kinds : left ≡ right

pub record AggregateForm (Input Groups Aggregates : Type 0) : Type 0 where
  pub input : Input
  pub groups : Groups
  pub aggregates : Aggregates

pub record LimitForm (Input Keys : Type 0) (count : ℕ) : Type 0 where
  pub input : Input
  pub keys : Keys
  pub bound : count < 2 ^ 63

-- the query is well formed under these outer kinds
abbrev mutual
  pub WellFormed : List (List Kind) → Query → Type 0
  WellFormed outer (Table id kinds) = ⊤
  WellFormed outer Single = ⊤
  WellFormed outer (BaseOf input places label) = BaseForm (WellFormed outer input) (PlacesWithin (width_of input) places) places label
  WellFormed outer (FilterOf input condition _ subs) =
      FilterForm (WellFormed outer input) (SubsForm (kinds_of input ∷ outer) subs)
      (HasKind (kinds_of input ∷ outer) (sub_kinds subs) condition Boolean)
  WellFormed outer (ProjectOf input items _ subs) =
      ProjectForm (WellFormed outer input) (SubsForm (kinds_of input ∷ outer) subs)
      (ItemsForm (kinds_of input ∷ outer) (sub_kinds subs) items)
  WellFormed outer (JoinOf kind left right condition _ subs) =
      JoinForm (WellFormed outer left) (WellFormed outer right) (SubsForm ((kinds_of left ++ kinds_of right) ∷ outer) subs)
      (HasKind ((kinds_of left ++ kinds_of right) ∷ outer) (sub_kinds subs) condition Boolean)
  WellFormed outer (ApplyOf kind left right) = ApplyForm (WellFormed outer left) (WellFormed (kinds_of left ∷ outer) right) kind
  WellFormed outer (UnionOf all left right) = SetForm (WellFormed outer left) (WellFormed outer right) (kinds_of left) (kinds_of right)
  WellFormed outer (IntersectOf all left right) = SetForm (WellFormed outer left) (WellFormed outer right) (kinds_of left) (kinds_of right)
  WellFormed outer (ExceptOf all left right) = SetForm (WellFormed outer left) (WellFormed outer right) (kinds_of left) (kinds_of right)
  WellFormed outer (DistinctOf input) = WellFormed outer input
  WellFormed outer (AggregateOf input groups aggregates) =
      AggregateForm (WellFormed outer input) (PlacesWithin (width_of input) groups) (AggregatesForm (kinds_of input ∷ outer) aggregates)
  WellFormed outer (LimitOf input keys count) = LimitForm (WellFormed outer input) (KeysWithin (width_of input) keys) count
  WellFormed outer (ProvOf input) = WellFormed outer input

  -- the sublinks of a node in these scopes; their queries see the node's row as the nearest outer row
  pub SubsForm : List (List Kind) → {m : _} → Row_of-Sublink m → Type 0
  SubsForm scopes end_of-Sublink = ⊤
  SubsForm scopes (more_of-Sublink kind tested query subs) =
      SubForm (WellFormed scopes query) (sub_form kind tested scopes (kinds_of query)) (SubsForm scopes subs)
