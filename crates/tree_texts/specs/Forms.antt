-- Queries as they are printed: which clauses, names and operators a text has, in order. A form says nothing of where its
-- words stand. What is made of parts stands in parentheses, so that no operator binds tighter than another.
use Rattle.std.specs.Prelude.{ℕ, Bool, List, Option}
use Rattle.null_logic.specs.declared.compare.Compare.{Compare}
use Rattle.null_logic.specs.declared.truth.Truth.{Truth}
use Rattle.perm_values.specs.declared.kind.Kind.{Kind}

-- a column by its name, or by its name in an item of FROM
pub data ColumnForm : Type 0 where
  bare : List ℕ → ColumnForm
  in_item : List ℕ → List ℕ → ColumnForm

-- the words and symbols of one level
pub data Additive : Type 0 where
  plus : Additive
  minus : Additive

pub data Multiplicative : Type 0 where
  times : Multiplicative
  divided : Multiplicative
  modulo : Multiplicative

pub data Folded : Type 0 where
  sum : Folded
  least : Folded
  greatest : Folded

pub data Joined : Type 0 where
  inner : Joined
  left : Joined
  right : Joined
  full : Joined

pub data United : Type 0 where
  union : United
  except : United

-- a key of ORDER BY: a place from 1 on, and whether the greatest value comes first
pub record KeyForm : Type 0 where
  pub position : ℕ
  pub descending : Bool

mutual
  pub data ExprForm : Type 0 where
    column : ColumnForm → ExprForm
    integer : ℕ → ExprForm
    text : List ℕ → ExprForm
    truth : Bool → ExprForm
    -- NULL of a kind
    null : Kind → ExprForm
    -- in parentheses
    enclosed : CompoundForm → ExprForm
    -- the first arm, the others, and what stands behind ELSE
    case : ExprForm → ExprForm → ArmForms → ExprForm → ExprForm
    coalesce : ExprForm → ExprForms → ExprForm
    null_if : ExprForm → ExprForm → ExprForm
    count_rows : ExprForm
    count : ExprForm → ExprForm
    count_distinct : ExprForm → ExprForm
    folded : Folded → ExprForm → ExprForm
    exists : QueryForm → ExprForm
    scalar : QueryForm → ExprForm

  pub data CompoundForm : Type 0 where
    negative : ExprForm → CompoundForm
    added : ExprForm → Additive → ExprForm → SumForms → CompoundForm
    multiplied : ExprForm → Multiplicative → ExprForm → ProductForms → CompoundForm
    compared : Compare → ExprForm → ExprForm → CompoundForm
    -- a Bool says whether NOT stands there
    like : Bool → ExprForm → ExprForm → CompoundForm
    between : Bool → ExprForm → ExprForm → ExprForm → CompoundForm
    in_list : Bool → ExprForm → ExprForm → ExprForms → CompoundForm
    in_query : Bool → ExprForm → QueryForm → CompoundForm
    any : Compare → ExprForm → QueryForm → CompoundForm
    all : Compare → ExprForm → QueryForm → CompoundForm
    is_null : Bool → ExprForm → CompoundForm
    is_truth : Bool → Truth → ExprForm → CompoundForm
    is_distinct : Bool → ExprForm → ExprForm → CompoundForm
    negated : ExprForm → CompoundForm
    each_of : ExprForm → ExprForm → ExprForms → CompoundForm
    one_of : ExprForm → ExprForm → ExprForms → CompoundForm

  pub data ExprForms : Type 0 where
    no_exprs : ExprForms
    an_expr : ExprForm → ExprForms → ExprForms

  pub data SumForms : Type 0 where
    no_terms : SumForms
    a_term : Additive → ExprForm → SumForms → SumForms

  pub data ProductForms : Type 0 where
    no_factors : ProductForms
    a_factor : Multiplicative → ExprForm → ProductForms → ProductForms

  pub data ArmForms : Type 0 where
    no_arms : ArmForms
    an_arm : ExprForm → ExprForm → ArmForms → ArmForms

  -- items of a SELECT list, each with its name
  pub data ItemForms : Type 0 where
    no_items : ItemForms
    an_item : ExprForm → List ℕ → ItemForms → ItemForms

  pub data SourceForm : Type 0 where
    table : List ℕ → SourceForm
    table_as : List ℕ → List ℕ → SourceForm
    subquery : QueryForm → List ℕ → SourceForm

  pub data JoinForms : Type 0 where
    no_joins : JoinForms
    a_join : Joined → SourceForm → ExprForm → JoinForms → JoinForms
    -- a query behind LATERAL, with its name; the Bool says whether a row on the left stays where the query has none
    a_lateral : Bool → QueryForm → List ℕ → JoinForms → JoinForms

  pub data FromForm : Type 0 where
    no_from : FromForm
    from : SourceForm → JoinForms → FromForm

  -- a condition behind WHERE or HAVING
  pub data ConditionForm : Type 0 where
    no_condition : ConditionForm
    condition : ExprForm → ConditionForm

  -- DISTINCT, the first item with its name, the others, FROM, WHERE, GROUP BY, HAVING
  pub data CoreForm : Type 0 where
    select : Bool → ExprForm → List ℕ → ItemForms → FromForm → ConditionForm → List ColumnForm → ConditionForm → CoreForm

  -- steps behind a SELECT; the Bool is whether ALL stands there
  pub data UnionForms : Type 0 where
    no_unions : UnionForms
    a_union : United → Bool → CoreForm → UnionForms → UnionForms

  pub data IntersectForms : Type 0 where
    no_intersects : IntersectForms
    an_intersect : Bool → CoreForm → IntersectForms → IntersectForms

  -- a SELECT, or several under set operations of one level; ORDER BY and LIMIT
  pub data QueryForm : Type 0 where
    one : CoreForm → List KeyForm → Option ℕ → QueryForm
    united : CoreForm → United → Bool → CoreForm → UnionForms → List KeyForm → Option ℕ → QueryForm
    intersected : CoreForm → Bool → CoreForm → IntersectForms → List KeyForm → Option ℕ → QueryForm
