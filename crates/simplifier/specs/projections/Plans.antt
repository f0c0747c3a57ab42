-- What is made of a filter or a join over projections to columns: the columns above, and the condition over the rows below.
use Rattle.std.specs.Prelude.{◌≡◌, ℕ, ◌+◌, true, List, [], ◌++◌, map}
use Rattle.bag_algebra.specs.declared.expr.Expr.{Expr}
use Rattle.bag_algebra.specs.declared.expr.Item.{Item}
use Rattle.bag_algebra.specs.declared.query.Query.{Query}
use Rattle.bag_algebra.specs.declared.query.Query.TheVariants.{Filter, Join, Project}
use Rattle.bag_algebra.specs.declared.query.Sublink.{Sublink}
use Rattle.contribution.specs.MovedColumns.{IsMoved}
use Rattle.simpler_laws.specs.Lowered.{AreColumns}
use Rattle.simplifier.specs.projections.Carried.{Leads, all_reach}
use Rattle.simplifier.specs.projections.Sides.{IsSide}
use Rattle.simplifier.specs.declared.projections.filters.FilterPlan.{FilterPlan}
use Rattle.simplifier.specs.declared.projections.joins.JoinPlan.{JoinPlan}
use Rattle.simplifier.specs.declared.projections.sides.Side.{Side}

-- the query is a filter over a projection to the columns at the places of the order, and its sublinks' queries read none but the first ones,
-- which stand there at their own places
pub record IsFilterPlan (query : Query) (plan : FilterPlan) : Type 0 where
  pub under : Query
  pub items : List Item
  pub condition : Expr
  pub subs : List Sublink
  pub is : query ≡ Filter (Project under items []) condition subs
  pub columns : AreColumns items plan.order
  pub moved : IsMoved plan.order condition plan.condition
  pub first : ℕ
  pub leads : Leads first plan.order
  pub reach : all_reach first subs ≡ true

-- the places of the columns of pairs: those of left rows, and those of right rows behind them
abbrev pub pair_places : List ℕ → ℕ → List ℕ → List ℕ
pair_places lefts width rights = lefts ++ map (λ place. width + place) rights

-- the query is a join without sublinks of queries that are columns of others
pub record IsJoinPlan (query : Query) (plan : JoinPlan) : Type 0 where
  pub left : Query
  pub right : Query
  pub condition : Expr
  pub lefts : Side
  pub rights : Side
  pub is : query ≡ Join plan.kind left right condition []
  pub of_left : IsSide left lefts
  pub of_right : IsSide right rights
  pub left_input : plan.left ≡ lefts.input
  pub right_input : plan.right ≡ rights.input
  pub order : plan.order ≡ pair_places lefts.places lefts.width rights.places
  pub moved : IsMoved plan.order condition plan.condition
