-- A query as columns of another: a projection to columns of its input as those of the input, and any query as its own.
use Rattle.std.specs.Prelude.{◌≡◌, true, false, List, []}
use Rattle.std.specs.List.{range_with_len}
use Rattle.bag_algebra.specs.Kinds.{width_of}
use Rattle.bag_algebra.specs.declared.expr.Item.{Item}
use Rattle.bag_algebra.specs.declared.query.Query.{Query}
use Rattle.bag_algebra.specs.declared.query.Query.TheVariants.{Project}
use Rattle.simpler_laws.specs.Lowered.{AreColumns}
use Rattle.simplifier.specs.declared.projections.sides.Side.{Side}

-- the query is a projection without sublinks to the columns of its input at these places
pub record IsBelow (query : Query) (side : Side) : Type 0 where
  pub under : Query
  pub items : List Item
  pub is : query ≡ Project under items []
  pub columns : AreColumns items side.places
  pub width : side.width ≡ width_of under

pub data IsSide (query : Query) (side : Side) : Type 0 where
  of_input : side.input ≡ true → IsBelow query side → IsSide query side
  of_itself : side.input ≡ false → side.places ≡ range_with_len 0 (width_of query) → side.width ≡ width_of query → IsSide query side

-- the query is a projection without sublinks to all columns of its input, in their order
pub record IsIdentityProjection (query : Query) : Type 0 where
  pub under : Query
  pub items : List Item
  pub is : query ≡ Project under items []
  pub columns : AreColumns items (range_with_len 0 (width_of under))
