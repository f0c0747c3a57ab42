-- The sublinks of a query's own node.
use Rattle.std.specs.Prelude.{List}
use Rattle.bag_algebra.specs.declared.expr.Expr.{Expr}
use Rattle.bag_algebra.specs.declared.expr.Item.{Item}
use Rattle.bag_algebra.specs.declared.query.JoinKind.{JoinKind}
use Rattle.bag_algebra.specs.declared.query.Query.{Query}
use Rattle.bag_algebra.specs.declared.query.Query.TheVariants.{Filter, Project, Join}
use Rattle.bag_algebra.specs.declared.query.Sublink.{Sublink}

pub data HasSublinks : Query → List Sublink → Type 0 where
  of_filter : (input : Query) (condition : Expr) (subs : List Sublink) → HasSublinks (Filter input condition subs) subs
  of_project : (input : Query) (items : List Item) (subs : List Sublink) → HasSublinks (Project input items subs) subs
  of_join : (kind : JoinKind) (left right : Query) (condition : Expr) (subs : List Sublink) → HasSublinks (Join kind left right condition subs) subs
