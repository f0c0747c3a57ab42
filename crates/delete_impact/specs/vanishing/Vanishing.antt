-- Which rows of a query vanish where rows of a table are deleted.
use Rattle.std.specs.Prelude.{ℕ, [], Option}
use Rattle.bag_algebra.specs.Bags.{Row}
use Rattle.bag_algebra.specs.Meaning.{Database}
use Rattle.bag_algebra.specs.declared.expr.Expr.{Expr}
use Rattle.bag_algebra.specs.declared.query.Query.{Query}
use Rattle.query_laws.specs.SublinkLists.{InAnswer}
use Rattle.delete_impact.specs.vanishing.Doomed.{after_deletion}

-- the row is in the answer of the query, and no longer once the doomed rows of the table are deleted
pub record Vanishes (q : Query) (id : ℕ) (condition : Option Expr) (db : Database) (t : Row) : Type 0 where
  pub before : InAnswer q db [] t
  pub after : InAnswer q (after_deletion id condition db) [] t → ⊥
