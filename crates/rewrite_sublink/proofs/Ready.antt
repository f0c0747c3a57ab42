-- A sublink over tables, what stands for it, and a rewriting of its query.
use Rattle.std.proofs.Common.{◌≡◌, true, Option}
use Rattle.bag_algebra.specs.Rewriting.{IsRewrite, Stands}
use Rattle.bag_algebra.specs.Scoped.{over_tables}
use Rattle.bag_algebra.specs.declared.expr.Expr.{Expr}
use Rattle.bag_algebra.specs.declared.query.Query.{Query}
use Rattle.bag_algebra.specs.declared.query.Sublink.{Sublink}
use Rattle.contribution.specs.CrossBase.{cross_base_of}
use Rattle.query_laws.specs.SameExpressions.{SameOptional}

pub record Ready (sub : Sublink) (tested : Option Expr) (s r : Query) : Type 0 where
  pub same : SameOptional sub.tested tested
  pub stands : Stands sub.query s
  pub rewritten : IsRewrite sub.query r
  pub over : over_tables sub.query ≡ true

module _ {sub : Sublink} {tested : Option Expr} {s r : Query} (is : Ready sub tested s r) where
  abbrev pub stand_of : Sublink
  stand_of = record { kind = sub.kind; tested = tested; query = s }

  abbrev pub base_of : Query
  base_of = cross_base_of sub.query
