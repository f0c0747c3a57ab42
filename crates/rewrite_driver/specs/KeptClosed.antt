-- What stands for a query, and rewritings of it, that have no open sublink where the query has none.
use Rattle.std.specs.Prelude.{List, All}
use Rattle.bag_algebra.specs.Rewriting.{IsRewrite, Stands}
use Rattle.bag_algebra.specs.declared.query.Query.{Query}
use Rattle.bag_algebra.specs.declared.query.Sublink.{Sublink}
use Rattle.query_laws.specs.Standing.{SubsStand}
use Rattle.rewrite_core.specs.rewritings.OpenSublinks.{IsClosedSublink, NoOpenSublink}
use Rattle.rewrite_move.specs.Moved.{SubsTraced}

pub record StandsClosed (q b : Query) : Type 0 where
  pub stands : Stands q b
  pub none_open : NoOpenSublink q → NoOpenSublink b

pub record RewritesClosed (q p : Query) : Type 0 where
  pub rewrites : IsRewrite q p
  pub none_open : NoOpenSublink q → NoOpenSublink p

-- sublinks for sublinks, which aren't open where those aren't
pub record SubsStandClosed (subs others : List Sublink) : Type 0 where
  pub stand : SubsStand subs others
  pub none_open : All IsClosedSublink subs → All IsClosedSublink others

-- rewritings of what is traced for sublinks, without an open sublink where these aren't open
pub record SubsTracedClosed (subs : List Sublink) (rewritings : List Query) : Type 0 where
  pub traced : SubsTraced subs rewritings
  pub none_open : All IsClosedSublink subs → All NoOpenSublink rewritings
