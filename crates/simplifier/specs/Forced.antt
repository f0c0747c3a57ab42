-- A LEFT JOIN of the rows where an EXISTS or an ANY is true with the rows that it looks at.
use Rattle.std.specs.Prelude.{◌≡◌, true, List, [], ◌∷◌, Some, None}
use Rattle.null_logic.specs.declared.compare.Compare.{Compare}
use Rattle.null_logic.specs.declared.operator.Operator.TheVariants as op
use Rattle.null_logic.specs.declared.truth.Truth.TheVariants.{True}
use Rattle.bag_algebra.specs.FaultFree.{faultless}
use Rattle.bag_algebra.specs.Kinds.{width_of}
use Rattle.bag_algebra.specs.declared.expr.Expr.{Expr}
use Rattle.bag_algebra.specs.declared.expr.Expr.TheVariants.{IsTruth, Op, Sub}
use Rattle.bag_algebra.specs.declared.expr.Item.{Item}
use Rattle.bag_algebra.specs.declared.query.JoinKind.{JoinKind}
use Rattle.bag_algebra.specs.declared.query.JoinKind.TheVariants.{Left}
use Rattle.bag_algebra.specs.declared.query.Query.{Query}
use Rattle.bag_algebra.specs.declared.query.Query.TheVariants.{Filter}
use Rattle.bag_algebra.specs.declared.query.SubKind.TheVariants.{Any, Exists}
use Rattle.bag_algebra.specs.declared.query.Sublink.{Sublink}
use Rattle.query_laws.specs.spines.Spines.{IsSpine, tests_with}
use Rattle.query_laws.specs.declared.spines.spine.Spine.{Spine}

-- that a comparison of both is true
abbrev pub compared : Compare → Expr → Expr → Expr
compared compare one other = IsTruth True (Op (op.Compare compare) (one ∷ other ∷ []))

-- the test of the spine holds, and a comparison of what is tested with its only item
pub record AsksAny (compare : Compare) (tested : Expr) (spine : Spine) (on : Expr) : Type 0 where
  pub item : Item
  pub one : spine.items ≡ item ∷ []
  pub test : on ≡ tests_with spine.test (compared compare tested item.expr)

-- the sublink, whose query is the spine, asks for the rows of its base on the test
pub data Asks (sub : Sublink) (spine : Spine) (on : Expr) : Type 0 where
  for_some : sub.kind ≡ Exists → sub.tested ≡ None → Some on ≡ spine.test → Asks sub spine on
  for_any : (compare : Compare) (tested : Expr) → sub.kind ≡ Any compare → sub.tested ≡ Some tested → AsksAny compare tested spine on → Asks sub spine on

-- the sublink, whose query is the spine, asks for the rows of the query on the test
pub record IsOn (sub : Sublink) (spine : Spine) (right : Query) (on : Expr) : Type 0 where
  pub base : spine.base ≡ right
  pub asks : Asks sub spine on

-- the sublink is over a spine, and asks for the rows of the query on the test
pub record SubFinds (input : Query) (sub : Sublink) (right : Query) (on : Expr) : Type 0 where
  pub spine : Spine
  pub is : IsSpine (width_of input) sub.query spine
  pub finds : IsOn sub spine right on

pub record FindsOn (left right : Query) (on : Expr) : Type 0 where
  pub input : Query
  pub sub : Sublink
  pub is : left ≡ Filter input (Sub 0) (sub ∷ [])
  pub finds : SubFinds input sub right on

-- the join keeps left rows, which are those of a filter on such an EXISTS, and has no sublink
pub record IsForced (kind : JoinKind) (left right : Query) (on : Expr) (subs : List Sublink) : Type 0 where
  pub keeps : kind ≡ Left
  pub none : subs ≡ []
  pub calm : faultless on ≡ true
  pub finds : FindsOn left right on
