-- The variants of queries and expressions without the shapes of their children: what definitions match on.
use Rattle.std.specs.Prelude.{ℕ, List, Bool}
use mathlib.Core.Former.{Count, this, list_count}
use Rattle.perm_values.specs.formers.list.List as list
use Rattle.null_logic.specs.declared.operator.Operator.{Operator}
use Rattle.null_logic.specs.declared.truth.Truth.{Truth}
use Rattle.perm_values.specs.declared.key.Key.{Key}
use Rattle.bag_algebra.specs.declared.expr.Expr.{Expr, Row_of-Expr, Row_of-Arm, Row_of-ChainStep, more_of-Expr, end_of-Expr}
use Rattle.bag_algebra.specs.declared.expr.Expr.TheVariants.{Op', Chain', Case', IsNull', IsTruth', Same'}
use Rattle.bag_algebra.specs.declared.expr.Item.{Item}
use Rattle.bag_algebra.specs.declared.query.Aggr.{Aggr}
use Rattle.bag_algebra.specs.declared.query.JoinKind.{JoinKind}
use Rattle.bag_algebra.specs.declared.query.Label.{Label}
use Rattle.bag_algebra.specs.declared.query.Query.{Query, Row_of-Sublink, more_of-Query, end_of-Query}
use Rattle.bag_algebra.specs.declared.query.Query.TheVariants.{Base', Filter', Project', Join', Apply', Union', Intersect', Except', Distinct', Aggregate', Limit', Prov'}

-- how many children a list has
abbrev pub Shape : Type 0
Shape = (list.the_former this).Shape

abbrev pub many : Shape → Count
many shape = list_count this shape 0

pattern abbrev pub OpOf : Operator → (shape : Shape) → Row_of-Expr (many shape) → Expr
OpOf op shape parts = Op' op shape parts

pattern abbrev pub ChainOf : Expr → (shape : Shape) → Row_of-ChainStep (many shape) → Expr
ChainOf first shape steps = Chain' tt (more_of-Expr first end_of-Expr) shape steps

pattern abbrev pub CaseOf : (shape : Shape) → Row_of-Arm (many shape) → Expr → Expr
CaseOf shape arms otherwise = Case' shape arms tt (more_of-Expr otherwise end_of-Expr)

pattern abbrev pub IsNullOf : Expr → Expr
IsNullOf part = IsNull' tt (more_of-Expr part end_of-Expr)

pattern abbrev pub IsTruthOf : Truth → Expr → Expr
IsTruthOf truth part = IsTruth' truth tt (more_of-Expr part end_of-Expr)

pattern abbrev pub SameOf : Expr → Expr → Expr
SameOf first second = Same' tt (more_of-Expr first end_of-Expr) tt (more_of-Expr second end_of-Expr)

pattern abbrev pub BaseOf : Query → List ℕ → Label → Query
BaseOf input places label = Base' tt (more_of-Query input end_of-Query) places label

pattern abbrev pub FilterOf : Query → Expr → (shape : Shape) → Row_of-Sublink (many shape) → Query
FilterOf input condition shape subs = Filter' tt (more_of-Query input end_of-Query) condition shape subs

pattern abbrev pub ProjectOf : Query → List Item → (shape : Shape) → Row_of-Sublink (many shape) → Query
ProjectOf input items shape subs = Project' tt (more_of-Query input end_of-Query) items shape subs

pattern abbrev pub JoinOf : JoinKind → Query → Query → Expr → (shape : Shape) → Row_of-Sublink (many shape) → Query
JoinOf kind left right condition shape subs =
    Join' kind tt (more_of-Query left end_of-Query) tt (more_of-Query right end_of-Query) condition shape subs

pattern abbrev pub ApplyOf : JoinKind → Query → Query → Query
ApplyOf kind left right = Apply' kind tt (more_of-Query left end_of-Query) tt (more_of-Query right end_of-Query)

pattern abbrev pub UnionOf : Bool → Query → Query → Query
UnionOf all left right = Union' all tt (more_of-Query left end_of-Query) tt (more_of-Query right end_of-Query)

pattern abbrev pub IntersectOf : Bool → Query → Query → Query
IntersectOf all left right = Intersect' all tt (more_of-Query left end_of-Query) tt (more_of-Query right end_of-Query)

pattern abbrev pub ExceptOf : Bool → Query → Query → Query
ExceptOf all left right = Except' all tt (more_of-Query left end_of-Query) tt (more_of-Query right end_of-Query)

pattern abbrev pub DistinctOf : Query → Query
DistinctOf input = Distinct' tt (more_of-Query input end_of-Query)

pattern abbrev pub AggregateOf : Query → List ℕ → List Aggr → Query
AggregateOf input groups aggregates = Aggregate' tt (more_of-Query input end_of-Query) groups aggregates

pattern abbrev pub LimitOf : Query → List Key → ℕ → Query
LimitOf input keys count = Limit' tt (more_of-Query input end_of-Query) keys count

pattern abbrev pub ProvOf : Query → Query
ProvOf input = Prov' tt (more_of-Query input end_of-Query)
