-- Whether in a query no fault hides another, by its topmost node and its inputs.
use Rattle.std.proofs.Common.{◌≡◌, ◌&&◌, ◌||◌, List, refl, ap}
use Rattle.std.specs.List.{list_all}
use Rattle.bag_algebra.proofs.Truths.{and_true}
use Rattle.bag_algebra.specs.FaultFree.{faultless, items_faultless, fault_free}
use Rattle.bag_algebra.specs.Inputs.{inputs_of}
use Rattle.bag_algebra.specs.built.Openings.{Filter-is, Project_with-is, Join-is}
use Rattle.bag_algebra.specs.built.Patterns.{BaseOf, FilterOf, ProjectOf, JoinOf, ApplyOf, UnionOf, IntersectOf, ExceptOf, DistinctOf, AggregateOf, LimitOf, ProvOf}
use Rattle.bag_algebra.specs.declared.expr.Expr.{Expr}
use Rattle.bag_algebra.specs.declared.expr.Item.{Item}
use Rattle.bag_algebra.specs.declared.query.JoinKind.{JoinKind}
use Rattle.bag_algebra.specs.declared.query.Query.{Query}
use Rattle.bag_algebra.specs.declared.query.Query.TheVariants.{Table, Single, Filter, Project, Join}
use Rattle.bag_algebra.specs.declared.query.Sublink.{Sublink}
use Rattle.delete_impact.specs.reduced.Hiding.{hides_none, own_hides_none}

pub hides_none-node : (q : Query) → hides_none q ≡ (own_hides_none q && list_all hides_none (inputs_of q))
hides_none-node (Table id kinds) = refl
hides_none-node Single = refl
hides_none-node (BaseOf input places label) = simp and_true
hides_none-node (FilterOf input condition _ subs) = simp and_true
hides_none-node (ProjectOf input items _ subs) = simp and_true
hides_none-node (JoinOf kind left right condition _ subs) = simp and_true
hides_none-node (ApplyOf kind left right) = refl
hides_none-node (UnionOf all left right) = simp and_true
hides_none-node (IntersectOf all left right) = refl
hides_none-node (ExceptOf all left right) = refl
hides_none-node (DistinctOf input) = simp and_true
hides_none-node (AggregateOf input groups aggregates) = refl
hides_none-node (LimitOf input keys count) = refl
hides_none-node (ProvOf input) = refl

-- ---- on what the constructors of code make

pub own-Filter : (input : Query) (condition : Expr) (subs : List Sublink) → own_hides_none (Filter input condition subs) ≡ (faultless condition || fault_free input)
own-Filter input condition subs = ap own_hides_none (Filter-is input condition subs)

pub own-Project : (input : Query) (items : List Item) (subs : List Sublink) → own_hides_none (Project input items subs) ≡ (items_faultless items || fault_free input)
own-Project input items subs = ap own_hides_none (Project_with-is input items subs)

pub own-Join : (kind : JoinKind) (left right : Query) (condition : Expr) (subs : List Sublink) →
    own_hides_none (Join kind left right condition subs) ≡ (faultless condition || (fault_free left && fault_free right))
own-Join kind left right condition subs = ap own_hides_none (Join-is kind left right condition subs)
