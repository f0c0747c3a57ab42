-- Monotone queries in which no fault hides another: whatever may fault is looked at on rows that are found without a fault.
use Rattle.std.specs.Prelude.{Bool, true, false, ◌&&◌, ◌||◌}
use Rattle.bag_algebra.specs.FaultFree.{faultless, items_faultless, fault_free}
use Rattle.bag_algebra.specs.built.Patterns.{BaseOf, FilterOf, ProjectOf, JoinOf, ApplyOf, UnionOf, IntersectOf, ExceptOf, DistinctOf, AggregateOf, LimitOf, ProvOf}
use Rattle.bag_algebra.specs.declared.query.Query.{Query}
use Rattle.bag_algebra.specs.declared.query.Query.TheVariants.{Table, Single, Base', Apply', Union', Intersect', Except', Distinct', Aggregate', Limit', Prov'}

-- no fault of the inputs hides one of the topmost node
abbrev pub own_hides_none : Query → Bool
own_hides_none (Table id kinds) = true
own_hides_none Single = true
own_hides_none (Base' _ input places label) = true
own_hides_none (FilterOf input condition _ subs) = faultless condition || fault_free input
own_hides_none (ProjectOf input items _ subs) = items_faultless items || fault_free input
own_hides_none (JoinOf kind left right condition _ subs) = faultless condition || (fault_free left && fault_free right)
own_hides_none (Apply' kind _ left _ right) = false
own_hides_none (Union' all _ left _ right) = true
own_hides_none (Intersect' all _ left _ right) = false
own_hides_none (Except' all _ left _ right) = false
own_hides_none (Distinct' _ input) = true
own_hides_none (Aggregate' _ input groups aggregates) = false
own_hides_none (Limit' _ input keys count) = false
own_hides_none (Prov' _ input) = false

abbrev pub hides_none : Query → Bool
hides_none (Table id kinds) = true
hides_none Single = true
hides_none (BaseOf input places label) = hides_none input
hides_none (FilterOf input condition _ subs) = (faultless condition || fault_free input) && hides_none input
hides_none (ProjectOf input items _ subs) = (items_faultless items || fault_free input) && hides_none input
hides_none (JoinOf kind left right condition _ subs) = (faultless condition || (fault_free left && fault_free right)) && (hides_none left && hides_none right)
hides_none (ApplyOf kind left right) = false
hides_none (UnionOf all left right) = hides_none left && hides_none right
hides_none (IntersectOf all left right) = false
hides_none (ExceptOf all left right) = false
hides_none (DistinctOf input) = hides_none input
hides_none (AggregateOf input groups aggregates) = false
hides_none (LimitOf input keys count) = false
hides_none (ProvOf input) = false
