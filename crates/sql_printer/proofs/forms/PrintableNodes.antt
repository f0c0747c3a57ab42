-- When a query can be printed, by the children of its topmost node.
use Rattle.std.specs.List.{AllByRecursion}
use Rattle.bag_algebra.specs.Inputs.{inputs_of, sublinks_of}
use Rattle.bag_algebra.specs.Kinds.{kinds_of}
use Rattle.bag_algebra.specs.built.Patterns.{BaseOf, FilterOf, ProjectOf, JoinOf, ApplyOf, UnionOf, IntersectOf, ExceptOf, DistinctOf, AggregateOf, LimitOf, ProvOf}
use Rattle.bag_algebra.specs.declared.query.Query.{Query, Row_of-Sublink, more_of-Sublink, end_of-Sublink, items-the_row-Sublink}
use Rattle.bag_algebra.specs.declared.query.Query.TheVariants.{Table, Single}
use Rattle.sql_printer.specs.forms.Printable.{OwnWritable, Printable, PrintableSub, PrintableSubs, Short}

subs-printable : {m : _} (subs : Row_of-Sublink m) → AllByRecursion PrintableSub (items-the_row-Sublink _ subs) → PrintableSubs subs
subs-printable end_of-Sublink u = tt
subs-printable (more_of-Sublink kind tested query subs) u = (u.0, subs-printable subs u.1)

-- it can where the node has few columns, and its own expressions and its children can be written
pub printable-node : (query : Query) → Short (kinds_of query) → OwnWritable query → AllByRecursion Printable (inputs_of query)
    → AllByRecursion PrintableSub (sublinks_of query) → Printable query
printable-node (Table id kinds) s w i u = s
printable-node Single s w i u = s
printable-node (BaseOf input places label) s w i u = (s, i.0)
printable-node (FilterOf input condition _ subs) s w i u = (s, w, i.0, subs-printable subs u)
printable-node (ProjectOf input items _ subs) s w i u = (s, w, i.0, subs-printable subs u)
printable-node (JoinOf kind left right condition _ subs) s w i u = (s, w, i.0, i.1.0, subs-printable subs u)
printable-node (ApplyOf kind left right) s w i u = (s, i.0, i.1.0)
printable-node (UnionOf all left right) s w i u = (s, i.0, i.1.0)
printable-node (IntersectOf all left right) s w i u = (s, i.0, i.1.0)
printable-node (ExceptOf all left right) s w i u = (s, i.0, i.1.0)
printable-node (DistinctOf input) s w i u = (s, i.0)
printable-node (AggregateOf input groups aggregates) s w i u = (s, w, i.0)
printable-node (LimitOf input keys count) s w i u = (s, i.0)
printable-node (ProvOf input) s w i u = (s, i.0)

-- no node has 2^63 columns
pub printable-short : (query : Query) → Printable query → Short (kinds_of query)
printable-short (Table id kinds) p = p
printable-short Single p = p
printable-short (BaseOf input places label) p = p.0
printable-short (FilterOf input condition _ subs) p = p.0
printable-short (ProjectOf input items _ subs) p = p.0
printable-short (JoinOf kind left right condition _ subs) p = p.0
printable-short (ApplyOf kind left right) p = p.0
printable-short (UnionOf all left right) p = p.0
printable-short (IntersectOf all left right) p = p.0
printable-short (ExceptOf all left right) p = p.0
printable-short (DistinctOf input) p = p.0
printable-short (AggregateOf input groups aggregates) p = p.0
printable-short (LimitOf input keys count) p = p.0
printable-short (ProvOf input) p = p.0
