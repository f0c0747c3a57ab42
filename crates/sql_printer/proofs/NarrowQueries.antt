-- A query that can be printed has few columns at each node.
use Rattle.std.proofs.Common.{ℕ, ◌<◌, ◌^◌, ◌+◌, List, ◌++◌, length, map, arith}
use Rattle.std.proofs.lemmas.List.{length-append, length-map}
use Rattle.perm_values.specs.declared.kind.Kind.{Kind}
use Rattle.bag_algebra.specs.Kinds.{kind_in, kinds_in, kinds_of}
use Rattle.bag_algebra.specs.built.Patterns.{BaseOf, FilterOf, ProjectOf, JoinOf, ApplyOf, UnionOf, IntersectOf, ExceptOf, DistinctOf, AggregateOf, LimitOf, ProvOf}
use Rattle.bag_algebra.specs.declared.query.Aggr.{Aggr}
use Rattle.bag_algebra.specs.declared.query.Query.{Query, Row_of-Sublink, more_of-Sublink, end_of-Sublink}
use Rattle.bag_algebra.specs.declared.query.Query.TheVariants.{Table, Single}
use Rattle.sql_printer.specs.forms.Printable.{Printable, PrintableSubs, Short}
use Rattle.sql_printer.proofs.forms.PrintableNodes.{printable-short}
use Rattle.sql_printer.specs.answers.ReadAs.{Few, Narrow, NarrowSubs}

pub short-few : (kinds : List Kind) → Short kinds → Few kinds
short-few kinds s = omega (arith, s)

-- the groups and the aggregates are the columns
groups-few : (kinds : List Kind) (groups : List ℕ) (aggregates : List Aggr)
    → Short (kinds_in kinds groups ++ map (λ (aggregate : Aggr). aggregate.kind) aggregates) → 1 + (length groups + length aggregates) < 2 ^ 64
groups-few kinds groups aggregates s =
    omega (
      arith,
      s,
      length-append (kinds_in kinds groups) (map (λ (aggregate : Aggr). aggregate.kind) aggregates),
      length-map groups (kind_in kinds),
      length-map aggregates (λ (aggregate : Aggr). aggregate.kind),
    )

mutual
  pub printable-narrow : (q : Query) → Printable q → Narrow q
  printable-narrow (Table id kinds) p = short-few kinds p
  printable-narrow Single p = tt
  printable-narrow (BaseOf input places label) p = printable-narrow input p.1
  printable-narrow (FilterOf input condition _ subs) p = (short-few (kinds_of input) p.0, printable-narrow input p.2, subs-narrow subs p.3)
  printable-narrow (ProjectOf input items _ subs) p =
      (short-few (kinds_of input) (printable-short input p.2), printable-narrow input p.2, subs-narrow subs p.3)
  printable-narrow (JoinOf kind left right condition _ subs) p =
      (short-few (kinds_of left ++ kinds_of right) p.0, printable-narrow left p.2, printable-narrow right p.3, subs-narrow subs p.4)
  printable-narrow (ApplyOf kind left right) p =
      (short-few (kinds_of left ++ kinds_of right) p.0, printable-narrow left p.1, printable-narrow right p.2)
  printable-narrow (UnionOf all left right) p = (short-few (kinds_of left) p.0, printable-narrow left p.1, printable-narrow right p.2)
  printable-narrow (IntersectOf all left right) p = (short-few (kinds_of left) p.0, printable-narrow left p.1, printable-narrow right p.2)
  printable-narrow (ExceptOf all left right) p = (short-few (kinds_of left) p.0, printable-narrow left p.1, printable-narrow right p.2)
  printable-narrow (DistinctOf input) p = (short-few (kinds_of input) p.0, printable-narrow input p.1)
  printable-narrow (AggregateOf input groups aggregates) p =
      (short-few (kinds_of input) (printable-short input p.2), groups-few (kinds_of input) groups aggregates p.0, printable-narrow input p.2)
  printable-narrow (LimitOf input keys count) p = (short-few (kinds_of input) p.0, printable-narrow input p.1)
  printable-narrow (ProvOf input) p = tt

  subs-narrow : {m : _} (subs : Row_of-Sublink m) → PrintableSubs subs → NarrowSubs subs
  subs-narrow end_of-Sublink p = tt
  subs-narrow (more_of-Sublink kind tested query subs) p = (printable-narrow query p.0.1, subs-narrow subs p.1)
