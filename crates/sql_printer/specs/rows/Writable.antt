-- Which queries can be written: integers have 64 bits, and texts are characters.
use Rattle.std.specs.Prelude.{◌≡◌, true, List, [], ◌∷◌, Option, Some, None}
use Rattle.std.specs.Str.{IsUtf8}
use Rattle.null_logic.specs.Arithmetic.{fits_64}
use Rattle.perm_values.specs.declared.value.Value.{Value}
use Rattle.perm_values.specs.declared.value.Value.TheVariants.{Null, Integer, Text, Boolean}
use Rattle.bag_algebra.specs.built.Patterns.{OpOf, ChainOf, CaseOf, IsNullOf, IsTruthOf, SameOf, BaseOf, FilterOf, ProjectOf, JoinOf, ApplyOf, UnionOf, IntersectOf, ExceptOf, DistinctOf, AggregateOf, LimitOf, ProvOf}
use Rattle.bag_algebra.specs.declared.expr.Expr.{Expr, Row_of-Expr, Row_of-Arm, Row_of-ChainStep, more_of-Expr, end_of-Expr, more_of-Arm, end_of-Arm, more_of-ChainStep, end_of-ChainStep}
use Rattle.bag_algebra.specs.declared.expr.Expr.TheVariants.{Col, Lit, Sub}
use Rattle.bag_algebra.specs.declared.expr.Item.{Item}
use Rattle.bag_algebra.specs.declared.query.Aggr.{Aggr}
use Rattle.bag_algebra.specs.declared.query.Query.{Query, Row_of-Sublink, more_of-Sublink, end_of-Sublink}
use Rattle.bag_algebra.specs.declared.query.Query.TheVariants.{Table, Single}

abbrev pub WritableValue : Value → Type 0
WritableValue Null = Unit {0}
WritableValue (Integer number) = fits_64 number ≡ true
WritableValue (Text spelled) = IsUtf8 spelled
WritableValue (Boolean truth) = Unit {0}

abbrev mutual
  pub Writable : Expr → Type 0
  Writable (Col level place) = Unit {0}
  Writable (Lit v kind) = WritableValue v
  Writable (OpOf op _ parts) = WritableParts parts
  Writable (ChainOf first _ steps) = Writable first × WritableSteps steps
  Writable (CaseOf _ arms otherwise) = WritableArms arms × Writable otherwise
  Writable (Sub number) = Unit {0}
  Writable (IsNullOf part) = Writable part
  Writable (IsTruthOf truth part) = Writable part
  Writable (SameOf first second) = Writable first × Writable second

  pub WritableParts : {m : _} → Row_of-Expr m → Type 0
  WritableParts end_of-Expr = Unit {0}
  WritableParts (more_of-Expr part parts) = Writable part × WritableParts parts

  pub WritableSteps : {m : _} → Row_of-ChainStep m → Type 0
  WritableSteps end_of-ChainStep = Unit {0}
  WritableSteps (more_of-ChainStep op part steps) = Writable part × WritableSteps steps

  pub WritableArms : {m : _} → Row_of-Arm m → Type 0
  WritableArms end_of-Arm = Unit {0}
  WritableArms (more_of-Arm condition arm arms) = Writable condition × Writable arm × WritableArms arms

abbrev pub WritableOption : Option Expr → Type 0
WritableOption None = Unit {0}
WritableOption (Some part) = Writable part

abbrev pub WritableItems : List Item → Type 0
WritableItems [] = Unit {0}
WritableItems (item ∷ items) = Writable item.expr × WritableItems items

abbrev pub WritableAggregates : List Aggr → Type 0
WritableAggregates [] = Unit {0}
WritableAggregates (aggregate ∷ aggregates) = WritableOption aggregate.argument × WritableAggregates aggregates

-- without PROVENANCE
abbrev mutual
  pub WritableQuery : Query → Type 0
  WritableQuery (Table id kinds) = Unit {0}
  WritableQuery Single = Unit {0}
  WritableQuery (BaseOf input places label) = WritableQuery input
  WritableQuery (FilterOf input condition _ subs) = WritableQuery input × Writable condition × WritableSubs subs
  WritableQuery (ProjectOf input items _ subs) = WritableQuery input × WritableItems items × WritableSubs subs
  WritableQuery (JoinOf kind left right condition _ subs) =
      WritableQuery left × WritableQuery right × Writable condition × WritableSubs subs
  WritableQuery (ApplyOf kind left right) = WritableQuery left × WritableQuery right
  WritableQuery (UnionOf all left right) = WritableQuery left × WritableQuery right
  WritableQuery (IntersectOf all left right) = WritableQuery left × WritableQuery right
  WritableQuery (ExceptOf all left right) = WritableQuery left × WritableQuery right
  WritableQuery (DistinctOf input) = WritableQuery input
  WritableQuery (AggregateOf input groups aggregates) = WritableQuery input × WritableAggregates aggregates
  WritableQuery (LimitOf input keys count) = WritableQuery input
  WritableQuery (ProvOf input) = ⊥

  pub WritableSubs : {m : _} → Row_of-Sublink m → Type 0
  WritableSubs end_of-Sublink = Unit {0}
  WritableSubs (more_of-Sublink kind tested query subs) = WritableOption tested × WritableQuery query × WritableSubs subs
