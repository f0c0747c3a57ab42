-- Which queries can be printed: each integer has 64 bits, each text is of characters, and no node has 2^63 columns.
use Rattle.std.specs.Prelude.{◌+◌, ◌<◌, ◌^◌, List, [], ◌++◌, map, length}
use Rattle.std.specs.List.{AllByRecursion}
use Rattle.std.specs.Str.{IsUtf8}
use Rattle.perm_values.specs.declared.kind.Kind.{Kind}
use Rattle.bag_algebra.specs.Kinds.{kinds_in, kinds_of, place_kinds, shape}
use Rattle.bag_algebra.specs.built.Patterns.{BaseOf, FilterOf, ProjectOf, JoinOf, ApplyOf, UnionOf, IntersectOf, ExceptOf, DistinctOf, AggregateOf, LimitOf, ProvOf}
use Rattle.bag_algebra.specs.declared.expr.Arm.{Arm}
use Rattle.bag_algebra.specs.declared.expr.ChainStep.{ChainStep}
use Rattle.bag_algebra.specs.declared.expr.Item.{Item}
use Rattle.bag_algebra.specs.declared.query.Aggr.{Aggr}
use Rattle.bag_algebra.specs.declared.query.Query.{Query, Row_of-Sublink, more_of-Sublink, end_of-Sublink}
use Rattle.bag_algebra.specs.declared.query.Query.TheVariants.{Table, Single, Base', Filter', Project', Join', Apply', Union', Intersect', Except', Distinct', Aggregate', Limit', Prov'}
use Rattle.bag_algebra.specs.declared.query.Sublink.{Sublink}
use Rattle.query_texts.specs.declared.clauses.tables.TableNames.{TableNames}
use Rattle.sql_printer.specs.rows.Writable.{Writable, WritableAggregates, WritableItems, WritableOption}

-- so few columns that one more has a number below 2^63
abbrev pub Short : List Kind → Type 0
Short kinds = 1 + length kinds < 2 ^ 63

-- ---- parts, as code holds them

abbrev pub WritableStep : ChainStep → Type 0
WritableStep step = Writable step.part

abbrev pub WritableArm : Arm → Type 0
WritableArm arm = Writable arm.condition × Writable arm.value

-- ---- queries

-- the literals of a node's own expressions
abbrev pub OwnWritable : Query → Type 0
OwnWritable (Table id kinds) = Unit {0}
OwnWritable Single = Unit {0}
OwnWritable (Base' _ input places label) = Unit {0}
OwnWritable (Filter' _ input condition _ subs) = Writable condition
OwnWritable (Project' _ input items _ subs) = WritableItems items
OwnWritable (Join' kind _ left _ right condition _ subs) = Writable condition
OwnWritable (Apply' kind _ left _ right) = Unit {0}
OwnWritable (Union' all _ left _ right) = Unit {0}
OwnWritable (Intersect' all _ left _ right) = Unit {0}
OwnWritable (Except' all _ left _ right) = Unit {0}
OwnWritable (Distinct' _ input) = Unit {0}
OwnWritable (Aggregate' _ input groups aggregates) = WritableAggregates aggregates
OwnWritable (Limit' _ input keys count) = Unit {0}
OwnWritable (Prov' _ input) = Unit {0}

abbrev mutual
  pub Printable : Query → Type 0
  Printable (Table id kinds) = Short kinds
  Printable Single = Short []
  Printable (BaseOf input places label) = Short (kinds_of input) × Printable input
  Printable (FilterOf input condition _ subs) = Short (kinds_of input) × Writable condition × Printable input × PrintableSubs subs
  Printable (ProjectOf input items _ subs) =
      Short (map (λ (item : Item). item.kind) items) × WritableItems items × Printable input × PrintableSubs subs
  Printable (JoinOf kind left right condition _ subs) =
      Short (kinds_of left ++ kinds_of right) × Writable condition × Printable left × Printable right × PrintableSubs subs
  Printable (ApplyOf kind left right) = Short (kinds_of left ++ kinds_of right) × Printable left × Printable right
  Printable (UnionOf all left right) = Short (kinds_of left) × Printable left × Printable right
  Printable (IntersectOf all left right) = Short (kinds_of left) × Printable left × Printable right
  Printable (ExceptOf all left right) = Short (kinds_of left) × Printable left × Printable right
  Printable (DistinctOf input) = Short (kinds_of input) × Printable input
  Printable (AggregateOf input groups aggregates) =
      Short (kinds_in (kinds_of input) groups ++ map (λ (aggregate : Aggr). aggregate.kind) aggregates) × WritableAggregates aggregates × Printable input
  Printable (LimitOf input keys count) = Short (kinds_of input) × Printable input
  Printable (ProvOf input) = Short (kinds_of input ++ place_kinds (shape input)) × Printable input

  pub PrintableSubs : {m : _} → Row_of-Sublink m → Type 0
  PrintableSubs end_of-Sublink = Unit {0}
  PrintableSubs (more_of-Sublink kind tested query subs) = (WritableOption tested × Printable query) × PrintableSubs subs

-- a sublink, as code holds it
abbrev pub PrintableSub : Sublink → Type 0
PrintableSub sub = WritableOption sub.tested × Printable sub.query

-- the names of a table and of its columns are of characters
pub record AreCharacters (table : TableNames) : Type 0 where
  pub name : IsUtf8 table.name
  pub columns : AllByRecursion IsUtf8 table.columns
