-- Sublinks and aggregates: what stands in an expression and is no operator.
use Rattle.std.specs.Prelude.{ℕ, ◌+◌, Bool, true, false, cond, not, ◌&&◌, List, [], ◌∷◌, ◌++◌, length, is_some, Option, Some, None, codes, nat_eq, nat_lt}
use Rattle.std.specs.Option.{option_map_or}
use Rattle.perm_values.specs.declared.kind.Kind.{Kind}
use Rattle.perm_values.specs.declared.kind.Kind.TheVariants as kind
use Rattle.perm_values.specs.declared.value.Value.TheVariants.{Null}
use Rattle.bag_algebra.specs.declared.expr.Expr.{Expr}
use Rattle.bag_algebra.specs.declared.expr.Expr.TheVariants.{Col, Lit, Sub}
use Rattle.bag_algebra.specs.declared.query.AggFn.{AggFn}
use Rattle.bag_algebra.specs.declared.query.AggFn.TheVariants as fn
use Rattle.bag_algebra.specs.declared.query.SubKind.{SubKind}
use Rattle.bag_algebra.specs.declared.query.SubKind.TheVariants.{Exists, Scalar}
use Rattle.sql_tree.specs.declared.expression.AggWord.{AggWord}
use Rattle.sql_tree.specs.declared.expression.AggWord.TheVariants as word
use Rattle.name_meaning.specs.Meanings.{nothing_inside, both_inside, Surroundings, Before, Built, Meant, seen_kind, Part, Around, OutColumn, QueryMeant, QueryPart, broken, broken_if, is_whole, unites, united_kind, settled, is_same_kind}
use Rattle.name_meaning.specs.Scopes.{ungrouped, group_count}
use Rattle.name_meaning.specs.declared.answer.Break.{Break}
use Rattle.name_meaning.specs.declared.scope.Found.{Found}
use Rattle.name_meaning.specs.declared.scope.Found.TheVariants.{Absent as absent, Ambiguous as ambiguous, Column as found}
use Rattle.name_meaning.specs.declared.rule.Rule.TheVariants as rule
use Rattle.name_meaning.specs.declared.rule.Rule.{Rule}

-- ---- what needs no operand

abbrev pub built_alone : Expr → Built
built_alone expr = record { expr = expr; subs = []; aggregates = [] }

abbrev pub null_at : Kind → Expr
null_at kind = Lit Null kind

-- a part that breaks this rule alone; what it would be is of no account
abbrev pub breaking : Rule → ℕ → Option Kind → Meant
breaking which at kind = record {
  breaks = broken which at ∷ [];
  kind = kind;
  inside = nothing_inside;
  make = λ wanted before. built_alone (null_at (settled kind wanted));
}

-- a column: it stands for itself in its core's rows, and where these are groups only if it is one of their columns; an
-- argument of an aggregate names columns of its own core alone
abbrev pub column_meant : Surroundings → ℕ → Found → Meant
column_meant here at absent = breaking rule.UnknownColumn at None
column_meant here at ambiguous = breaking rule.AmbiguousColumn at None
column_meant here at (found column) = record {
  breaks = broken_if (not (is_some column.place)) rule.UngroupedColumn at ++ broken_if (here.argument && nat_lt 0 column.level) rule.MisplacedAggregate at;
  kind = Some column.kind;
  inside = nothing_inside;
  make = λ wanted before. built_alone (option_map_or (Col column.level) column.place (null_at column.kind));
}

-- ---- aggregates

abbrev pub function_of : AggWord → AggFn
function_of word.CountRows = fn.CountRows
function_of word.Count = fn.Count
function_of word.CountDistinct = fn.CountDistinct
function_of word.Sum = fn.Sum
function_of word.Min = fn.Min
function_of word.Max = fn.Max

abbrev pub aggregate_name : AggWord → List ℕ
aggregate_name word.CountRows = codes "count"
aggregate_name word.Count = codes "count"
aggregate_name word.CountDistinct = codes "count"
aggregate_name word.Sum = codes "sum"
aggregate_name word.Min = codes "min"
aggregate_name word.Max = codes "max"

-- whether its argument may be of this kind: SUM needs Integer, MIN and MAX Integer or Text
abbrev pub takes_kind : AggWord → Option Kind → Bool
takes_kind word.CountRows argument = true
takes_kind word.Count argument = true
takes_kind word.CountDistinct argument = true
takes_kind word.Sum argument = unites (Some kind.Integer) argument
takes_kind word.Min argument = not (option_map_or (is_same_kind kind.Boolean) argument false)
takes_kind word.Max argument = not (option_map_or (is_same_kind kind.Boolean) argument false)

-- the kind that an argument of kind Any takes
abbrev pub argument_wanted : AggWord → Kind
argument_wanted word.CountRows = kind.Text
argument_wanted word.Count = kind.Text
argument_wanted word.CountDistinct = kind.Text
argument_wanted word.Sum = kind.Integer
argument_wanted word.Min = kind.Text
argument_wanted word.Max = kind.Text

-- MIN and MAX give the kind of their argument, and all others Integer
abbrev pub aggregate_kind : AggWord → Option Kind → Kind
aggregate_kind word.CountRows argument = kind.Integer
aggregate_kind word.Count argument = kind.Integer
aggregate_kind word.CountDistinct argument = kind.Integer
aggregate_kind word.Sum argument = kind.Integer
aggregate_kind word.Min argument = settled argument kind.Text
aggregate_kind word.Max argument = settled argument kind.Text

-- an argument sees the rows before they are grouped, and neither an aggregate nor a sublink stands in it
abbrev pub in_argument : Surroundings → Surroundings
in_argument here = record here { scopes = ungrouped here.scopes; aggregates = false; sublinks = false; argument = true }

abbrev pub nothing_before : Before
nothing_before = record { subs = 0; aggregates = 0 }

-- an aggregate stands behind the GROUP BY columns and the aggregates before it
abbrev pub aggregate_made : Surroundings → AggWord → Option Kind → Option Expr → Before → Built
aggregate_made here word argument_kind argument before = record {
  expr = Col 0 (group_count here.scopes + before.aggregates);
  subs = [];
  aggregates = record { function = function_of word; argument = argument; kind = aggregate_kind word argument_kind } ∷ [];
}

abbrev pub rows_counted : Surroundings → ℕ → AggWord → Meant
rows_counted here at word = record {
  breaks = broken_if (not here.aggregates) rule.MisplacedAggregate at;
  kind = Some (aggregate_kind word None);
  inside = nothing_inside;
  make = λ wanted before. aggregate_made here word None None before;
}

abbrev pub aggregated : Surroundings → ℕ → AggWord → ℕ → Meant → Meant
aggregated here at word argument_at argument = record {
  breaks = argument.breaks ++ broken_if (not here.aggregates) rule.MisplacedAggregate at ++ broken_if (not (takes_kind word (seen_kind argument))) rule.UnfitKind argument_at;
  kind = Some (aggregate_kind word (seen_kind argument));
  inside = argument.inside;
  make = λ wanted before.
      aggregate_made here word (seen_kind argument) (Some (argument.make (argument_wanted word) nothing_before).expr) before;
}

abbrev pub aggregate_meant : Surroundings → ℕ → AggWord → Option Part → Meant
aggregate_meant here at word None = rows_counted here at word
aggregate_meant here at word (Some argument) = aggregated here at word argument.at (argument.means (in_argument here))

-- ---- sublinks

-- a sublink sees all scopes around it, and the word PROVENANCE doesn't stand in it
abbrev pub around_of : Surroundings → Around
around_of here = record { outer = here.scopes; may_ask = false }

abbrev pub sub_built : SubKind → Option Expr → Before → QueryMeant → List Kind → Built
sub_built sub tested before query wanted = record {
  expr = Sub before.subs;
  subs = record { kind = sub; tested = tested; query = query.make wanted } ∷ [];
  aggregates = [];
}

-- a query whose breaks and columns are known has one column
abbrev pub is_one_column : Option (List OutColumn) → Bool
is_one_column None = true
is_one_column (Some columns) = nat_eq (length columns) 1

-- the kind of the first column, if it is known
abbrev pub first_kind : QueryMeant → Option Kind
first_kind query = cond (is_whole query.breaks) (elim query.columns [
  | None ↦ None
  | Some columns ↦ elim columns [ [] ↦ None | c ∷ cs ↦ c.kind ]
]) None

abbrev pub exists_meant : Surroundings → ℕ → QueryMeant → Meant
exists_meant here at query = record {
  breaks = query.breaks;
  kind = Some kind.Boolean;
  inside = query.inside;
  make = λ wanted before. sub_built Exists None before query [];
}

abbrev pub scalar_meant : Surroundings → ℕ → QueryMeant → Meant
scalar_meant here at query = record {
  breaks = query.breaks ++ broken_if (not (is_one_column query.columns)) rule.UnfitWidth at;
  kind = first_kind query;
  inside = query.inside;
  make = λ wanted before. sub_built Scalar None before query (settled (first_kind query) wanted ∷ []);
}

-- an inner query is looked at where a sublink may stand
abbrev pub if_standing : Surroundings → ℕ → Option Kind → Meant → Meant
if_standing here at kind meant = cond here.sublinks meant (breaking rule.MisplacedSublink at kind)

-- the left operand of a sublink has no sublink
abbrev pub in_tested : Surroundings → Surroundings
in_tested here = record here { sublinks = false }

-- one column, of a kind that unites with that of the left operand
abbrev pub tested_break : Option Kind → ℕ → QueryMeant → List Break
tested_break tested at query = cond (is_one_column query.columns) (broken_if (not (unites tested (first_kind query))) rule.UnfitKind at) (broken rule.UnfitWidth at ∷ [])

abbrev pub tested_kind : Meant → QueryMeant → Kind
tested_kind tested query = settled (united_kind (seen_kind tested) (first_kind query)) kind.Text

abbrev pub tested_built : SubKind → Kind → Built → Before → QueryMeant → Built
tested_built sub common tested before query = record {
  expr = Sub before.subs;
  subs = record { kind = sub; tested = Some tested.expr; query = query.make (common ∷ []) } ∷ [];
  aggregates = tested.aggregates;
}

abbrev pub tested_looked : SubKind → Meant → ℕ → QueryMeant → Meant
tested_looked sub tested query_at query = record {
  breaks = tested.breaks ++ query.breaks ++ tested_break (seen_kind tested) query_at query;
  kind = Some kind.Boolean;
  inside = both_inside tested.inside query.inside;
  make = λ wanted before.
      tested_built sub (tested_kind tested query) (tested.make (tested_kind tested query) before) before query;
}

abbrev pub tested_unlooked : ℕ → Meant → Meant
tested_unlooked at tested = record tested { breaks = tested.breaks ++ broken rule.MisplacedSublink at ∷ []; kind = Some kind.Boolean }

abbrev pub tested_meant : Surroundings → ℕ → SubKind → Part → QueryPart → Meant
tested_meant here at sub part query = cond here.sublinks
    (tested_looked sub (part.means (in_tested here)) query.at (query.means (around_of here)))
    (tested_unlooked at (part.means (in_tested here)))
