-- What a core is, of clauses that are made.
use Rattle.std.specs.Prelude.{ℕ, List, Option, Some, None}
use Rattle.bag_algebra.specs.declared.query.Query.{Query}
use Rattle.bag_algebra.specs.declared.query.Query.TheVariants.{Filter, Project}
use Rattle.name_meaning.specs.Cores.{aggregated_input, distinct_if}
use Rattle.name_meaning.specs.declared.nodes.cores.Clauses.{Clauses}
use Rattle.name_meaning.specs.declared.nodes.cores.Condition.{Condition}
use Rattle.name_meaning.specs.declared.nodes.cores.Listed.{Listed}

abbrev pub condition_over : Query → Option Condition → Query
condition_over input None = input
condition_over input (Some condition) = Filter input condition.expr condition.subs

abbrev pub listed_over : Query → Option (List ℕ) → Option Condition → Listed → Query
listed_over rows groups having list = Project (condition_over (aggregated_input rows groups list.aggregates) having) list.items list.subs

abbrev pub clauses_over : Query → Clauses → Query
clauses_over input clauses = distinct_if clauses.distinct (listed_over (condition_over input clauses.condition) clauses.groups clauses.having clauses.list)
