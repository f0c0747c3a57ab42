-- Words to write resolved queries by, for worked examples of names.
use Rattle.std.specs.Prelude.{[], ◌∷◌, Option, Some, None}
use Rattle.perm_values.specs.declared.kind.Kind.{Kind}
use Rattle.perm_values.specs.declared.kind.Kind.TheVariants as kind
use Rattle.bag_algebra.specs.declared.expr.Expr.{Expr}
use Rattle.bag_algebra.specs.declared.query.Aggr.{Aggr}
use Rattle.bag_algebra.specs.declared.query.AggFn.{AggFn}
use Rattle.bag_algebra.specs.declared.query.Query.{Query}
use Rattle.bag_algebra.specs.declared.query.Query.TheVariants.{Project}
use Rattle.bag_algebra.specs.declared.query.SubKind.{SubKind}
use Rattle.bag_algebra.specs.declared.query.Sublink.{Sublink}
use Rattle.worked_examples.specs.Queries.{number, item}

-- SELECT 1 over these rows
abbrev pub one_over : Query → Query
one_over input = Project input (item (number 1) ∷ []) []

abbrev pub sub : SubKind → Query → Sublink
sub kind query = record { kind = kind; tested = None; query = query }

abbrev pub tested : SubKind → Expr → Query → Sublink
tested kind expr query = record { kind = kind; tested = Some expr; query = query }

abbrev pub aggregate : AggFn → Option Expr → Kind → Aggr
aggregate function argument kind = record { function = function; argument = argument; kind = kind }
