-- A query over some rows of a table, over what is left of it, and the rows of a query that another one doesn't have.
use Rattle.std.specs.Prelude.{ℕ, false, cond, ◌==◌, List, []}
use Rattle.null_logic.specs.declared.truth.Truth.TheVariants.{True, False}
use Rattle.perm_values.specs.declared.kind.Kind.{Kind}
use Rattle.bag_algebra.specs.built.Patterns.{FilterOf}
use Rattle.bag_algebra.specs.declared.expr.Expr.{Expr}
use Rattle.bag_algebra.specs.declared.expr.Expr.TheVariants.{IsTruth}
use Rattle.bag_algebra.specs.declared.query.JoinKind.TheVariants.{Inner}
use Rattle.bag_algebra.specs.declared.query.Query.{Query, end_of-Sublink}
use Rattle.bag_algebra.specs.declared.query.Query.TheVariants.{Table, Apply, Except, Aggregate}
use Rattle.query_laws.specs.replaced.OverQueries.{over_queries}

-- it is false or unknown
abbrev pub not_true : Expr → Expr
not_true e = IsTruth False (IsTruth True e)

-- in the place of the table its rows on which the condition is true, in that of each other table that table
abbrev pub rows_of : ℕ → Expr → ℕ → List Kind → Query
rows_of id condition other kinds = cond (other == id) (FilterOf (Table other kinds) condition [] end_of-Sublink) (Table other kinds)

-- the query over the rows of the table on which the condition is true
abbrev pub over_rows : ℕ → Expr → Query → Query
over_rows id condition q = over_queries (rows_of id condition) q

-- the query over what is left of the table, once its rows are gone on which the condition is true
abbrev pub reduced : ℕ → Expr → Query → Query
reduced id condition q = over_rows id (not_true condition) q

-- the rows of the query that it doesn't have over what is left, each once
abbrev pub missing : ℕ → Expr → Query → Query
missing id condition q = Except false q (reduced id condition q)

-- the rows of the query over the rows that go that it doesn't have over what is left, each once
abbrev pub missing_part : ℕ → Expr → Query → Query
missing_part id condition q = Except false (over_rows id condition q) (reduced id condition q)

-- the rows of q, which is run where the first is good: it stands beside the one row, without columns, of all the first's rows
abbrev pub behind : Query → Query → Query
behind first q = Apply Inner (Aggregate first [] []) q
