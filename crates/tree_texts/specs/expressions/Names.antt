-- The names of columns in a printed query. The nth column of a SELECT is `c` with the number n; within a sublink, or behind
-- LATERAL, the `c` stands once more for each query around it. So no column has the name of one that is seen from further in.
use Rattle.std.specs.Prelude.{ℕ, List, ◌++◌, drop}
use Rattle.std.specs.Fmt.{decimal}

-- a column of the row at a level, where a query's own columns begin with a prefix
abbrev pub column_name : List ℕ → ℕ → ℕ → List ℕ
column_name prefix level number = drop level prefix ++ decimal number
