-- A query with tests on its rows.
use Rattle.std.specs.Prelude.{Bool, List, [], ◌∷◌}
use Rattle.std.specs.List.{list_all}
use Rattle.perm_values.specs.declared.value.Value.{Value}
use Rattle.bag_algebra.specs.Bags.{Row}
use Rattle.bag_algebra.specs.Expressions.{value}
use Rattle.bag_algebra.specs.Means.{is_met}
use Rattle.bag_algebra.specs.declared.expr.Expr.{Expr}
use Rattle.bag_algebra.specs.declared.query.Query.{Query}
use Rattle.bag_algebra.specs.declared.query.Query.TheVariants.{Filter}
use Rattle.contribution.specs.Conjunctions.{all_hold}

-- the rows of the query of which all tests are true; the query itself where there is no test
abbrev pub tested : Query → List Expr → Query
tested q [] = q
tested q (test ∷ tests) = Filter q (all_hold (test ∷ tests)) []

-- whether all tests are true of a row, where the node's sublinks have these values
abbrev pub hold : List Expr → List Row → List Value → Row → Bool
hold tests env answers u = list_all (λ test. is_met (value test u env answers)) tests
