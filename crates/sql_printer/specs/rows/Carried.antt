-- Rows, answers and tables in which what a text is read as finds what the query reads.
use Rattle.std.specs.Prelude.{◌≡◌, ℕ, suc, ◌+◌, List, [], ◌∷◌, length, All, Some}
use Rattle.perm_values.specs.Rows.{value_at}
use Rattle.perm_values.specs.declared.kind.Kind.{Kind}
use Rattle.perm_values.specs.declared.value.Value.{Value}
use Rattle.bag_algebra.specs.Bags.{Row}
use Rattle.bag_algebra.specs.Expressions.{row_at}
use Rattle.bag_algebra.specs.Meaning.{Database, meaning}
use Rattle.bag_algebra.specs.Outcome.{Good}
use Rattle.bag_algebra.specs.WellFormed.{column_kind}
use Rattle.bag_algebra.specs.declared.query.Query.{Query}
use Rattle.sql_printer.specs.rows.PrintedExpressions.{before}

-- each column of each row, as far as there are kinds, stands in the other row of its level, behind so many that nothing reads
abbrev pub Carries : List (List Kind) → List ℕ → List Row → List Row → Type 0
Carries scopes unread env other = (level place : ℕ) (kind : Kind) → column_kind scopes level place ≡ Some kind
    → value_at (row_at other level) (before unread level + place) ≡ value_at (row_at env level) place

-- the answers from a number on are those of these sublinks
abbrev pub Answered : List Value → List Value → ℕ → List ℕ → Type 0
Answered read given n [] = Unit {0}
Answered read given n (number ∷ more) = (value_at read n ≡ value_at given number) × Answered read given (suc n) more

-- what a table's name stands for has the table's rows, under whatever outer rows, and each has a value for each kind
pub record IsGiven (source : ℕ → List Kind → Query) (db : Database) (id : ℕ) (kinds : List Kind) : Type 0 where
  pub rows : (env : List Row) → meaning (source id kinds) db env ≡ Good (db id)
  pub wide : All (λ (row : Row). length row ≡ length kinds) (db id)
