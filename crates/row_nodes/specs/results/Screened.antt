-- Rows of which some are left out.
use Rattle.std.specs.Prelude.{◌≡◌, ℕ, Bool, true, false, cond, List, length, take, get_or, slice_get, Option, None, Some, Result, Ok, Err}
use Rattle.perm_values.specs.Marked.{unmarked}
use Rattle.bag_algebra.specs.Bags.{Row, Bag}
use Rattle.bag_algebra.specs.Outcome.{Outcome, Good}
use Rattle.row_values.specs.Answers.{Refuses}
use Rattle.row_values.specs.declared.error.ExecError.{ExecError}
use Rattle.row_nodes.specs.declared.results.screened.Screened.{Screened}

abbrev pub left_by : Option (List Bool) → Bag → Bag
left_by None rows = rows
left_by (Some flags) rows = unmarked flags rows

abbrev pub rows_left : Screened → Bag
rows_left screened = left_by screened.doomed screened.rows

-- those of the rows before a place
abbrev pub left_before : Screened → ℕ → Bag
left_before screened at = left_by screened.doomed (take at screened.rows)

abbrev pub is_out : Option (List Bool) → ℕ → Bool
is_out None at = false
is_out (Some flags) at = get_or flags at true

-- the row at a place, unless it is left out
abbrev pub row_left : Screened → ℕ → Option Row
row_left screened at = cond (is_out screened.doomed at) None (slice_get screened.rows at)

-- where rows have flags, each row has one
abbrev pub FlagsEach : Option (List Bool) → Bag → Type 0
FlagsEach None rows = Unit {0}
FlagsEach (Some flags) rows = length flags ≡ length rows

abbrev pub HasFlags : Screened → Type 0
HasFlags screened = FlagsEach screened.doomed screened.rows

-- what a filter may give for an outcome: rows of which the good ones are left, or a fault of the set
abbrev pub GivesLeft : Outcome Bag → Result Screened ExecError → Type 0
GivesLeft outcome (Ok screened) = outcome ≡ Good (rows_left screened)
GivesLeft outcome (Err error) = Refuses outcome error
