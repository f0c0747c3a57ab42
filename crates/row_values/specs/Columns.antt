-- The values of an aggregate's argument, class by class.
use Rattle.std.specs.Prelude.{◌≡◌, ◌<◌, ℕ, List, [], ◌∷◌, ◌++◌, map, length, slice_index_or}
use Rattle.perm_values.specs.declared.value.Value.{Value}
use Rattle.bag_algebra.specs.Bags.{Row, Bag}
use Rattle.bag_algebra.specs.Meaning.{optional_value}
use Rattle.bag_algebra.specs.Means.{aggregated, good_value}
use Rattle.bag_algebra.specs.Outcome.{Outcome, Good, mapped, each}
use Rattle.bag_algebra.specs.declared.query.Aggr.{Aggr}
use Rattle.row_values.specs.Groups.{numbered}
use Rattle.row_values.specs.declared.groups.column.Column.{Column}

-- the test is good on each row
abbrev pub IsGoodOn : {Y : Type 0} → (Row → Outcome Y) → (Row → Y) → Bag → Type 0
IsGoodOn f value [] = Unit {0}
IsGoodOn f value (u ∷ us) = (f u ≡ Good (value u)) × IsGoodOn f value us

-- each class has the values on its rows, all of which are good
pub record Distributes (f : Row → Outcome Value) (us : Bag) (numbers : List ℕ) (count : ℕ) (classes : List (List Value)) : Type 0 where
  pub good : IsGoodOn f (λ u. good_value (f u)) us
  pub long : length classes ≡ count
  pub values : (number : ℕ) → number < count → slice_index_or classes number [] ≡ map (λ u. good_value (f u)) (numbered number numbers us)

-- as many classes without values
pub record AreEmpty (count : ℕ) (classes : List (List Value)) : Type 0 where
  pub long : length classes ≡ count
  pub empty : (number : ℕ) → slice_index_or classes number [] ≡ []

pub record IsAggregateColumn (env : List Row) (us : Bag) (numbers : List ℕ) (count : ℕ) (aggregate : Aggr) (column : Column) : Type 0 where
  pub function : column.function ≡ aggregate.function
  pub distributed : Distributes (optional_value aggregate.argument env) us numbers count column.values

-- the aggregate of a class
abbrev pub class_value : ℕ → Column → Outcome Value
class_value number column = aggregated column.function (slice_index_or column.values number [])

-- what is made of the group values of each class are these, then the aggregates
pub record MakesRows (make : Row → Outcome Row) (keys : Bag) (columns : List Column) : Type 0 where
  pub rows : (number : ℕ) → number < length keys →
      make (slice_index_or keys number []) ≡ mapped (λ values. slice_index_or keys number [] ++ values) (each (class_value number) columns)
