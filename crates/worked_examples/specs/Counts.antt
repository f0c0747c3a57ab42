-- Worked examples of the words that sum counts: r holds 1 twice and 2 once, s holds 1 once and 3 twice.
use Rattle.std.specs.Prelude.{◌≡◌, List, [], ◌∷◌, refl}
use Rattle.null_logic.specs.Comparison.{compare_values}
use Rattle.null_logic.specs.Logic.{value_of}
use Rattle.null_logic.specs.declared.compare.Compare.TheVariants.{Equal, Less}
use Rattle.perm_values.specs.Rows.{value_at}
use Rattle.perm_values.specs.declared.value.Value.{Value}
use Rattle.perm_values.specs.declared.value.Value.TheVariants.{Null}
use Rattle.bag_algebra.specs.Bags.{Row, Bag}
use Rattle.bag_algebra.specs.Means.{gives, holds_of}
use Rattle.bag_algebra.specs.Outcome.{Outcome, Good}
use Rattle.bag_algebra.specs.declared.query.JoinKind.TheVariants.{Inner, Left, Right, Full}
use Rattle.query_laws.specs.Aggregated.{occurrences}
use Rattle.query_laws.specs.Holding.{counted_where}
use Rattle.query_laws.specs.Nodes.{pairs_count, left_count, right_count, class_values}
use Rattle.worked_examples.specs.Queries.{num}

abbrev one_two : List Row
one_two = (num 1 ∷ []) ∷ (num 2 ∷ []) ∷ []

abbrev one_three : List Row
one_three = (num 1 ∷ []) ∷ (num 3 ∷ []) ∷ []

abbrev r : Bag
r = (num 1 ∷ []) ∷ (num 1 ∷ []) ∷ (num 2 ∷ []) ∷ []

abbrev s : Bag
s = (num 1 ∷ []) ∷ (num 3 ∷ []) ∷ (num 3 ∷ []) ∷ []

-- SELECT 7 FROM r: all rows give it
abbrev seven : Row → Outcome Row
seven u = Good (num 7 ∷ [])

pub project-all_rows : counted_where (λ u. gives (num 7 ∷ []) (seven u)) r one_two ≡ 3
project-all_rows = refl

-- WHERE a < 2
pub small-rows : counted_where (λ u. holds_of (value_of (compare_values Less (value_at u 0) (num 2)))) r one_two ≡ 2
small-rows = refl

-- r JOIN s ON r.a = s.a
abbrev equal : Row → Outcome Value
equal u = Good (value_of (compare_values Equal (value_at u 0) (value_at u 1)))

pub join-multiplies : pairs_count equal (num 1 ∷ num 1 ∷ []) r s one_two one_three ≡ 2
join-multiplies = refl

pub join-without_match : pairs_count equal (num 2 ∷ num 3 ∷ []) r s one_two one_three ≡ 0
join-without_match = refl

-- the row 2 of r is unmatched, and the rows 3 of s are
pub left_join-keeps : left_count Left equal 1 (num 2 ∷ Null ∷ []) r s one_two ≡ 1
left_join-keeps = refl

pub left_join-matched : left_count Left equal 1 (num 1 ∷ Null ∷ []) r s one_two ≡ 0
left_join-matched = refl

pub inner_join-keeps_none : left_count Inner equal 1 (num 2 ∷ Null ∷ []) r s one_two ≡ 0
inner_join-keeps_none = refl

pub right_join-keeps_each : right_count Right equal 1 (Null ∷ num 3 ∷ []) r s one_three ≡ 2
right_join-keeps_each = refl

pub left_join-keeps_no_right : right_count Left equal 1 (Null ∷ num 3 ∷ []) r s one_three ≡ 0
left_join-keeps_no_right = refl

pub full_join-keeps_each : right_count Full equal 1 (Null ∷ num 3 ∷ []) r s one_three ≡ 2
full_join-keeps_each = refl

-- GROUP BY a: the column itself on the class of 1
pub class-values : class_values (0 ∷ []) (λ u. Good u) r (num 1 ∷ []) 0 ≡ num 1 ∷ num 1 ∷ []
class-values = refl

pub value-occurrences : occurrences (num 3) (num 3 ∷ Null ∷ num 3 ∷ num 1 ∷ []) ≡ 2
value-occurrences = refl
