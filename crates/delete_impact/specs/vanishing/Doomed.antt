-- Rows of a table that a deletion takes away, and where they stand in witness lists.
use Rattle.std.specs.Prelude.{ℕ, Bool, true, false, cond, not, ◌&&◌, ◌||◌, ◌==◌, List, [], ◌∷◌, ◌++◌, Option, Some, None, filter}
use Rattle.bag_algebra.specs.Bags.{Row}
use Rattle.bag_algebra.specs.Expressions.{value}
use Rattle.bag_algebra.specs.Meaning.{Database}
use Rattle.bag_algebra.specs.Means.{Entry, Held, Empty, Witness, holds_of, is_met}
use Rattle.bag_algebra.specs.Outcome.{Outcome, Good, mapped}
use Rattle.bag_algebra.specs.built.Patterns.{BaseOf, FilterOf, ProjectOf, JoinOf, ApplyOf, UnionOf, IntersectOf, ExceptOf, DistinctOf, AggregateOf, LimitOf, ProvOf}
use Rattle.bag_algebra.specs.declared.expr.Expr.{Expr}
use Rattle.bag_algebra.specs.declared.query.Query.{Query, Row_of-Sublink, more_of-Sublink, end_of-Sublink}
use Rattle.bag_algebra.specs.declared.query.Query.TheVariants.{Table, Single}

-- whether a row of the table goes, or the faults that the condition meets on it
abbrev pub doomed_on : Option Expr → Row → Outcome Bool
doomed_on None row = Good true
doomed_on (Some condition) row = mapped holds_of (value condition row [] [])

-- a row of the table is doomed where the condition is true on it, and every row is where there is none
abbrev pub is_doomed : Option Expr → Row → Bool
is_doomed None row = true
is_doomed (Some condition) row = is_met (value condition row [] [])

-- the database without the doomed rows of the table
abbrev pub after_deletion : ℕ → Option Expr → Database → Database
after_deletion id condition db other = cond (other == id) (filter (λ row. not (is_doomed condition row)) (db other)) (db other)

-- ---- witness lists

-- the query is the table of this identity
abbrev pub is_over : ℕ → Query → Bool
is_over id (Table other kinds) = other == id
is_over id Single = false
is_over id (BaseOf input places label) = false
is_over id (FilterOf input condition _ subs) = false
is_over id (ProjectOf input items _ subs) = false
is_over id (JoinOf kind left right condition _ subs) = false
is_over id (ApplyOf kind left right) = false
is_over id (UnionOf all left right) = false
is_over id (IntersectOf all left right) = false
is_over id (ExceptOf all left right) = false
is_over id (DistinctOf input) = false
is_over id (AggregateOf input groups aggregates) = false
is_over id (LimitOf input keys count) = false
is_over id (ProvOf input) = false

abbrev mutual
  -- for each place of the query, in the order of `shape`, whether its source is over the table of this identity
  pub places_over : ℕ → Query → List Bool
  places_over id (Table other kinds) = []
  places_over id Single = []
  places_over id (BaseOf input places label) = is_over id input ∷ []
  places_over id (FilterOf input condition _ subs) = places_over id input ++ sub_places_over id subs
  places_over id (ProjectOf input items _ subs) = places_over id input ++ sub_places_over id subs
  places_over id (JoinOf kind left right condition _ subs) = places_over id left ++ places_over id right ++ sub_places_over id subs
  places_over id (ApplyOf kind left right) = places_over id left ++ places_over id right
  places_over id (UnionOf all left right) = places_over id left ++ places_over id right
  places_over id (IntersectOf all left right) = places_over id left ++ places_over id right
  places_over id (ExceptOf all left right) = places_over id left ++ places_over id right
  places_over id (DistinctOf input) = places_over id input
  places_over id (AggregateOf input groups aggregates) = places_over id input
  places_over id (LimitOf input keys count) = places_over id input
  places_over id (ProvOf input) = []

  -- of the sublinks' queries, in the order of their numbers
  pub sub_places_over : ℕ → {m : _} → Row_of-Sublink m → List Bool
  sub_places_over id end_of-Sublink = []
  sub_places_over id (more_of-Sublink kind tested query subs) = places_over id query ++ sub_places_over id subs

-- an entry at a place over the table or at another is a doomed row of the table; an empty one never is
abbrev pub is_doomed_entry : Option Expr → Bool → Entry → Bool
is_doomed_entry condition over (Held row) = over && is_doomed condition row
is_doomed_entry condition over (Empty width) = false

-- a list has a doomed row of the table at a place that is over it
abbrev pub has_doomed : Option Expr → List Bool → Witness → Bool
has_doomed condition [] entries = false
has_doomed condition (over ∷ places) [] = false
has_doomed condition (over ∷ places) (entry ∷ entries) = is_doomed_entry condition over entry || has_doomed condition places entries
