-- The children of the topmost node of a query: its inputs and its sublinks.
use Rattle.std.specs.Prelude.{◌≡◌, List, [], ◌∷◌, Option, None, Some}
use Rattle.bag_algebra.specs.built.Openings.{row_of_subs}
use Rattle.bag_algebra.specs.built.Patterns.{BaseOf, FilterOf, ProjectOf, JoinOf, ApplyOf, UnionOf, IntersectOf, ExceptOf, DistinctOf, AggregateOf, LimitOf, ProvOf}
use Rattle.bag_algebra.specs.declared.children.Inputs.{Inputs}
use Rattle.bag_algebra.specs.declared.children.Inputs.TheVariants.{Zero, One, Two}
use Rattle.bag_algebra.specs.declared.query.Query.{Query, items-the_row-Sublink}
use Rattle.bag_algebra.specs.declared.query.Query.TheBlock.{items_hidden-the_row-Sublink-1}
use Rattle.bag_algebra.specs.declared.query.Query.TheVariants.{Table, Single, Base', Filter', Project', Join', Apply', Union', Intersect', Except', Distinct', Aggregate', Limit', Prov'}
use Rattle.bag_algebra.specs.declared.query.Sublink.{Sublink}

-- the queries that code has at hand, in order
abbrev pub given : Inputs → List Query
given Zero = []
given (One input) = input.now ∷ []
given (Two left right) = left.now ∷ right.now ∷ []

abbrev pub inputs_of : Query → List Query
inputs_of (Table id kinds) = []
inputs_of Single = []
inputs_of (BaseOf input places label) = input ∷ []
inputs_of (FilterOf input condition _ subs) = input ∷ []
inputs_of (ProjectOf input items _ subs) = input ∷ []
inputs_of (JoinOf kind left right condition _ subs) = left ∷ right ∷ []
inputs_of (ApplyOf kind left right) = left ∷ right ∷ []
inputs_of (UnionOf all left right) = left ∷ right ∷ []
inputs_of (IntersectOf all left right) = left ∷ right ∷ []
inputs_of (ExceptOf all left right) = left ∷ right ∷ []
inputs_of (DistinctOf input) = input ∷ []
inputs_of (AggregateOf input groups aggregates) = input ∷ []
inputs_of (LimitOf input keys count) = input ∷ []
inputs_of (ProvOf input) = input ∷ []

-- the first of them, where there is one
abbrev pub first_of : List Query → Option Query
first_of [] = None
first_of (input ∷ rest) = Some input

-- the sublinks in the node's expressions, in the order of their numbers
abbrev pub sublinks_of : Query → List Sublink
sublinks_of (Table id kinds) = []
sublinks_of Single = []
sublinks_of (Base' _ input places label) = []
sublinks_of (Filter' _ input condition _ subs) = items-the_row-Sublink _ subs
sublinks_of (Project' _ input items _ subs) = items-the_row-Sublink _ subs
sublinks_of (Join' kind _ left _ right condition _ subs) = items-the_row-Sublink _ subs
sublinks_of (Apply' kind _ left _ right) = []
sublinks_of (Union' all _ left _ right) = []
sublinks_of (Intersect' all _ left _ right) = []
sublinks_of (Except' all _ left _ right) = []
sublinks_of (Distinct' _ input) = []
sublinks_of (Aggregate' _ input groups aggregates) = []
sublinks_of (Limit' _ input keys count) = []
sublinks_of (Prov' _ input) = []

pub sublinks-row_of_subs : (subs : List Sublink) → items-the_row-Sublink _ (row_of_subs subs) ≡ subs
sublinks-row_of_subs subs = items_hidden-the_row-Sublink-1 subs
