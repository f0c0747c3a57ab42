-- Whether a query reads a table, and the first one of an identity that it reads, sublinks aside.
use Rattle.std.specs.Prelude.{◌≢◌, ℕ, cond, ◌==◌, List, [], ◌∷◌, Option, Some, None}
use Rattle.perm_values.specs.declared.kind.Kind.{Kind}
use Rattle.bag_algebra.specs.TablesRead.{EachTable}
use Rattle.bag_algebra.specs.built.Patterns.{BaseOf, FilterOf, ProjectOf, JoinOf, ApplyOf, UnionOf, IntersectOf, ExceptOf, DistinctOf, AggregateOf, LimitOf, ProvOf}
use Rattle.bag_algebra.specs.declared.query.Query.{Query}
use Rattle.bag_algebra.specs.declared.query.Query.TheVariants.{Table, Single}

-- the query doesn't read the table of this identity
abbrev pub Unread : ℕ → Query → Type 0
Unread id q = EachTable (λ other kinds. other ≢ id) q

abbrev pub IsRead : ℕ → Query → Type 0
IsRead id q = Unread id q → ⊥

-- the first that is there
abbrev pub first_there : Option (List Kind) → Option (List Kind) → Option (List Kind)
first_there None other = other
first_there (Some kinds) other = Some kinds

-- the kinds of its columns
abbrev pub first_kinds : ℕ → Query → Option (List Kind)
first_kinds id (Table other kinds) = cond (other == id) (Some kinds) None
first_kinds id Single = None
first_kinds id (BaseOf input places label) = first_kinds id input
first_kinds id (FilterOf input condition _ subs) = first_kinds id input
first_kinds id (ProjectOf input items _ subs) = first_kinds id input
first_kinds id (JoinOf kind left right condition _ subs) = first_there (first_kinds id left) (first_kinds id right)
first_kinds id (ApplyOf kind left right) = first_there (first_kinds id left) (first_kinds id right)
first_kinds id (UnionOf all left right) = first_there (first_kinds id left) (first_kinds id right)
first_kinds id (IntersectOf all left right) = first_there (first_kinds id left) (first_kinds id right)
first_kinds id (ExceptOf all left right) = first_there (first_kinds id left) (first_kinds id right)
first_kinds id (DistinctOf input) = first_kinds id input
first_kinds id (AggregateOf input groups aggregates) = first_kinds id input
first_kinds id (LimitOf input keys count) = first_kinds id input
first_kinds id (ProvOf input) = first_kinds id input

-- of the first of these queries that reads it
abbrev pub first_of : ℕ → List Query → Option (List Kind)
first_of id [] = None
first_of id (query ∷ queries) = first_there (first_kinds id query) (first_of id queries)
