-- What is kept of a query from one outer row to the next, and by which columns its rows are found, worked out: a filter below
-- other nodes, equations under IS TRUE, and equations beside a guard. An outer row is one of r(a INTEGER, v), the rows those
-- of s(c INTEGER).
use Rattle.std.specs.Prelude.{◌≡◌, true, false, [], ◌∷◌, List, Some, None, refl}
use Rattle.null_logic.specs.declared.arith.Arith.TheVariants.{Add}
use Rattle.null_logic.specs.declared.compare.Compare.TheVariants.{Equal, Greater}
use Rattle.null_logic.specs.declared.truth.Truth.TheVariants as truth
use Rattle.perm_values.specs.declared.value.Value.TheVariants.{Null, Boolean}
use Rattle.bag_algebra.specs.Bags.{Row, Bag}
use Rattle.bag_algebra.specs.built.Patterns.{AggregateOf, DistinctOf, FilterOf, IsTruthOf, ProjectOf, SameOf}
use Rattle.bag_algebra.specs.declared.expr.Expr.{Expr}
use Rattle.bag_algebra.specs.declared.expr.Expr.TheVariants.{Sub}
use Rattle.bag_algebra.specs.declared.query.Query.{Query, more_of-Sublink, end_of-Sublink}
use Rattle.bag_algebra.specs.declared.query.SubKind.TheVariants.{Exists}
use Rattle.query_facts.specs.reached.Reach.{reach_of}
use Rattle.row_joins.specs.Equated.{equated, pair_of}
use Rattle.row_joins.specs.Guards.{guard_holds, keyed_columns}
use Rattle.row_joins.specs.Hashed.{met_rows, on_pair}
use Rattle.row_joins.specs.declared.pairs.PairLayout.TheVariants.{Around}
use Rattle.row_nodes.specs.Keeping.{keyed_at}
use Rattle.worked_examples.specs.Queries.{and_also, col, compared, isnt, item, number, num, one, or_else as either, reckoned, s}

abbrev is_true : Expr → Expr
is_true a = IsTruthOf truth.True a

abbrev pub filter : Query → Expr → Query
filter q condition = FilterOf q condition [] end_of-Sublink

abbrev select : Expr → Query → Query
select e q = ProjectOf q (item e ∷ []) [] end_of-Sublink

-- s.c = r.a
abbrev pub equation : Expr
equation = compared Equal (col 0 0) (col 1 0)

-- ---- a filter below other nodes: SELECT 1 FROM (SELECT c FROM s WHERE s.c = r.a) x WHERE x.c > 1

abbrev pub nested : Query
nested = select (number 1) (filter (select (col 0 0) (filter s equation)) (compared Greater (col 0 0) (number 1)))

whole : reach_of nested ≡ 1
whole = refl

items : keyed_at nested 0 ≡ None
items = refl

upper-filter : keyed_at nested 1 ≡ Some 1
upper-filter = refl

lower-filter : keyed_at nested 3 ≡ Some 0
lower-filter = refl

below-both : keyed_at nested 4 ≡ None
below-both = refl

below-groups : keyed_at (AggregateOf (filter s equation) [] []) 1 ≡ Some 0
below-groups = refl

below-distinct : keyed_at (DistinctOf (filter s equation)) 1 ≡ None
below-distinct = refl

condition-that-may-fault : keyed_at (filter s (compared Equal (reckoned Add (col 0 0) (number 1)) (col 1 0))) 0 ≡ None
condition-that-may-fault = refl

sublink-in-condition : keyed_at (FilterOf s (Sub 0) one (more_of-Sublink Exists None s end_of-Sublink)) 0 ≡ None
sublink-in-condition = refl

-- ---- IS TRUE

under-is-true : equated Around (is_true equation) ≡ pair_of 0 0 false ∷ []
under-is-true = refl

under-and : equated Around (is_true (and_also (SameOf (col 0 0) (col 1 1)) (is_true equation))) ≡ pair_of 1 0 true ∷ pair_of 0 0 false ∷ []
under-and = refl

under-is-false : equated Around (IsTruthOf truth.False equation) ≡ []
under-is-false = refl

under-is-unknown : equated Around (IsTruthOf truth.Unknown equation) ≡ []
under-is-unknown = refl

-- ---- a guard: NOT (r.v IS TRUE) OR (r.a = s.c) IS TRUE

abbrev guarded : Expr
guarded = either (isnt (is_true (col 1 1))) (is_true (compared Equal (col 1 0) (col 0 0)))

-- what an outer row that holds 5 and this truth makes of rows with 4 and 5
abbrev found : List Row → Bag
found env = met_rows (on_pair guarded env) ((num 4 ∷ []) ∷ (num 5 ∷ []) ∷ [])

nothing-everywhere : equated Around guarded ≡ []
nothing-everywhere = refl

where-no-guard-is : keyed_columns guarded ≡ pair_of 0 0 false ∷ []
where-no-guard-is = refl

guard-first-or-last : keyed_columns (either equation (is_true (col 1 1))) ≡ pair_of 0 0 false ∷ []
guard-first-or-last = refl

known-true : guard_holds guarded ((num 5 ∷ Boolean true ∷ []) ∷ []) ≡ false
known-true = refl

known-false : guard_holds guarded ((num 5 ∷ Boolean false ∷ []) ∷ []) ≡ true
known-false = refl

unknown : guard_holds guarded ((num 5 ∷ Null ∷ []) ∷ []) ≡ true
unknown = refl

rows-of-no-guard : found ((num 5 ∷ Boolean true ∷ []) ∷ []) ≡ (num 5 ∷ []) ∷ []
rows-of-no-guard = refl

rows-of-a-guard : found ((num 5 ∷ Null ∷ []) ∷ []) ≡ (num 4 ∷ []) ∷ (num 5 ∷ []) ∷ []
rows-of-a-guard = refl

several-own-parts : keyed_columns (either equation (compared Greater (col 0 0) (number 1))) ≡ []
several-own-parts = refl

no-own-part : keyed_columns (either (is_true (col 1 1)) (is_true (col 1 1))) ≡ []
no-own-part = refl

no-or : keyed_columns (and_also equation (is_true (col 1 1))) ≡ pair_of 0 0 false ∷ []
no-or = refl
