-- Worked examples of dependent joins that ordinary joins serve, and of what is traced for sublinks.
use Rattle.std.specs.Prelude.{◌≡◌, true, false, [], ◌∷◌, Some, None, refl}
use Rattle.null_logic.specs.declared.arith.Arith.TheVariants.{Add}
use Rattle.null_logic.specs.declared.compare.Compare.TheVariants as compare
use Rattle.perm_values.specs.declared.kind.Kind.TheVariants as kind
use Rattle.perm_values.specs.declared.value.Value.TheVariants.{Null}
use Rattle.bag_algebra.specs.Outcome.{Good}
use Rattle.bag_algebra.specs.built.Patterns.{AggregateOf, ApplyOf, DistinctOf, FilterOf, LimitOf}
use Rattle.bag_algebra.specs.declared.query.AggFn.TheVariants.{Max}
use Rattle.bag_algebra.specs.declared.query.JoinKind.{JoinKind}
use Rattle.bag_algebra.specs.declared.query.JoinKind.TheVariants.{Inner, Left}
use Rattle.bag_algebra.specs.declared.query.Query.{Query, end_of-Sublink}
use Rattle.bag_algebra.specs.declared.query.SubKind.TheVariants.{Any, Exists, Scalar}
use Rattle.query_laws.specs.spines.Spines.{all_behind, is_spine, spine_join}
use Rattle.query_laws.specs.declared.spines.spine.Spine.{Spine}
use Rattle.rewrite_move.specs.Traced.{below_groups, traced_of, traced_sub}
use Rattle.worked_examples.specs.Queries.{none, num, x, y, holding, col, number, compared, r, s, item, select, printed, reckoned, same, two_alone}

-- ---- joins over spines

-- of a row of r, which has two columns, and one of s together: column 2 is c, and column 0 is a
abbrev same_spine : Spine
same_spine = record { base = s; test = Some (compared compare.Equal (col 0 2) (col 0 0)); items = item (col 0 2) ∷ [] }

abbrev joined : JoinKind → Query
joined kind = spine_join kind r same_spine

inner-joined : printed (joined Inner) two_alone
    ≡ Good ((num 2 ∷ y ∷ num 2 ∷ []) ∷ (num 2 ∷ y ∷ num 2 ∷ []) ∷ (num 2 ∷ y ∷ num 2 ∷ []) ∷ (num 2 ∷ y ∷ num 2 ∷ []) ∷ [])
inner-joined = refl

inner-dependent : printed (ApplyOf Inner r same) two_alone ≡ printed (joined Inner) two_alone
inner-dependent = refl

-- a row of r without partner stands beside NULL
left-joined : printed (joined Left) (holding ((num 1 ∷ x ∷ []) ∷ (Null ∷ y ∷ []) ∷ []) ((num 1 ∷ []) ∷ []))
    ≡ Good ((num 1 ∷ x ∷ num 1 ∷ []) ∷ (Null ∷ y ∷ Null ∷ []) ∷ [])
left-joined = refl

left-dependent : printed (ApplyOf Left r same) two_alone ≡ printed (joined Left) two_alone
left-dependent = refl

-- a column of r among the items would not be NULL there
its-own_column : all_behind 2 (item (col 0 2) ∷ []) ≡ true
its-own_column = refl

no-column_of_the_row : all_behind 2 (item (col 0 0) ∷ []) ≡ false
no-column_of_the_row = refl

no-constant : all_behind 2 (item (number 1) ∷ []) ≡ false
no-constant = refl

-- ---- which queries are spines

one_selection : is_spine same ≡ true
one_selection = refl

-- above another selection one has to be free of faults
two_selections : is_spine (FilterOf same (compared compare.Less (col 0 0) (number 5)) none end_of-Sublink) ≡ true
two_selections = refl

a-sum_above : is_spine (FilterOf same (compared compare.Less (reckoned Add (col 0 0) (number 1)) (number 5)) none end_of-Sublink) ≡ false
a-sum_above = refl

a-sum_below : is_spine (FilterOf s (compared compare.Less (reckoned Add (col 0 0) (number 1)) (col 1 0)) none end_of-Sublink) ≡ true
a-sum_below = refl

above-limit : is_spine (LimitOf same [] 0) ≡ false
above-limit = refl

-- a LIMIT that reads no outer row is a base
a-closed_limit : is_spine (LimitOf s [] 0) ≡ true
a-closed_limit = refl

-- ---- what is traced

-- SELECT MAX(c) FROM s WHERE c = r.a
abbrev greatest : Query
greatest = AggregateOf same [] (record { function = Max; argument = Some (col 0 0); kind = kind.Integer } ∷ [])

below-a_group : below_groups greatest ≡ same
below-a_group = refl

-- SELECT DISTINCT 1 FROM s WHERE c = r.a
below-distinct : below_groups (DistinctOf (select (item (number 1) ∷ []) same)) ≡ same
below-distinct = refl

-- LIMIT leaves rows out, which then don't contribute
not-below_limit : below_groups (LimitOf greatest [] 0) ≡ LimitOf greatest [] 0
not-below_limit = refl

traced-scalar : traced_sub (record { kind = Scalar; tested = None; query = greatest }) ≡ record { kind = Exists; tested = None; query = same }
traced-scalar = refl

-- 1 IN (SELECT MAX(c) ..): what is compared is the group's column
traced-any : traced_of (record { kind = Any compare.Equal; tested = Some (number 1); query = greatest }) ≡ greatest
traced-any = refl
