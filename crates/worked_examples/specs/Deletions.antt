-- Worked examples of monotone queries, and of witness lists with doomed rows: over r(a INTEGER, b TEXT) and s(c INTEGER).
use Rattle.std.specs.Prelude.{◌≡◌, true, false, [], ◌∷◌, Some, None, map, refl, codes}
use Rattle.null_logic.specs.declared.compare.Compare.TheVariants as compare
use Rattle.perm_values.specs.declared.kind.Kind.TheVariants as kind
use Rattle.perm_values.specs.declared.value.Value.TheVariants.{Null}
use Rattle.bag_algebra.specs.Meaning.{Database, witnesses}
use Rattle.bag_algebra.specs.Means.{Held, Empty}
use Rattle.bag_algebra.specs.built.Patterns.{IsNullOf, BaseOf, FilterOf, JoinOf, UnionOf, IntersectOf, ExceptOf, DistinctOf, AggregateOf, LimitOf, ProvOf}
use Rattle.bag_algebra.specs.declared.expr.Expr.{Expr}
use Rattle.bag_algebra.specs.declared.expr.Expr.TheVariants.{Sub}
use Rattle.bag_algebra.specs.declared.query.JoinKind.TheVariants.{Inner, Left}
use Rattle.bag_algebra.specs.declared.query.Label.TheVariants.{Relation, External}
use Rattle.bag_algebra.specs.declared.query.Query.{Query, end_of-Sublink}
use Rattle.bag_algebra.specs.declared.query.Query.TheVariants.{Table, Single}
use Rattle.bag_algebra.specs.declared.query.SubKind.TheVariants.{Exists}
use Rattle.query_facts.specs.monotone.Monotone.{is_monotone}
use Rattle.delete_impact.specs.vanishing.Doomed.{after_deletion, has_doomed, is_doomed, places_over}
use Rattle.worked_examples.specs.Queries.{none, num, x, z, holding, col, number, yes, compared, r, s, item, named, select, select_a, where_sub, united}

-- ---- which queries are monotone

source-monotone : is_monotone r ≡ true
source-monotone = refl

table-not_monotone : is_monotone (Table 2 (kind.Integer ∷ [])) ≡ false
table-not_monotone = refl

single-monotone : is_monotone (select (item (number 1) ∷ []) Single) ≡ true
single-monotone = refl

-- some of the places of a table, and all of them in another order
part-not_monotone : is_monotone (BaseOf (Table 1 (kind.Integer ∷ kind.Text ∷ [])) (0 ∷ []) (Relation (codes "r") (codes "a" ∷ []))) ≡ false
part-not_monotone = refl

turned-not_monotone : is_monotone (BaseOf (Table 1 (kind.Integer ∷ kind.Text ∷ [])) (1 ∷ 0 ∷ []) (Relation (codes "r") (codes "b" ∷ codes "a" ∷ []))) ≡ false
turned-not_monotone = refl

external-not_monotone : is_monotone (BaseOf (Table 2 (kind.Integer ∷ [])) (0 ∷ []) (External (codes "c" ∷ []))) ≡ false
external-not_monotone = refl

-- a source over another source
nested-not_monotone : is_monotone (BaseOf s (0 ∷ []) (Relation (codes "s") (codes "c" ∷ []))) ≡ false
nested-not_monotone = refl

-- SELECT DISTINCT a FROM r, s WHERE a = c UNION SELECT c FROM s
abbrev matched : Query
matched = DistinctOf (select_a (FilterOf (JoinOf Inner r s yes none end_of-Sublink) (compared compare.Equal (col 0 0) (col 0 2)) none end_of-Sublink))

union-monotone : is_monotone (UnionOf false matched (select_a s)) ≡ true
union-monotone = refl

left_join-not_monotone : is_monotone (JoinOf Left r s yes none end_of-Sublink) ≡ false
left_join-not_monotone = refl

sublink-not_monotone : is_monotone (where_sub (Sub 0) Exists None s r) ≡ false
sublink-not_monotone = refl

intersect-not_monotone : is_monotone (IntersectOf false s s) ≡ false
intersect-not_monotone = refl

except-not_monotone : is_monotone (ExceptOf true s s) ≡ false
except-not_monotone = refl

grouping-not_monotone : is_monotone (AggregateOf s (0 ∷ []) []) ≡ false
grouping-not_monotone = refl

limit-not_monotone : is_monotone (LimitOf s [] 1) ≡ false
limit-not_monotone = refl

provenance-not_monotone : is_monotone (DistinctOf (ProvOf s)) ≡ false
provenance-not_monotone = refl

-- ---- doomed rows

-- a > 1, and c IS NULL
abbrev greater : Expr
greater = compared compare.Greater (col 0 0) (number 1)

abbrev unknown : Expr
unknown = IsNullOf (col 0 0)

true-doomed : is_doomed (Some greater) (num 2 ∷ x ∷ []) ≡ true
true-doomed = refl

false-stays : is_doomed (Some greater) (num 1 ∷ x ∷ []) ≡ false
false-stays = refl

unknown-stays : is_doomed (Some greater) (Null ∷ x ∷ []) ≡ false
unknown-stays = refl

every-doomed : is_doomed None (Null ∷ x ∷ []) ≡ true
every-doomed = refl

-- DELETE FROM r WHERE a > 1
abbrev rows : Database
rows = holding ((num 1 ∷ x ∷ []) ∷ (num 2 ∷ x ∷ []) ∷ (num 3 ∷ z ∷ []) ∷ []) ((num 2 ∷ []) ∷ [])

deleted : after_deletion 1 (Some greater) rows 1 ≡ (num 1 ∷ x ∷ []) ∷ []
deleted = refl

another_table-stays : after_deletion 1 (Some greater) rows 2 ≡ (num 2 ∷ []) ∷ []
another_table-stays = refl

-- SELECT b FROM r: one of the lists of x has no doomed row, the one of z has
abbrev texts : Query
texts = select (named (col 0 1) ∷ []) r

some_list-spared : map (has_doomed (Some greater) (places_over 1 texts)) (witnesses texts rows [] (x ∷ [])) ≡ false ∷ true ∷ []
some_list-spared = refl

no_list-spared : map (has_doomed (Some greater) (places_over 1 texts)) (witnesses texts rows [] (z ∷ [])) ≡ true ∷ []
no_list-spared = refl

-- SELECT c FROM s UNION SELECT a FROM r, with a NULL on both sides: nothing at the place of s is no doomed row of NULLs
abbrev nulls : Database
nulls = holding ((Null ∷ x ∷ []) ∷ []) ((Null ∷ []) ∷ (num 1 ∷ []) ∷ [])

empty-lists : witnesses united nulls [] (Null ∷ []) ≡ (Held (Null ∷ []) ∷ Empty 2 ∷ []) ∷ (Empty 1 ∷ Held (Null ∷ x ∷ []) ∷ []) ∷ []
empty-lists = refl

empty-spared : map (has_doomed (Some unknown) (places_over 2 united)) (witnesses united nulls [] (Null ∷ [])) ≡ true ∷ false ∷ []
empty-spared = refl

-- SELECT x.c FROM s x, s y: both places are over s
self_join-places : places_over 2 (select_a (JoinOf Inner s s yes none end_of-Sublink)) ≡ true ∷ true ∷ []
self_join-places = refl

other-places : places_over 1 (JoinOf Inner r s yes none end_of-Sublink) ≡ true ∷ false ∷ []
other-places = refl
