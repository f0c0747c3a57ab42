-- Worked examples of a query in the place of a table: t holds the rows of SELECT PROVENANCE a FROM r, and that stands for it.
use Rattle.std.specs.Prelude.{◌≡◌, ◌==◌, cond, false, List, [], ◌∷◌, Some, refl, codes}
use Rattle.null_logic.specs.declared.compare.Compare.TheVariants as compare
use Rattle.perm_values.specs.declared.kind.Kind.{Kind}
use Rattle.perm_values.specs.declared.kind.Kind.TheVariants as kind
use Rattle.perm_values.specs.declared.value.Value.TheVariants.{Null}
use Rattle.bag_algebra.specs.Bags.{Bag}
use Rattle.bag_algebra.specs.Kinds.{kinds_of, shape}
use Rattle.bag_algebra.specs.Meaning.{Database, witnesses}
use Rattle.bag_algebra.specs.Means.{Held, Empty}
use Rattle.bag_algebra.specs.Outcome.{Good}
use Rattle.bag_algebra.specs.TablesRead.{TableRead, tables_read}
use Rattle.bag_algebra.specs.built.Patterns.{ApplyOf, BaseOf, FilterOf, JoinOf, ProvOf, UnionOf}
use Rattle.bag_algebra.specs.declared.expr.Expr.TheVariants.{Sub}
use Rattle.bag_algebra.specs.declared.query.JoinKind.TheVariants.{Inner, Left}
use Rattle.bag_algebra.specs.declared.query.Label.TheVariants.{External}
use Rattle.bag_algebra.specs.declared.query.SubKind.TheVariants.{Any}
use Rattle.bag_algebra.specs.declared.query.Query.{Query, end_of-Sublink}
use Rattle.bag_algebra.specs.declared.query.Query.TheVariants.{Table}
use Rattle.query_laws.specs.replaced.OverQueries.{over_queries, standing}
use Rattle.worked_examples.specs.Queries.{none, num, x, y, holding, col, number, compared, r, s, item, select, select_a, where_sub, printed, traced}

abbrev columns : List Kind
columns = kind.Integer ∷ kind.Integer ∷ kind.Text ∷ []

-- t(a INTEGER, prov_r_a INTEGER, prov_r_b TEXT) has identity 3
abbrev t : Query
t = Table 3 columns

abbrev storing : Bag → Bag → Bag → Database
storing ts rs ss id = cond (id == 3) ts (holding rs ss id)

abbrev replaced : Query → Query
replaced q = over_queries (standing 3 traced) q

-- t has the rows of that, in another order
abbrev fresh : Database
fresh = storing ((num 2 ∷ num 2 ∷ y ∷ []) ∷ (num 1 ∷ num 1 ∷ x ∷ []) ∷ [])
    ((num 1 ∷ x ∷ []) ∷ (num 2 ∷ y ∷ []) ∷ (num 2 ∷ y ∷ []) ∷ []) ((num 2 ∷ []) ∷ (num 3 ∷ []) ∷ [])

stored-rows : printed t fresh ≡ Good ((num 1 ∷ num 1 ∷ x ∷ []) ∷ (num 2 ∷ num 2 ∷ y ∷ []) ∷ [])
stored-rows = refl

traced-rows : printed traced fresh ≡ Good ((num 1 ∷ num 1 ∷ x ∷ []) ∷ (num 2 ∷ num 2 ∷ y ∷ []) ∷ [])
traced-rows = refl

traced-columns : kinds_of traced ≡ columns
traced-columns = refl

traced-places : shape traced ≡ []
traced-places = refl

-- ---- below a filter: SELECT a FROM t WHERE a > 1

abbrev large : Query → Query
large q = select_a (FilterOf q (compared compare.Greater (col 0 0) (number 1)) none end_of-Sublink)

filter-query : replaced (large t) ≡ large traced
filter-query = refl

filter-rows : printed (large t) fresh ≡ Good ((num 2 ∷ []) ∷ [])
filter-rows = refl

filter-rows_replaced : printed (replaced (large t)) fresh ≡ Good ((num 2 ∷ []) ∷ [])
filter-rows_replaced = refl

-- where r has changed since, the two differ
abbrev stale : Database
stale = storing ((num 1 ∷ num 1 ∷ x ∷ []) ∷ []) ((num 1 ∷ x ∷ []) ∷ (num 2 ∷ y ∷ []) ∷ []) []

stale-rows : printed (large t) stale ≡ Good []
stale-rows = refl

stale-rows_replaced : printed (replaced (large t)) stale ≡ Good ((num 2 ∷ []) ∷ [])
stale-rows_replaced = refl

-- ---- in a sublink: SELECT a FROM r WHERE a IN (SELECT a FROM t WHERE a > 1); r stays, here and below the PROVENANCE

abbrev in_large : Query → Query
in_large q = select_a (where_sub (Sub 0) (Any compare.Equal) (Some (col 0 0)) (large q) r)

sublink-query : replaced (in_large t) ≡ in_large traced
sublink-query = refl

sublink-rows : printed (in_large t) fresh ≡ Good ((num 2 ∷ []) ∷ (num 2 ∷ []) ∷ [])
sublink-rows = refl

sublink-rows_replaced : printed (replaced (in_large t)) fresh ≡ Good ((num 2 ∷ []) ∷ (num 2 ∷ []) ∷ [])
sublink-rows_replaced = refl

-- ---- twice in a join: SELECT x.a, y.a FROM t x JOIN t y ON x.a < y.a

abbrev pairs : Query → Query
pairs q = select (item (col 0 0) ∷ item (col 0 3) ∷ []) (JoinOf Inner q q (compared compare.Less (col 0 0) (col 0 3)) none end_of-Sublink)

join-query : replaced (pairs t) ≡ pairs traced
join-query = refl

join-rows : printed (pairs t) fresh ≡ Good ((num 1 ∷ num 2 ∷ []) ∷ [])
join-rows = refl

join-rows_replaced : printed (replaced (pairs t)) fresh ≡ Good ((num 1 ∷ num 2 ∷ []) ∷ [])
join-rows_replaced = refl

-- it reads r twice
join-tables : tables_read (replaced (pairs t)) ≡
    (let of_r : TableRead = record { id = 1; kinds = kind.Integer ∷ kind.Text ∷ [] } in of_r ∷ of_r ∷ [])
join-tables = refl

-- ---- NULLs for as many columns: SELECT * FROM s LEFT JOIN t ON s.c = t.a

abbrev kept_left : Query → Query
kept_left q = JoinOf Left s q (compared compare.Equal (col 0 0) (col 0 1)) none end_of-Sublink

left_join-rows : printed (kept_left t) fresh ≡ Good ((num 2 ∷ num 2 ∷ num 2 ∷ y ∷ []) ∷ (num 3 ∷ Null ∷ Null ∷ Null ∷ []) ∷ [])
left_join-rows = refl

left_join-rows_replaced : printed (replaced (kept_left t)) fresh ≡ Good ((num 2 ∷ num 2 ∷ num 2 ∷ y ∷ []) ∷ (num 3 ∷ Null ∷ Null ∷ Null ∷ []) ∷ [])
left_join-rows_replaced = refl

-- a table that is read with fewer columns gives fewer NULLs
abbrev narrow : Query
narrow = Table 3 (kind.Integer ∷ [])

narrow-rows : printed (kept_left narrow) fresh ≡ Good ((num 2 ∷ num 2 ∷ num 2 ∷ y ∷ []) ∷ (num 3 ∷ Null ∷ []) ∷ [])
narrow-rows = refl

narrow-rows_replaced : printed (replaced (kept_left narrow)) fresh ≡ Good ((num 2 ∷ num 2 ∷ num 2 ∷ y ∷ []) ∷ (num 3 ∷ Null ∷ Null ∷ Null ∷ []) ∷ [])
narrow-rows_replaced = refl

-- ---- at the right of a dependent join: SELECT s.c, x.a FROM s CROSS JOIN LATERAL (SELECT a FROM t WHERE a = s.c) x

abbrev under_s : Query → Query
under_s q = ApplyOf Inner s (select_a (FilterOf q (compared compare.Equal (col 0 0) (col 1 0)) none end_of-Sublink))

lateral-query : replaced (under_s t) ≡ under_s traced
lateral-query = refl

lateral-rows : printed (under_s t) fresh ≡ Good ((num 2 ∷ num 2 ∷ []) ∷ [])
lateral-rows = refl

lateral-rows_replaced : printed (replaced (under_s t)) fresh ≡ Good ((num 2 ∷ num 2 ∷ []) ∷ [])
lateral-rows_replaced = refl

-- ---- below PROVENANCE: SELECT PROVENANCE a FROM t PROVENANCE (prov_r_a, prov_r_b) UNION SELECT c FROM s

abbrev external : Query → Query
external q = BaseOf q (1 ∷ 2 ∷ []) (External (codes "prov_r_a" ∷ codes "prov_r_b" ∷ []))

abbrev with_s : Query → Query
with_s q = UnionOf false (select_a (external q)) s

prov-query : replaced (ProvOf (with_s t)) ≡ ProvOf (with_s traced)
prov-query = refl

-- 2 has the list of t's row and that of s's row, each beside nothing at the other's place
prov-lists : witnesses (with_s t) fresh [] (num 2 ∷ []) ≡ (Held (num 2 ∷ y ∷ []) ∷ Empty 1 ∷ []) ∷ (Empty 2 ∷ Held (num 2 ∷ []) ∷ []) ∷ []
prov-lists = refl

prov-lists_replaced : witnesses (replaced (with_s t)) fresh [] (num 2 ∷ []) ≡ (Held (num 2 ∷ y ∷ []) ∷ Empty 1 ∷ []) ∷ (Empty 2 ∷ Held (num 2 ∷ []) ∷ []) ∷ []
prov-lists_replaced = refl

prov-rows : printed (ProvOf (with_s t)) fresh
    ≡ Good ((num 1 ∷ num 1 ∷ x ∷ Null ∷ []) ∷ (num 2 ∷ num 2 ∷ y ∷ Null ∷ []) ∷ (num 2 ∷ Null ∷ Null ∷ num 2 ∷ []) ∷ (num 3 ∷ Null ∷ Null ∷ num 3 ∷ []) ∷ [])
prov-rows = refl

prov-rows_replaced : printed (replaced (ProvOf (with_s t))) fresh
    ≡ Good ((num 1 ∷ num 1 ∷ x ∷ Null ∷ []) ∷ (num 2 ∷ num 2 ∷ y ∷ Null ∷ []) ∷ (num 2 ∷ Null ∷ Null ∷ num 2 ∷ []) ∷ (num 3 ∷ Null ∷ Null ∷ num 3 ∷ []) ∷ [])
prov-rows_replaced = refl

-- a query with places gives entries where a table gives none: SELECT a FROM r in the place of a table of its rows
abbrev copied : Database
copied = storing ((num 1 ∷ []) ∷ []) ((num 1 ∷ x ∷ []) ∷ []) []

places-lists : witnesses narrow copied [] (num 1 ∷ []) ≡ [] ∷ []
places-lists = refl

places-lists_replaced : witnesses (over_queries (standing 3 (select_a r)) narrow) copied [] (num 1 ∷ []) ≡ (Held (num 1 ∷ x ∷ []) ∷ []) ∷ []
places-lists_replaced = refl
