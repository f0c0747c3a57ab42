-- Worked examples of open sublinks, over the tables r(a INTEGER) and s(c INTEGER): by candidates a closed sublink gives open ones, and by dependent
-- joins none.
use Rattle.std.specs.Prelude.{◌≡◌, true, [], ◌∷◌, None, refl}
use Rattle.std.proofs.Common.{sym, true≢false}
use Rattle.bag_algebra.specs.Closed.{is_closed}
use Rattle.bag_algebra.specs.declared.expr.Expr.TheBlock.{shape-the_row-Expr-0, hidden-the_row-Expr-0, shape-the_row-Expr-1, hidden-the_row-Expr-1, shape-the_row-Arm-3, hidden-the_row-Arm-3}
use Rattle.bag_algebra.specs.declared.expr.Expr.TheVariants.{Sub}
use Rattle.bag_algebra.specs.declared.query.Query.{Query}
use Rattle.bag_algebra.specs.declared.query.Query.TheBlock.{shape-the_row-Query-0, hidden-the_row-Query-0, shape-the_row-Sublink-1, hidden-the_row-Sublink-1}
use Rattle.bag_algebra.specs.declared.query.Query.TheVariants.{Filter}
use Rattle.bag_algebra.specs.declared.query.SubKind.TheVariants.{Exists}
use Rattle.bag_algebra.specs.declared.query.Sublink.{Sublink}
use Rattle.lateral_rewrite.specs.Dependent as dependent
use Rattle.rewrite_core.specs.rewritings.OpenSublinks.{IsClosedSublink, NoOpenSublink, NoSublinkReadsOut}
use Rattle.rewrite_sublink.specs.Candidates as candidate
use Rattle.worked_examples.specs.Queries.{isnt, s}
use Rattle.worked_examples.specs.RewrittenRows.{all_others, exists, node, table, twice}

-- ---- SELECT a FROM r WHERE NOT a <> ALL (SELECT c FROM s)

closed-all : NoSublinkReadsOut (node (isnt (Sub 0)) (all_others s))
unfolding shape-the_row-Query-0 hidden-the_row-Query-0 shape-the_row-Sublink-1 hidden-the_row-Sublink-1 shape-the_row-Expr-0 hidden-the_row-Expr-0 shape-the_row-Expr-1 hidden-the_row-Expr-1 package.denote.Hole.Carrier.hidden
closed-all = (tt, (refl, tt, tt))

none-open : NoOpenSublink (node (isnt (Sub 0)) (all_others (table 2)))
unfolding shape-the_row-Query-0 hidden-the_row-Query-0 shape-the_row-Sublink-1 hidden-the_row-Sublink-1 shape-the_row-Expr-0 hidden-the_row-Expr-0 shape-the_row-Expr-1 hidden-the_row-Expr-1 package.denote.Hole.Carrier.hidden
none-open = (tt, (tt, tt, tt))

closed-sublink : IsClosedSublink (all_others (table 2))
closed-sublink = record { closed = tt; inside = tt }

-- ---- SELECT a FROM r WHERE EXISTS (SELECT c FROM s WHERE c < a)

open-exists : NoSublinkReadsOut (node (Sub 0) (exists s)) → ⊥
unfolding shape-the_row-Query-0 hidden-the_row-Query-0 shape-the_row-Sublink-1 hidden-the_row-Sublink-1 shape-the_row-Expr-0 hidden-the_row-Expr-0 shape-the_row-Expr-1 hidden-the_row-Expr-1 package.denote.Hole.Carrier.hidden
open-exists h = true≢false (sym h.1.0)

-- ---- SELECT a FROM r WHERE EXISTS (SELECT c FROM s x WHERE EXISTS (SELECT c FROM s WHERE c < x.c)): the inner one is open, the outer one isn't

abbrev nested : Sublink
nested = record { kind = Exists; tested = None; query = Filter s (Sub 0) (exists s ∷ []) }

outer-closed : is_closed (Filter s (Sub 0) (exists s ∷ [])) ≡ true
unfolding shape-the_row-Query-0 hidden-the_row-Query-0 shape-the_row-Sublink-1 hidden-the_row-Sublink-1 shape-the_row-Expr-0 hidden-the_row-Expr-0 shape-the_row-Expr-1 hidden-the_row-Expr-1 package.denote.Hole.Carrier.hidden
outer-closed = refl

inner-open : NoSublinkReadsOut (node (Sub 0) nested) → ⊥
unfolding shape-the_row-Query-0 hidden-the_row-Query-0 shape-the_row-Sublink-1 hidden-the_row-Sublink-1 shape-the_row-Expr-0 hidden-the_row-Expr-0 shape-the_row-Expr-1 hidden-the_row-Expr-1 package.denote.Hole.Carrier.hidden
inner-open h = true≢false (sym h.1.1.1.0)

-- ---- rewritings of the first

abbrev own : Query
own = Filter (twice 1) (isnt (Sub 0)) (all_others (table 2) ∷ [])

-- an EXISTS over the rewriting of the sublink's query compares its rows with the candidate
open-by_candidates : NoSublinkReadsOut (candidate.all_contributed own (all_others s ∷ []) (all_others (table 2) ∷ []) (twice 2 ∷ [])) → ⊥
unfolding shape-the_row-Query-0 hidden-the_row-Query-0 shape-the_row-Sublink-1 hidden-the_row-Sublink-1 shape-the_row-Expr-0 hidden-the_row-Expr-0 shape-the_row-Expr-1 hidden-the_row-Expr-1 shape-the_row-Arm-3 hidden-the_row-Arm-3 package.denote.Hole.Carrier.hidden
open-by_candidates h = true≢false (sym h.1.0)

closed-by_join : NoSublinkReadsOut (dependent.all_contributed own (all_others (table 2) ∷ []) (twice 2 ∷ []))
unfolding shape-the_row-Query-0 hidden-the_row-Query-0 shape-the_row-Sublink-1 hidden-the_row-Sublink-1 shape-the_row-Expr-0 hidden-the_row-Expr-0 shape-the_row-Expr-1 hidden-the_row-Expr-1 package.denote.Hole.Carrier.hidden
closed-by_join = (((((tt, tt), (refl, tt, tt)), (refl, tt, tt)), (((tt, tt), tt), tt)), tt)
