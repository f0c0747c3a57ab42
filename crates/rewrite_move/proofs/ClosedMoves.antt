-- Rows beside what sublinks contribute have no open sublink where the rows and the rewritings have none and the sublinks are closed.
use Rattle.std.proofs.Common.{ℕ, suc, Bool, true, false, cond, List, [], ◌∷◌, All, map, Option, Some, None}
use Rattle.std.proofs.lemmas.List.Elements.{All-nil, All-head, All-tail}
use Rattle.bag_algebra.specs.Kinds.{width_of}
use Rattle.bag_algebra.specs.Scoped.{no_subs as has_none}
use Rattle.bag_algebra.specs.built.Patterns.{BaseOf, FilterOf, ProjectOf, JoinOf, ApplyOf, UnionOf, IntersectOf, ExceptOf, DistinctOf, AggregateOf, LimitOf, ProvOf}
use Rattle.bag_algebra.specs.declared.expr.Expr.{Expr}
use Rattle.bag_algebra.specs.declared.query.Query.{Query}
use Rattle.bag_algebra.specs.declared.query.Query.TheVariants.{Table, Single}
use Rattle.bag_algebra.specs.declared.query.SubKind.{SubKind}
use Rattle.bag_algebra.specs.declared.query.SubKind.TheVariants as way
use Rattle.bag_algebra.specs.declared.query.Sublink.{Sublink}
use Rattle.contribution.specs.NullItems.{null_item}
use Rattle.lateral_rewrite.proofs.ClosedContributions.{contributed-closed}
use Rattle.lateral_rewrite.specs.declared.choices.Choice.{Choice}
use Rattle.rewrite_core.proofs.ClosedSublinks.{closed-Project}
use Rattle.rewrite_core.specs.rewritings.OpenSublinks.{IsClosedSublink, NoOpenSublink}
use Rattle.rewrite_move.specs.ForcedTruths.{forces}
use Rattle.rewrite_move.specs.Moved.{all_moved, matched, moved, moved_by, operand_item, provenance_kinds}
use Rattle.rewrite_move.specs.Shares.{share_of}
use Rattle.rewrite_move.specs.Traced.{below_by, below_groups, query_from, traced_of}
use Rattle.rewrite_move.specs.declared.below.Origin.{Origin}
use Rattle.rewrite_move.specs.declared.share.Share.{Share}
use Rattle.rewrite_move.specs.declared.share.Share.TheVariants.{NoRow, AllRows, MatchingRows, ByValue}
use Rattle.rewrite_sublink.specs.Candidates.{beside_row}
use Rattle.query_laws.specs.spines.Spines.{IsJoined, IsSpine, closed, dependent, filtered, ordinary, projected}
use Rattle.query_laws.specs.declared.spines.spine.Spine.{Spine}

-- ---- joins

base-closed : {width : ℕ} {q : Query} {spine : Spine} → IsSpine width q spine → NoOpenSublink q → NoOpenSublink spine.base
base-closed (closed q c w) h = h
base-closed (filtered input spine condition placed s p m) h = base-closed s h.0
base-closed (projected input spine items placed s p w) h = base-closed s h.0

pub joined-closed : {rows right p : Query} → IsJoined rows right p → NoOpenSublink rows → NoOpenSublink right → NoOpenSublink p
joined-closed dependent g h = (g, h)
joined-closed (ordinary spine is) g h = ((g, base-closed is h, tt), tt)

-- ---- what is traced

closed-below : (q : Query) → NoOpenSublink q → NoOpenSublink (below_groups q)
closed-below (Table id kinds) h = h
closed-below Single h = h
closed-below (BaseOf input places label) h = h
closed-below (FilterOf input condition form subs) h = h
closed-below (JoinOf kind left right condition form subs) h = h
closed-below (ApplyOf kind left right) h = h
closed-below (UnionOf all left right) h = h
closed-below (IntersectOf all left right) h = h
closed-below (ExceptOf all left right) h = h
closed-below (LimitOf input keys count) h = h
closed-below (ProvOf input) h = h
closed-below (ProjectOf input items form subs) h = by_subs (closed-below input h.0) (has_none subs) where
  by_subs : NoOpenSublink (below_groups input) → (b : Bool) → NoOpenSublink (cond b (below_groups input) (ProjectOf input items form subs))
  by_subs below true = below
  by_subs below false = h
closed-below (DistinctOf input) h = closed-below input h
closed-below (AggregateOf input groups aggregates) h = closed-below input h

closed-by : (kind : SubKind) (query : Query) → NoOpenSublink query → NoOpenSublink (below_by kind query)
closed-by way.Exists query h = closed-below query h
closed-by (way.Any c) query h = h
closed-by (way.All c) query h = h
closed-by way.Scalar query h = closed-below query h

pub traced-closed : (sub : Sublink) → NoOpenSublink sub.query → NoOpenSublink (traced_of sub)
traced-closed sub h = closed-by sub.kind sub.query h

-- ---- what contributes

matched-closed : (choice : Choice) (tested : Option Expr) (rows : Query) (sub : Sublink) (r : Query) → NoOpenSublink rows → NoOpenSublink r →
    NoOpenSublink (matched choice tested rows sub r)
matched-closed choice None rows sub r h k = (h, (k, tt))
matched-closed choice (Some operand) rows sub r h k =
    ((closed-Project rows (beside_row rows (operand_item sub operand ∷ [])) [] h (All-nil IsClosedSublink), ((k, tt), tt)), tt)

by-closed : (share : Share) (query rows : Query) (stand : Sublink) (r : Query) → NoOpenSublink rows → IsClosedSublink stand → NoOpenSublink r →
    NoOpenSublink (moved_by share query rows stand r)
by-closed NoRow query rows stand r h s k =
    closed-Project rows (beside_row rows (map null_item (provenance_kinds r (width_of query)))) [] h (All-nil IsClosedSublink)
by-closed AllRows query rows stand r h s k = (h, (k, tt))
by-closed (MatchingRows choice) query rows stand r h s k = matched-closed choice stand.tested rows stand r h k
by-closed ByValue query rows stand r h s k = contributed-closed rows stand r h s k

pub all-moved-closed : (origin : Origin) (condition : Expr) (at : ℕ) (rows : Query) (subs standing : List Sublink) (rewritings : List Query) → NoOpenSublink rows →
    All IsClosedSublink standing → All NoOpenSublink rewritings → NoOpenSublink (all_moved origin condition at rows subs standing rewritings)
all-moved-closed origin condition at rows [] standing rewritings h s k = h
all-moved-closed origin condition at rows (sub ∷ subs) [] rewritings h s k = h
all-moved-closed origin condition at rows (sub ∷ subs) (stand ∷ standing) [] h s k = h
all-moved-closed origin condition at rows (sub ∷ subs) (stand ∷ standing) (r ∷ rewritings) h s k =
    all-moved-closed origin condition (suc at) (moved origin (forces condition at) rows sub stand r) subs standing rewritings
    (by-closed (share_of sub.kind (forces condition at)) (query_from origin sub) rows stand r h (All-head IsClosedSublink stand standing s)
    (All-head NoOpenSublink r rewritings k))
    (All-tail IsClosedSublink stand standing s) (All-tail NoOpenSublink r rewritings k)
